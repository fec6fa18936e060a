use Rattle.std.proofs.Common.{◌≡◌, ◌++◌, take, drop}
use Rattle.goal_links.proofs.mentions.Mentions.take_up_all.Given as goal

abbrev pub invariant-loop : goal.invariant-loop
invariant-loop l = record {
  said : l.self.said ≡ l.initial.self.said ++ take l.counter l.initial.self.spare;
  spare : l.self.spare ≡ drop l.counter l.initial.self.spare;
}
