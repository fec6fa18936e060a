use Rattle.std.proofs.Common.{◌≡◌, take, length}
use Rattle.goal_links.proofs.mentions.Mentions.cut.Given as goal

abbrev pub invariant-loop-self : goal.invariant-loop-self
invariant-loop-self l = take l.len l.self.said ≡ take l.len l.initial.self.said

abbrev pub decreases-loop-self : goal.decreases-loop-self
decreases-loop-self l = length l.self.said
