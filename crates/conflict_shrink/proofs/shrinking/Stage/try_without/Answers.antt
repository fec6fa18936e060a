-- the other variables are known too, and are the set left
use Rattle.std.proofs.Common.{◌≡◌, true, sym, subst, rules}
use Rattle.conflict_shrink.specs.Restricted.{are_known}
use Rattle.conflict_shrink.proofs.Tightens.{known-without}
use Rattle.conflict_shrink.proofs.shrinking.Stage.try_without.Goals as goal

pub new-part-requires : goal.new-part-requires
new-part-requires g c =
    let p = g.C.Choices.problem c.args.choices.now in
    subst (λ set. are_known p set ≡ true) (sym c.in_ok-others.ensures) (known-without p c.args.v c.args.self.now.left c.requires)

pub returns-in-NoPlan-clause-known : goal.returns-in-NoPlan-clause-known
returns-in-NoPlan-clause-known g c =
    let known = known-without (g.C.Choices.problem c.args.choices.now) c.args.v c.args.self.now.left c.requires in
    search rules
