use Rattle.std.proofs.Common.{◌∙◌, List, sym, ap}
use Rattle.choice_problem.specs.declared.problem.Choice.{Choice}
use Rattle.choice_problem.specs.Trail.{value_in}
use Rattle.choice_problem.proofs.InfallibleCalls.{ok-where}
use Rattle.choice_problem.proofs.TrailEnds.{trail-push}
use Rattle.choice_problem.proofs.trail.Trail.push.Goals as goal

pub invariant_of-self-else-is_err : goal.invariant_of-self-else-is_err
invariant_of-self-else-is_err c =
    let s = c.self.inside in
    let kept = sym c.is_err.ensures.value ∙ c.if-is_err.false in
    trail-push s.choices c.push.new.self s.values c.keep.new.values s.instances c.keep.new.instances c.args.c c.self.invariant
    (ap (λ (t : List Choice). value_in t c.args.c.var) c.self.view_is ∙ c.requires) c.in_ok-push.ensures.ok
    (ok-where c.keep.result c.keep.ensures.values kept) (ok-where c.keep.result c.keep.ensures.instances kept)
