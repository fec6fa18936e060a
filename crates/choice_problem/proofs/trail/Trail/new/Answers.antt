use Rattle.choice_problem.proofs.TrailEnds.{trail-none}
use Rattle.choice_problem.proofs.trail.Trail.new.Goals as goal

pub invariant_of-result : goal.invariant_of-result
invariant_of-result c = trail-none c.new.result c.new-2.result c.new-3.result c.new.ensures c.new-2.ensures (λ n. search c.new-3)
