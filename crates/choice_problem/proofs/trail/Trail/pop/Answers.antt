use Rattle.choice_problem.proofs.TrailEnds.{trail-pop}
use Rattle.choice_problem.proofs.trail.Trail.pop.Goals as goal

pub invariant_of-self-2 : goal.invariant_of-self-2
invariant_of-self-2 c =
    let s = c.self.inside in
    trail-pop c.pop.new.self s.choices s.values c.remove.new.self s.instances c.drop_instance.new.instances c.in-Some.c c.self.invariant c.in-Some.ensures c.remove.ensures c.drop_instance.ensures
