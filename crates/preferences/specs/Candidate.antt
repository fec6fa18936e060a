-- Candidates: an instance with what its order compares.
use Rattle.std.specs.Prelude.{◌≡◌, List}
use Rattle.std.specs.declared.cmp.Ordering.{Ordering}
use Rattle.std.specs.Ordering.{nat_cmp, ordering_then}
use Rattle.plan_types.specs.declared.index.Instance.{Instance}
use Rattle.plan_types.specs.declared.range.Range.{Range}
use Rattle.preferences.specs.declared.policy.Policy.{Policy}
use Rattle.preferences.specs.declared.candidate.Candidate.{Candidate}
use Rattle.preferences.specs.Places.{is_preferred, true_first, by_policy, by_unit, instance_at}

-- the order of two candidates
abbrev pub candidate_cmp : Policy → Candidate → Candidate → Ordering
candidate_cmp p a b =
    ordering_then (ordering_then (ordering_then (true_first a.preferred b.preferred) (by_policy p a.instance.now b.instance.now)) (by_unit a.instance.now b.instance.now)) (nat_cmp a.place b.place)

-- a candidate for the instance at its place
pub record IsFor (preferred : List Range) (instances : List Instance) (c : Candidate) : Type 0 where
  pub instance : c.instance.now ≡ instance_at instances c.place
  pub preference : c.preferred ≡ is_preferred preferred (instance_at instances c.place)
