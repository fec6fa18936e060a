use Rattle.std.proofs.Common.{rules}
use Rattle.std.specs.Ordering.{is_lt}
use Rattle.std.proofs.lemmas.List.Sorted.{ranks_by}
use Rattle.std.proofs.lemmas.Fn.{always_returns_same}
use Rattle.preferences.specs.declared.candidate.Candidate.{Candidate}
use Rattle.preferences.specs.Candidate.{candidate_cmp}
use Rattle.preferences.proofs.TotalOrders.{candidate-total}
use Rattle.preferences.proofs.places.sort.Goals as goal

pub returns-clause-sorted : goal.returns-clause-sorted
returns-clause-sorted c =
    c.in_ok-sort_by.ensures.sorted (λ x y. is_lt (candidate_cmp c.args.policy x y)) (ranks_by (candidate-total c.args.policy) (λ (x : Candidate). x))
    (always_returns_same _ _ _ (λ a r g h. search rules))
