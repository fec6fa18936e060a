use Rattle.std.proofs.Common.{◌≡◌, ℕ, List, [], ◌++◌, ap, ◌∙◌, sym, subst, arith}
use Rattle.std.specs.List.{Contains}
use Rattle.std.specs.List.Sorted.{IsNonDecreasing, IsPermutation}
use Rattle.std.proofs.lemmas.List.Sorted.{Contains-permutation, IsNonDecreasingBy-from_sort, IsPermutation-sym}
use Rattle.solver_index.proofs.inside_places.push_block.Goals as goal

-- the sorted bounds have the same members
record AreSorted (more sorted : List ℕ) : Type 0 where
  there : (t : ℕ) → Contains more t → Contains sorted t
  back : (t : ℕ) → Contains sorted t → Contains more t

sorted-from : (old more pushed taken sorted given : List ℕ) → old ≡ [] → pushed ≡ old ++ more → taken ≡ pushed → IsPermutation taken sorted → given ≡ sorted → AreSorted more given
sorted-from old more pushed taken sorted given none extends took permuted is =
    let same : taken ≡ more = took ∙ extends ∙ ap (λ l. l ++ more) none in
    record {
      there = λ t h. subst (λ l. Contains l t) (sym is) (Contains-permutation taken sorted t permuted (subst (λ l. Contains l t) (sym same) h));
      back = λ t h. subst (λ l. Contains l t) same (Contains-permutation sorted taken t (IsPermutation-sym taken sorted permuted) (subst (λ l. Contains l t) is h));
    }

pub push_segments-requires-clause-rising : goal.push_segments-requires-clause-rising
push_segments-requires-clause-rising c = subst IsNonDecreasing (sym c.as_slice.ensures.value) (IsNonDecreasingBy-from_sort (λ (x : ℕ). x) c.sort_unstable.new.self.items c.sort_unstable.ensures.sorted)

pub push_segments-requires-clause-within : goal.push_segments-requires-clause-within
push_segments-requires-clause-within c = λ t h.
    let bounded = c.in_ok-push_bounds.ensures in
    let sorted = sorted-from c.new-bounds.result bounded.more c.push_bounds.new.bounds c.into_vec-bounds.result.items c.sort_unstable.new.self.items c.as_slice.result.now
    c.new-bounds.ensures bounded.extends c.into_vec-bounds.ensures c.sort_unstable.ensures.permutation c.as_slice.ensures.value in
    bounded.within t (sorted.back t h)

pub push_segments-requires-clause-uniform : goal.push_segments-requires-clause-uniform
push_segments-requires-clause-uniform c = λ a b after up upto free.
    let bounded = c.in_ok-push_bounds.ensures in
    let sorted = sorted-from c.new-bounds.result bounded.more c.push_bounds.new.bounds c.into_vec-bounds.result.items c.sort_unstable.new.self.items c.as_slice.result.now
    c.new-bounds.ensures bounded.extends c.into_vec-bounds.ensures c.sort_unstable.ensures.permutation c.as_slice.ensures.value in
    let block = c.requires.block in
    c.requires.follows _ _ (block.numbers a after (omega (arith, up, upto))) (block.numbers b (omega (arith, after, up)) upto) (block.rise a b after up upto)
    (bounded.constant a b after up upto (λ t h. free t (sorted.there t h)))
