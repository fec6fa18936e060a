-- From sorted candidates to places.
use Rattle.std.proofs.Common.{◌≡◌, ℕ, ◌+◌, ◌<◌, false, List, [], ◌∷◌, ◌++◌, length, map, get_or, sym, ap, ◌∙◌, subst, arith}
use Rattle.std.specs.List.{All, range_with_len}
use Rattle.std.specs.List.Sorted.{IsSorted, IsPermutation}
use Rattle.std.specs.Ordering.{is_lt}
use Rattle.std.proofs.lemmas.List.{map-id, get_or-map, length-map}
use Rattle.std.proofs.lemmas.List.FromFn.{map-range_with_len_more}
use Rattle.std.proofs.lemmas.List.Sorted.{IsPermutation-map, All-permutation}
use Rattle.plan_types.specs.declared.index.Instance.{Instance}
use Rattle.plan_types.specs.declared.range.Range.{Range}
use Rattle.preferences.specs.declared.policy.Policy.{Policy}
use Rattle.preferences.specs.declared.candidate.Candidate.{Candidate}
use Rattle.preferences.specs.Places.{place_cmp, IsOrder}
use Rattle.preferences.specs.Candidate.{candidate_cmp, IsFor}

pub range-more : (n : ℕ) → range_with_len 0 (n + 1) ≡ range_with_len 0 n ++ n ∷ []
range-more n =
    sym (map-id (range_with_len 0 (n + 1))) ∙ map-range_with_len_more (λ (x : ℕ). x) 0 n n (omega arith) ∙ ap (λ l. l ++ n ∷ []) (map-id (range_with_len 0 n))

abbrev place_of : Candidate → ℕ
place_of c = c.place

-- candidates compare as their places do
as-places : (p : Policy) (preferred : List Range) (instances : List Instance) (a b : Candidate) → IsFor preferred instances a → IsFor preferred instances b
    → candidate_cmp p a b ≡ place_cmp p preferred instances a.place b.place
as-places p preferred instances a b for_a for_b = cc (for_a.instance, for_a.preference, for_b.instance, for_b.preference)

module _ (p : Policy) (preferred : List Range) (instances : List Instance) where
  pub sorted-places : (cs : List Candidate) → All (IsFor preferred instances) cs → IsSorted (candidate_cmp p) cs → IsSorted (place_cmp p preferred instances) (map place_of cs)
  sorted-places [] each sorted k d low high = absurd (omega (arith, high))
  sorted-places (c ∷ cs) each sorted k d low high =
      let below : k + 1 < length (c ∷ cs) = omega (arith, high, length-map (c ∷ cs) place_of) in
      let this = get_or (c ∷ cs) k c in
      let next = get_or (c ∷ cs) (k + 1) c in
      let at-this = get_or-map place_of (c ∷ cs) k c d (omega (arith, below)) in
      let at-next = get_or-map place_of (c ∷ cs) (k + 1) c d below in
      let same = as-places p preferred instances next this (each (k + 1) c below) (each k c (omega (arith, below))) in
      subst (λ y. is_lt (place_cmp p preferred instances (get_or (map place_of (c ∷ cs)) (k + 1) d) y) ≡ false) (sym at-this)
      (subst (λ x. is_lt (place_cmp p preferred instances x (place_of this)) ≡ false) (sym at-next)
      (sym (ap is_lt same) ∙ sorted k c low below))

  pub is-order : (made cs : List Candidate) → map place_of made ≡ range_with_len 0 (length instances) → All (IsFor preferred instances) made
      → IsPermutation made cs → IsSorted (candidate_cmp p) cs → IsOrder p preferred instances (map place_of cs)
  is-order made cs places each moved sorted =
      record {
        each = subst (λ l. IsPermutation l (map place_of cs)) places (IsPermutation-map place_of made cs moved);
        sorted = sorted-places cs (All-permutation (IsFor preferred instances) made cs moved each) sorted;
      }
