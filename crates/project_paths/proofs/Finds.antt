-- What a finder finds is the first occurrence of a piece.
use Rattle.std.proofs.Common.{◌≡◌, ℕ, zero, suc, ◌+◌, ◌<◌, ◌≤◌, List, [], ◌∷◌, ◌++◌, length, drop, take, Some, None, refl, ap, ◌∙◌, arith}
use Rattle.std.proofs.lemmas.List.{length-append, length-drop}
use Rattle.std.proofs.Math.Seq.{take-append_seam}
use Rattle.memchr.specs.Find.{FindsNeedle, OccursAt}
use Rattle.memchr.proofs.lemmas.MatchLemmas.{OccursAt-from_part, OccursAt-split}
use Rattle.project_paths.specs.Pieces.{behind, behind_front, first_of}
use Rattle.project_paths.proofs.Pieces.{front-is, is-front}

module _ (piece : List ℕ) where
  -- ---- an occurrence is a front of the rest

  front-at : (text : List ℕ) (k : ℕ) → OccursAt text piece k → behind_front piece (drop k text) ≡ Some (drop (k + length piece) text)
  front-at text k at = ap (behind_front piece) (OccursAt-split text piece k at) ∙ is-front piece (drop (k + length piece) text)

  occurs-at : (text rest : List ℕ) (k : ℕ) → k ≤ length text → behind_front piece (drop k text) ≡ Some rest → OccursAt text piece k
  occurs-at text rest k within front =
      let is : drop k text ≡ piece ++ rest = front-is piece (drop k text) rest front in
      let all = ap length is ∙ length-append piece rest in
      let left = length-drop k text in
      OccursAt-from_part text piece k (omega (arith, all, left, within)) (ap (take (length piece)) is ∙ take-append_seam piece rest)

  no-front-at : (text : List ℕ) (k : ℕ) → k ≤ length text → (OccursAt text piece k → ⊥) → behind_front piece (drop k text) ≡ None
  no-front-at text k within never =
      elim (behind_front piece (drop k text)) as (λ found. behind_front piece (drop k text) ≡ found → found ≡ None) [
        | None ↦ λ e. refl
        | Some rest ↦ λ e. absurd (never (occurs-at text rest k within e))
      ] refl

  -- ---- the first one

  first-behind : (text rest : List ℕ) (k : ℕ) → k ≤ length text → ((j : ℕ) → j < k → behind_front piece (drop j text) ≡ None)
      → behind_front piece (drop k text) ≡ Some rest → behind piece text ≡ Some rest
  first-behind [] rest zero within before at = at
  first-behind [] rest (suc k) within before at = absurd (omega (arith, within))
  first-behind (b ∷ bs) rest zero within before at = ap (λ found. first_of found (behind piece bs)) at
  first-behind (b ∷ bs) rest (suc k) within before at =
      ap (λ found. first_of found (behind piece bs)) (before zero (omega arith))
      ∙ first-behind bs rest k (omega (arith, within)) (λ j l. before (suc j) (omega (arith, l))) at

  none-behind : (text : List ℕ) → ((j : ℕ) → j ≤ length text → behind_front piece (drop j text) ≡ None) → behind piece text ≡ None
  none-behind [] never = never zero (omega arith)
  none-behind (b ∷ bs) never =
      ap (λ found. first_of found (behind piece bs)) (never zero (omega arith))
      ∙ none-behind bs (λ j l. never (suc j) (omega (arith, l)))

  pub found-behind : (text : List ℕ) (k : ℕ) → FindsNeedle text piece 0 (Some k) → behind piece text ≡ Some (drop (k + length piece) text)
  found-behind text k found =
      let at = found.1 in
      let fits = at.fits in
      first-behind text (drop (k + length piece) text) k (omega (arith, fits))
      (λ j l. no-front-at text j (omega (arith, l, fits)) (found.0.before j (omega arith) l))
      (front-at text k at)

  pub not-behind : (text : List ℕ) → FindsNeedle text piece 0 None → behind piece text ≡ None
  not-behind text nowhere = none-behind text (λ j l. no-front-at text j l (nowhere j (omega arith) (omega (arith, l))))
