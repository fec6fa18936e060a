-- Sorted lists of the same distinct items are equal, if only equal items tie.
use Rattle.std.proofs.Common.{◌≡◌, ◌≢◌, false, List, [], ◌∷◌, refl, sym, ap, ◌∙◌, subst, arith, ⊎_elim}
use Rattle.std.specs.Cmp.{IsTotalOrder}
use Rattle.std.specs.List.{AllPairs, Contains}
use Rattle.std.specs.List.Sorted.{IsSorted}
use Rattle.std.specs.declared.cmp.Ordering.{Ordering}
use Rattle.std.specs.declared.cmp.Ordering.TheVariants.{Less, Equal, Greater}
use Rattle.std.specs.Ordering.{is_lt, ordering_reverse}
use Rattle.std.proofs.lemmas.Bool.{false≢true}
use Rattle.std.proofs.lemmas.List.Sorted.{ranks_by, sorted_far}
use Rattle.common_laws.specs.Lists.{contains-cases, contains-head, contains-none, contains-tail, once-head, once-tail, pairs-head, pairs-tail}

module _ {X : Type 0} (cmp : X → X → Ordering) (total : IsTotalOrder cmp) where
  abbrev NotAfter : X → X → Type 0
  NotAfter x y = is_lt (cmp y x) ≡ false

  pub all-after : (xs : List X) → IsSorted cmp xs → AllPairs NotAfter xs
  all-after xs sorted i j d less within =
      sorted_far (λ a b. is_lt (cmp a b)) (ranks_by total (λ (x : X). x)) xs sorted i j d (omega (arith, less)) within

  neither : (x y : X) → (cmp x y ≡ Equal → x ≡ y) → NotAfter x y → NotAfter y x → x ≡ y
  neither x y tie h k =
      elim (cmp x y) as (λ o. cmp x y ≡ o → x ≡ y) [
        | Less ↦ λ e. absurd (false≢true (sym k ∙ ap is_lt e))
        | Equal ↦ λ e. tie e
        | Greater ↦ λ e. absurd (false≢true (sym h ∙ ap is_lt (total.antisymm y x ∙ ap ordering_reverse e)))
      ] refl

  -- the tails of two lists with the same first item
  others : (x y : X) (xs ys : List X) → x ≡ y → AllPairs (λ a b. a ≢ b) (x ∷ xs) → ((z : X) → Contains (x ∷ xs) z → Contains (y ∷ ys) z)
      → (z : X) → Contains xs z → Contains ys z
  others x y xs ys same once has z c = ⊎_elim
      (λ e. absurd (once-head x xs once (subst (Contains xs) (sym (same ∙ e)) c))) (λ r. r)
      (contains-cases y ys z (has z (contains-tail x xs z c)))

  pub one-list : (xs ys : List X) → AllPairs NotAfter xs → AllPairs NotAfter ys → AllPairs (λ a b. a ≢ b) xs → AllPairs (λ a b. a ≢ b) ys
      → ((z : X) → Contains xs z → Contains ys z) → ((z : X) → Contains ys z → Contains xs z)
      → ((x y : X) → Contains xs x → Contains xs y → cmp x y ≡ Equal → x ≡ y) → xs ≡ ys
  one-list [] [] up up' once once' to from tie = refl
  one-list [] (y ∷ ys) up up' once once' to from tie = absurd (contains-none y (from y (contains-head y ys)))
  one-list (x ∷ xs) [] up up' once once' to from tie = absurd (contains-none x (to x (contains-head x xs)))
  one-list (x ∷ xs) (y ∷ ys) up up' once once' to from tie =
      let in-xs = contains-head x xs in
      let in-ys = from y (contains-head y ys) in
      let same : x ≡ y = ⊎_elim (λ e. sym e)
      (λ c. ⊎_elim (λ e. e) (λ d. neither x y (tie x y in-xs in-ys) (pairs-head NotAfter x xs y up d) (pairs-head NotAfter y ys x up' c)) (contains-cases x xs y in-ys))
      (contains-cases y ys x (to x in-xs)) in
      let rest = one-list xs ys (pairs-tail NotAfter x xs up) (pairs-tail NotAfter y ys up') (once-tail x xs once) (once-tail y ys once')
      (others x y xs ys same once to) (others y x ys xs (sym same) once' from)
      (λ a b c d e. tie a b (contains-tail x xs a c) (contains-tail x xs b d) e) in
      ap (λ l. x ∷ l) rest ∙ ap (λ z. z ∷ ys) same
