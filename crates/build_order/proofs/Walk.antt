-- An unplaced node needs an unplaced node, and so on, until a node comes again: the nodes between form a cycle.
use Rattle.std.proofs.Common.{◌≡◌, ◌<◌, ◌+◌, ◌⊎◌, inl, inr, ⊎_elim, ℕ, zero, suc, Bool, true, false, not, List, [], ◌∷◌, length, get_or, set, replicate, refl, sym, subst, ◌∙◌, arith}
use Rattle.std.specs.Prelude.{Contains, count_by}
use Rattle.std.proofs.lemmas.Bool.{cases_eq}
use Rattle.std.proofs.lemmas.List.{get_or-set_other, length-set, length-replicate}
use Rattle.std.proofs.lemmas.List.Elements.{All-contains}
use Rattle.std.proofs.lemmas.List.Sums.{count_by-le-length}
use Rattle.build_order.specs.Order.{IsBuildOrder}
use Rattle.common_laws.specs.Lists.{contains-none}
use Rattle.common_laws.specs.Graphs.{HasNoCycle, IsGraph, IsMarked, IsPath, Needs, last, more}
use Rattle.build_order.specs.Building.{needs_of}
use Rattle.build_order.proofs.OrderInvariant.{default_past, less_left}

is : (b : Bool) → (b ≡ true) ⊎ (b ≡ true → ⊥)
is true = inl refl
is false = inr (λ e. cc)

in_more : (x v : ℕ) (xs : List ℕ) → Contains xs v → Contains (x ∷ xs) v
in_more x v xs (k, l, e) = (suc k, omega (arith, l), e)

in_cases : (x v : ℕ) (xs : List ℕ) → Contains (x ∷ xs) v → (x ≡ v) ⊎ Contains xs v
in_cases x v xs (zero, l, e) = inl e
in_cases x v xs (suc k, l, e) = inr (k, omega (arith, l), e)

has : (xs : List ℕ) (v : ℕ) → Contains xs v ⊎ (Contains xs v → ⊥)
has [] v = inr (contains-none v)
has (x ∷ xs) v = ⊎_elim (λ e. inl (0, omega arith, e))
    (λ n. ⊎_elim (λ h. inl (in_more x v xs h)) (λ o. inr (λ c. ⊎_elim n o (in_cases x v xs c))) (has xs v))
    (cases_eq x v)

-- either all nodes of a list are placed, or one isn't
first_open : (order xs : List ℕ) → ((v : ℕ) → Contains xs v → Contains order v) ⊎ ((v : ℕ) × Contains xs v × (Contains order v → ⊥))
first_open order [] = inl (λ v c. absurd (contains-none v c))
first_open order (x ∷ xs) = ⊎_elim
    (λ h. ⊎_elim (λ all. inl (λ v c. ⊎_elim (λ e. subst (λ k. Contains order k) e h) (λ i. all v i) (in_cases x v xs c))) (λ r. inr (r.0, in_more x r.0 xs r.1, r.2)) (first_open order xs))
    (λ n. inr (x, (0, omega arith, refl), n))
    (has order x)

module _ (needs : List (List ℕ)) where
  longer : (u v w : ℕ) → IsPath (Needs needs) u v → Needs needs v w → IsPath (Needs needs) u w
  longer u v w (last e) n = more e (last n)
  longer u v w (more {w = x} e p) n = more e (longer x v w p n)

  module _ (order : List ℕ) (graph : IsGraph needs) (b : IsBuildOrder needs order) where
    next : (u : ℕ) → u < length needs → (Contains order u → ⊥) → (v : ℕ) × Needs needs u v × (v < length needs) × (Contains order v → ⊥)
    next u l n = ⊎_elim (λ all. absurd (b.whole u (record { node = l; unplaced = n; met = all })))
        (λ r. (r.0, r.1, All-contains (λ v. v < length needs) (needs_of needs u) r.0 (graph u [] l) r.1, r.2))
        (first_open order (needs_of needs u))

    module _ (none : HasNoCycle (Needs needs)) where
      walk : (fuel : ℕ) (been : List Bool) (u : ℕ) → count_by not been < fuel → length been ≡ length needs → ((v : ℕ) → IsMarked been v → IsPath (Needs needs) v u) →
          u < length needs → (Contains order u → ⊥) → ⊥
      walk zero been u less same leads l n = omega (arith, less)
      walk (suc fuel) been u less same leads l n = ⊎_elim
          (λ m. none u (leads u m))
          (λ m. let to = next u l n in
          let v = to.0 in
          walk fuel (set been u true) v
          (let k = less_left been u (omega (arith, l, same)) m in omega (arith, less, k))
          (length-set been u true ∙ same)
          (λ w h. ⊎_elim (λ e. subst (λ k. IsPath (Needs needs) k v) (sym e) (last to.1)) (λ d. longer w u v (leads w (sym (get_or-set_other been u w true false d) ∙ h)) to.1) (cases_eq w u))
          to.2 to.3)
          (is (get_or been u false))

      pub all_placed : (u : ℕ) → u < length needs → Contains order u
      all_placed u l = ⊎_elim (λ h. h)
          (λ n. absurd (let been = replicate (length needs) false in
          walk (length needs + 1) been u
          (let k = count_by-le-length not been in let s = length-replicate (length needs) false in omega (arith, k, s))
          (length-replicate (length needs) false)
          (λ v m. let no : false ≡ true = sym (default_past (length needs) v false) ∙ m in cc)
          l n))
          (has order u)
