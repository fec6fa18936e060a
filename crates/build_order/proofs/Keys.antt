-- The keys of an ordered set of numbers after an insertion, and after the least is taken out.
use Rattle.std.proofs.Common.{◌≡◌, ◌<◌, ◌≤◌, ◌⊎◌, ◌↔◌, inl, inr, ⊎_elim, ℕ, zero, suc, true, false, List, ◌∷◌, length, refl, sym, subst, ◌∙◌, arith}
use Rattle.std.specs.Prelude.{Contains, All, Option, Some, None, IsSome, IfSome, MatchOption}
use Rattle.std.specs.Ordering.{nat_cmp, is_eq}
use Rattle.std.specs.declared.cmp.Ordering.{Ordering}
use Rattle.std.specs.declared.cmp.Ordering.TheVariants.{Less, Equal, Greater}
use Rattle.std.specs.BTreeSet.{BTreeSet, contains, Updates}
use Rattle.std.proofs.lemmas.Bool.{cases_eq}
use Rattle.std.proofs.lemmas.Cmp.{nat_cmp_total}
use Rattle.std.proofs.lemmas.Map.Views.{btree_set_contains_iff}
use Rattle.std.proofs.lemmas.Map.Lookups.{exact_unsigned}
use Rattle.std.proofs.lemmas.List.Elements.{All-contains}
use Rattle.build_order.specs.Building.{IsTakenAsLeast}

not_equal : (o : Ordering) → (o ≡ Equal → ⊥) → is_eq o ≡ false
not_equal Less h = refl
not_equal Equal h = absurd (h refl)
not_equal Greater h = refl

less : (k v : ℕ) → nat_cmp k v ≡ Less → k < v
less k v e = grind arith

module _ (s t : BTreeSet ℕ) (node : ℕ) (step : Updates nat_cmp s t node true) where
  there : (u : ℕ) → (u ≡ node → ⊥) → contains nat_cmp t u ≡ contains nat_cmp s u
  there u n = step.2 u (not_equal (nat_cmp node u) (λ e. n (sym (exact_unsigned node u e))))

  pub added : (u : ℕ) → Contains t.keys u ↔ Contains s.keys u ⊎ (u ≡ node)
  added u = (
    (λ h. ⊎_elim (λ e. inr e) (λ n. inl ((btree_set_contains_iff nat_cmp_total exact_unsigned s u).0 (sym (there u n) ∙ (btree_set_contains_iff nat_cmp_total exact_unsigned t u).1 h))) (cases_eq u node)),
    λ h. ⊎_elim
        (λ e. subst (λ k. Contains t.keys k) (sym e) ((btree_set_contains_iff nat_cmp_total exact_unsigned t node).0 step.1))
        (λ n. ⊎_elim (λ o. (btree_set_contains_iff nat_cmp_total exact_unsigned t u).0 (there u n ∙ (btree_set_contains_iff nat_cmp_total exact_unsigned s u).1 o)) (λ e. absurd (n e)) h)
        (cases_eq u node),
  )

module _ (u : ℕ) (new : List ℕ) (above : All (λ v. nat_cmp u v ≡ Less) new) where
  over : (v : ℕ) → Contains new v → u < v
  over v h = less u v (All-contains (λ v. nat_cmp u v ≡ Less) new v above h)

  least : (v : ℕ) → Contains (u ∷ new) v → u ≤ v
  least v (zero, l, e) = omega (arith, e)
  least v (suc k, l, e) = let o = over v (k, omega (arith, l), e) in omega (arith, o)

  stays : (v : ℕ) → Contains (u ∷ new) v → (v ≡ u) ⊎ Contains new v
  stays v (zero, l, e) = inl (sym e)
  stays v (suc k, l, e) = inr (k, omega (arith, l), e)

  was : (v : ℕ) → Contains new v → Contains (u ∷ new) v
  was v (k, l, e) = (suc k, omega (arith, l), e)

  itself : IsTakenAsLeast (u ∷ new) new u
  itself = record { member = (0, omega arith, refl); gone = λ c. let o = over u c in omega (arith, o); least = least; stays = stays; was = was }

  pub taken : (old : List ℕ) → old ≡ u ∷ new → IsTakenAsLeast old new u
  taken old is = subst (λ l. IsTakenAsLeast l new u) (sym is) itself

pub takes : (r : Option ℕ) (old new : List ℕ) → (IsSome r ↔ (0 < length old)) → IfSome r (λ k. old ≡ k ∷ new) → IfSome r (λ k. All (λ v. nat_cmp k v ≡ Less) new) →
    MatchOption r ((u : ℕ) → Contains old u → ⊥) (IsTakenAsLeast old new)
takes None old new v is above = λ u h. let no : false ≡ true = v.1 (omega (arith, h.1)) in cc
takes (Some k) old new v is above = taken k new above old is
