-- The least of some pairs of places.
use Rattle.std.proofs.Common.{◌≡◌, ◌<◌, ◌≤◌, arith, true, false, cond, ◌&&◌, List, [], ◌∷◌, Some, None, refl, sym, ap, ◌∙◌, subst, inl, inr, ◌⊎◌}
use Rattle.std.specs.Prelude.{nat_eq, nat_lt}
use Rattle.std.specs.List.{Contains}
use Rattle.std.proofs.lemmas.Bool.{eqb-true, eq-eqb, ltb-true, ltb-false, and_parts, or_cases, or_parts, cases_lt}
use Rattle.demand_agreement.specs.declared.clash.Clash.{Clash}
use Rattle.demand_agreement.specs.Clashes.{comes_before, least_from, least}
use Rattle.common_laws.specs.Lists.{contains-head, contains-tail, contains-none, contains-cases}

abbrev pub IsAtMost : Clash → Clash → Type 0
IsAtMost a b = (a.later < b.later) ⊎ ((a.later ≡ b.later) × (a.earlier ≤ b.earlier))

at-most-self : (a : Clash) → IsAtMost a a
at-most-self a = inr (refl, omega arith)

at-most-on : (a b c : Clash) → IsAtMost a b → IsAtMost b c → IsAtMost a c
at-most-on a b c (inl h) (inl k) = inl (omega (arith, h, k))
at-most-on a b c (inl h) (inr k) = inl (omega (arith, h, k.0))
at-most-on a b c (inr h) (inl k) = inl (omega (arith, h.0, k))
at-most-on a b c (inr h) (inr k) = inr (h.0 ∙ k.0, omega (arith, h.1, k.1))

before-yes : (a b : Clash) → comes_before a b ≡ true → IsAtMost a b
before-yes a b h =
    elim (or_cases (nat_lt a.later b.later) (nat_eq a.later b.later && nat_lt a.earlier b.earlier) h) [
      | inl l ↦ inl (ltb-true a.later b.later l)
      | inr r ↦
          let parts = and_parts (nat_eq a.later b.later) (nat_lt a.earlier b.earlier) r in
          let less = ltb-true a.earlier b.earlier parts.1 in
          inr (eqb-true a.later b.later parts.0, omega (arith, less))
    ]

before-no : (a b : Clash) → comes_before a b ≡ false → IsAtMost b a
before-no a b h =
    let parts = or_parts (nat_lt a.later b.later) (nat_eq a.later b.later && nat_lt a.earlier b.earlier) h in
    let most : b.later ≤ a.later = ltb-false a.later b.later parts.0 in
    elim (cases_lt b.later a.later) [
      | inl less ↦ inl less
      | inr least ↦
          let same : a.later ≡ b.later = omega (arith, most, least) in
          let no : nat_lt a.earlier b.earlier ≡ false = ap (λ t. t && nat_lt a.earlier b.earlier) (sym (eq-eqb a.later b.later same)) ∙ parts.1 in
          inr (sym same, ltb-false a.earlier b.earlier no)
    ]

-- the least pair of a list is a member, and no member is before it
pub record IsLeast (cs : List Clash) (c : Clash) : Type 0 where
  pub member : Contains cs c
  pub least : (x : Clash) → Contains cs x → IsAtMost c x

record IsLeastFrom (first : Clash) (cs : List Clash) : Type 0 where
  found : Clash
  is : least_from (Some first) cs ≡ Some found
  member : Contains (first ∷ cs) found
  least : (x : Clash) → Contains (first ∷ cs) x → IsAtMost found x

-- one more pair: `best` is the one of the two first that comes before the other
least-with : (first c best : Clash) (cs : List Clash) → cond (comes_before c first) c first ≡ best → Contains (first ∷ c ∷ cs) best → IsAtMost best first → IsAtMost best c
    → IsLeastFrom best cs → IsLeastFrom first (c ∷ cs)
least-with first c best cs is one to-first to-c rest =
    let low = rest.least best (contains-head best cs) in
    record {
      found = rest.found;
      is = ap (λ b. least_from (Some b) cs) is ∙ rest.is;
      member = elim (contains-cases best cs rest.found rest.member) [
        | inl e ↦ subst (λ x. Contains (first ∷ c ∷ cs) x) e one
        | inr r ↦ contains-tail first (c ∷ cs) rest.found (contains-tail c cs rest.found r)
      ];
      least = λ x k. elim (contains-cases first (c ∷ cs) x k) [
        | inl e ↦ subst (IsAtMost rest.found) e (at-most-on rest.found best first low to-first)
        | inr r ↦ elim (contains-cases c cs x r) [
          | inl e ↦ subst (IsAtMost rest.found) e (at-most-on rest.found best c low to-c)
          | inr s ↦ rest.least x (contains-tail best cs x s)
        ]
      ];
    }

least-from : (first : Clash) (cs : List Clash) → IsLeastFrom first cs
least-from first [] = record {
  found = first;
  is = refl;
  member = contains-head first [];
  least = λ x h. elim (contains-cases first [] x h) [ inl e ↦ subst (IsAtMost first) e (at-most-self first) | inr none ↦ absurd (contains-none x none) ];
}
least-from first (c ∷ cs) =
    elim (comes_before c first) as (λ b. comes_before c first ≡ b → IsLeastFrom first (c ∷ cs)) [
      | true ↦ λ h.
          least-with first c c cs (ap (λ b. cond b c first) h) (contains-tail first (c ∷ cs) c (contains-head c cs)) (before-yes c first h) (at-most-self c) (least-from c cs)
      | false ↦ λ h. least-with first c first cs (ap (λ b. cond b c first) h) (contains-head first (c ∷ cs)) (at-most-self first) (before-no c first h) (least-from first cs)
    ] refl

pub least-is : (cs : List Clash) (c : Clash) → least cs ≡ Some c → IsLeast cs c
least-is [] c h = absurd (cc h)
least-is (x ∷ cs) c h =
    let found = least-from x cs in
    let same : found.found ≡ c = cc (sym found.is ∙ h) in
    record { member = subst (λ y. Contains (x ∷ cs) y) same found.member; least = λ y k. subst (λ z. IsAtMost z y) same (found.least y k) }

pub least-none : (cs : List Clash) → least cs ≡ None → cs ≡ []
least-none [] h = refl
least-none (x ∷ cs) h = absurd (cc (sym (least-from x cs).is ∙ h))
