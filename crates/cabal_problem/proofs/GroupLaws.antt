-- Groups of demands, one after another.
use Rattle.std.proofs.Common.{◌≡◌, true, List, [], ◌∷◌, ◌++◌, refl, sym, ap, ◌∙◌, subst, inl, inr, append_assoc}
use Rattle.std.specs.Prelude.{Contains}
use Rattle.choice_problem.specs.declared.problem.Demand.{Demand}
use Rattle.choice_problem.specs.Assignment.{Assignment, is_yes}
use Rattle.choice_problem.specs.General.{Request, request_of}
use Rattle.common_laws.specs.Lists.{contains-head, contains-tail, contains-none, contains-cases, contains-append, contains-left, contains-right, any-at, any-from}
use Rattle.cabal_problem.specs.Groups.{AreGroups, IsOfRequest, IsGroup}
use Rattle.cabal_problem.specs.WholeDemands.{requests_of}
use Rattle.std.proofs.Math.Bool.{or-false}

-- ---- groups

-- a property of the one member is one of each member
pub one-same : (r : Request) (d e : Demand) → IsOfRequest r d → Contains (d ∷ []) e → IsOfRequest r e
one-same r d e same h = elim (contains-cases d [] e h) [ inl is ↦ subst (IsOfRequest r) is same | inr none ↦ absurd (contains-none e none) ]

-- a demand is its own group
itself : (d : Demand) → IsGroup (request_of d) (d ∷ [])
itself d = record {
  same = λ e h. one-same (request_of d) d e (record { owner = refl; target = refl; allowed = refl }) h;
  yes = λ A. sym (or-false (is_yes A d));
}

pub groups-same : (demands : List Demand) → AreGroups (requests_of demands) demands
groups-same [] = refl
groups-same (d ∷ demands) = (d ∷ [], demands, refl, itself d, groups-same demands)

pub groups-append : (xs ys : List Request) (ds es : List Demand) → AreGroups xs ds → AreGroups ys es → AreGroups (xs ++ ys) (ds ++ es)
groups-append [] ys ds es h k = subst (λ (l : List Demand). AreGroups ys (l ++ es)) (sym h) k
groups-append (r ∷ xs) ys ds es h k = (h.0, h.1 ++ es, ap (λ (l : List Demand). l ++ es) h.2 ∙ append_assoc h.0 h.1 es, h.3, groups-append xs ys h.1 es h.4 k)

-- ---- what is Yes

-- one of the listed demands has the request's owner, target and values, and is Yes
pub record IsListed (A : Assignment) (r : Request) (demands : List Demand) : Type 0 where
  pub demand : Demand
  pub there : Contains demands demand
  pub same : IsOfRequest r demand
  pub yes : is_yes A demand ≡ true

-- one of the requests has the demand's owner, target and values, and is Yes
pub record IsRequested (A : Assignment) (d : Demand) (requests : List Request) : Type 0 where
  pub request : Request
  pub there : Contains requests request
  pub same : IsOfRequest request d
  pub yes : request.is_yes A ≡ true

pub listed-there : (A : Assignment) (r : Request) (requests : List Request) (demands : List Demand) → AreGroups requests demands → Contains requests r → r.is_yes A ≡ true → IsListed A r demands
listed-there A r [] demands groups h holds = absurd (contains-none r h)
listed-there A r (x ∷ requests) demands groups h holds =
    let group = groups.0 in
    let rest = groups.1 in
    subst (IsListed A r) (sym groups.2)
    (elim (contains-cases x requests r h) [
      | inl is ↦
          let one = any-at (is_yes A) group (sym (groups.3.yes A) ∙ ap (λ (s : Request). s.is_yes A) is ∙ holds) in
          record { demand = one.0; there = contains-left group rest one.0 one.1; same = subst (λ s. IsOfRequest s one.0) is (groups.3.same one.0 one.1); yes = one.2 }
      | inr behind ↦
          let one = listed-there A r requests rest groups.4 behind holds in
          record { demand = one.demand; there = contains-right group rest one.demand one.there; same = one.same; yes = one.yes }
    ])

pub requested-there : (A : Assignment) (d : Demand) (requests : List Request) (demands : List Demand) → AreGroups requests demands → Contains demands d → is_yes A d ≡ true → IsRequested A d requests
requested-there A d [] demands groups h holds = absurd (contains-none d (subst (λ (l : List Demand). Contains l d) groups h))
requested-there A d (x ∷ requests) demands groups h holds =
    let group = groups.0 in
    let rest = groups.1 in
    elim (contains-append group rest d (subst (λ (l : List Demand). Contains l d) groups.2 h)) [
      | inl own ↦ record { request = x; there = contains-head x requests; same = groups.3.same d own; yes = groups.3.yes A ∙ any-from (is_yes A) group d own holds }
      | inr behind ↦
          let one = requested-there A d requests rest groups.4 behind holds in
          record { request = one.request; there = contains-tail x requests one.request one.there; same = one.same; yes = one.yes }
    ]
