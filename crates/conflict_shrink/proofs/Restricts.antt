-- Assignments that hold within a set are those that hold in the problem restricted to it.
use Rattle.std.proofs.Common.{◌≡◌, true, List, Some, sym, subst, inl, inr}
use Rattle.std.specs.List.{list_all, Contains}
use Rattle.std.proofs.lemmas.Bool.{and_from}
use Rattle.std.proofs.lemmas.List.Elements.{All-contains}
use Rattle.plan_types.specs.declared.limit.Limit.TheVariants.{Unlimited}
use Rattle.qualified_goals.specs.declared.variable.Var.{Var}
use Rattle.choice_problem.specs.declared.problem.Choice.{Choice}
use Rattle.choice_problem.specs.declared.problem.Demand.{Demand}
use Rattle.choice_problem.specs.Assignment.{Assignment, is_made, is_yes}
use Rattle.choice_problem.specs.Problem.{Problem, IsDemand, IsOwned, Lawful}
use Rattle.choice_problem.specs.General.{General, Request, general}
use Rattle.choice_problem.specs.Holds.{IsEdge, HoldsWithin, AdmitsNone}
use Rattle.choice_problem.specs.ConflictSet.{has}
use Rattle.choice_problem.specs.Answer.{Found, Failed, GaveUp, answer_of}
use Rattle.choice_problem.specs.Sound.{IsRightEnd}
use Rattle.choice_problem.proofs.TrailLemmas.{is_made-is, demand-general, demand-plain, general-lawful, target-known}
use Rattle.choice_problem.proofs.EquivalentProblems.{path-map}
use Rattle.choice_problem.proofs.FailureSets.{within, restrict}
use Rattle.choice_problem.proofs.SearchEnds.{ends-right}
use Rattle.common_laws.specs.Lists.{all-at, all-from, contains-head, contains-filter, filter-contains}
use Rattle.conflict_shrink.specs.Restricted.{stays_in, restricted, are_known, HasNoPlan, AdmitsByRestricted}
use Rattle.conflict_shrink.specs.RestrictedLaws.{choice-in-whole, restricted_lawful}

module _ (p : Problem) (set : List Var) (lawful : Lawful p) (are : are_known p set ≡ true) where
  abbrev part : Problem
  part = restricted p set

  -- a demand of the restricted problem is one of the whole problem
  demand-in-whole : (d : Demand) → IsDemand part d → IsDemand p d
  demand-in-whole d (inl root) = inl (contains-filter (stays_in set) p.roots d root).0
  demand-in-whole d (inr (owner, is, owns)) = inr (owner, choice-in-whole p set are owner is, (contains-filter (stays_in set) (p.demands owner) d owns).0)

  request-in-whole : (r : Request) → IsDemand (general part) r → IsDemand (general p) r
  request-in-whole r is = let plain = demand-plain part r is in subst (IsDemand (general p)) plain.2 (demand-general p plain.0 (demand-in-whole plain.0 plain.1))

  -- a condition that is Yes names variables of the set alone, where values are of those alone
  module _ (A : Assignment) (inside : (v : Var) (n : _) → A v ≡ Some n → has set v ≡ true) where
    condition-in : (when : List Choice) → list_all (is_made A) when ≡ true → list_all (λ (c : Choice). has set c.var) when ≡ true
    condition-in when made = all-from (λ (c : Choice). has set c.var) when (λ c k. inside c.var c.val (is_made-is A c (all-at (is_made A) when c made k)))

    stays : (d : Demand) → is_yes A d ≡ true → has set d.target ≡ true → stays_in set d ≡ true
    stays d made target = and_from (has set d.target) (list_all (λ (c : Choice). has set c.var) d.when) target (condition-in d.when made)

    -- a demand of the whole problem that is Yes, with its target in the set, is one of the restricted problem
    demand-in-part : (d : Demand) → IsDemand p d → is_yes A d ≡ true → has set d.target ≡ true → IsDemand part d
    demand-in-part d (inl root) made target = inl (filter-contains (stays_in set) p.roots d root (stays d made target))
    demand-in-part d (inr (owner, is, owns)) made target =
        let owned = All-contains (IsOwned p owner) (p.demands owner) d (lawful.demands owner is) owns in
        let chosen = inside owner.var owner.val (is_made-is A owner (all-at (is_made A) d.when owner made (subst (λ l. Contains l owner) (sym owned.condition) (contains-head owner owned.others)))) in
        inr (owner, record { variable = chosen; value = is.value }, filter-contains (stays_in set) (p.demands owner) d owns (stays d made target))

    request-in-part : (r : Request) → IsDemand (general p) r → r.is_yes A ≡ true → has set r.target ≡ true → IsDemand (general part) r
    request-in-part r is made target =
        let plain = demand-plain p r is in
        subst (IsDemand (general part)) plain.2
        (demand-general part plain.0 (demand-in-part plain.0 plain.1 (subst (λ x. x.is_yes A ≡ true) (sym plain.2) made) (subst (λ x. has set x.target ≡ true) (sym plain.2) target)))

  -- an edge of one problem is one of another that has its demand
  edge-of : (g h : General) (A : Assignment) (from to : Var) (e : IsEdge g (has set) A from to) → IsDemand h e.request → IsEdge h (has set) A from to
  edge-of g h A from to e demand = record {
    request = e.request;
    owner = e.owner;
    demand = demand;
    owner_is = e.owner_is;
    yes = e.yes;
    inside = e.inside;
    leaves = e.leaves;
    enters = e.enters;
  }

  -- an assignment that holds within the set holds in the restricted problem
  pub holds-in-part : (A : Assignment) → HoldsWithin (general p) (has set) A → HoldsWithin (general part) (has set) A
  holds-in-part A holds = record {
    assignment = record {
      inside = holds.assignment.inside;
      choice = λ c e. record { variable = holds.assignment.inside c.var c.val e; value = (holds.assignment.choice c e).value };
    };
    unbarred = holds.unbarred;
    met = λ r is made inside. holds.met r (request-in-whole r is) made inside;
    acyclic = λ v path.
        holds.acyclic v
        (path-map (IsEdge (general part) (has set) A) (IsEdge (general p) (has set) A)
        (λ from to e. edge-of (general part) (general p) A from to e (request-in-whole e.request e.demand)) path);
    agree = λ r s of-r of-s must.
        holds.agree r s (record { demand = request-in-whole r of-r.demand; yes = of-r.yes; inside = of-r.inside })
        (record { demand = request-in-whole s of-s.demand; yes = of-s.yes; inside = of-s.inside }) must;
  }

  -- the converse
  pub holds-in-whole : (A : Assignment) → HoldsWithin (general part) (has set) A → HoldsWithin (general p) (has set) A
  holds-in-whole A holds =
      let to-part = request-in-part A holds.assignment.inside in
      record {
        assignment = record {
          inside = holds.assignment.inside;
          choice = λ c e. let is = holds.assignment.choice c e in record { variable = (choice-in-whole p set are c (record { variable = is.variable; value = is.value })).variable; value = is.value };
        };
        unbarred = holds.unbarred;
        met = λ r is made inside. holds.met r (to-part r is made inside) made inside;
        acyclic = λ v path.
            holds.acyclic v
            (path-map (IsEdge (general p) (has set) A) (IsEdge (general part) (has set) A)
            (λ from to e. edge-of (general p) (general part) A from to e (to-part e.request e.demand e.yes e.inside)) path);
        agree = λ r s of-r of-s must.
            holds.agree r s (record { demand = to-part r of-r.demand of-r.yes of-r.inside; yes = of-r.yes; inside = of-r.inside })
            (record { demand = to-part s of-s.demand of-s.yes of-s.inside; yes = of-s.yes; inside = of-s.inside }) must;
      }

  part-lawful : Lawful part
  part-lawful = restricted_lawful p set are lawful

  -- where the restricted problem has no plan, the set admits none
  restricted-target : (small : List Var) (r : Request) → IsDemand (general part) r → has small r.target ≡ true → has set r.target ≡ true
  restricted-target small r is h = target-known (general part) r (general-lawful part part-lawful) is

  none-by-part : HasNoPlan part → AdmitsNone (general p) (has set)
  none-by-part none A holds =
      let answer = answer_of part Unlimited in
      elim answer.ended as (λ e. IsRightEnd part e → ⊥) [
        | Found trail ↦ λ h. none h.0 h.1.whole_valid
        | Failed small ↦ λ h. h.0 (within (has small) A) (restrict part (has set) (has small) A (restricted-target small) (holds-in-part A holds))
        | GaveUp ↦ λ h. h
      ] (ends-right part part-lawful)

  pub admits-by-part : AdmitsByRestricted p set
  admits-by-part = (λ none A valid. none A (holds-in-whole A valid.holds), none-by-part)
