-- What is valid in a narrower problem is valid in the other, and trails are the same.
use Rattle.std.proofs.Common.{◌≡◌, ◌↔◌, ◌<◌, ℕ, zero, suc, Bool, true, ◌&&◌, List, [], ◌∷◌, ◌++◌, map, flat_map, Option, Some, None, refl, sym, ap, ◌∙◌, subst, inl, inr}
use Rattle.std.specs.Prelude.{is_none, IsSome, IsTrue}
use Rattle.std.specs.List.{AllZip, Contains, filter}
use Rattle.std.proofs.lemmas.Bool.{false≢true}
use Rattle.common_laws.specs.Lists.{contains-filter, contains-map, filter-contains, map-contains}
use Rattle.qualified_goals.specs.declared.variable.Var.{Var}
use Rattle.choice_problem.specs.declared.problem.Choice.{Choice}
use Rattle.choice_problem.specs.Assignment.{Assignment, is_one_of}
use Rattle.choice_problem.specs.ConflictSet.{first_of}
use Rattle.choice_problem.specs.General.{General, Request}
use Rattle.choice_problem.specs.Holds.{HoldsWithin, IsAsked, IsEdge}
use Rattle.choice_problem.specs.Problem.{IsChoice, IsDemand}
use Rattle.choice_problem.specs.Trail.{choice_of, demands_after, next_var, open_vars, opens, trail_from, trail_of, value_in, with_next, with_value}
use Rattle.choice_problem.specs.Twins.{must_agree}
use Rattle.choice_problem.specs.Valid.{ComesBefore, IsEarlier, IsFirst, IsWholeValid}
use Rattle.choice_problem.proofs.EquivalentProblems.{before-over, path-map}
use Rattle.choice_problem.proofs.VariableSets.{set-alike}
use Rattle.choice_problem.proofs.TrailLemmas.{targets_open}
use Rattle.frozen_plan.specs.Narrower.{AddsNothing, BarsNoneOf, IsNarrowed, IsNarrower}
use Rattle.frozen_plan.proofs.Lists.{zip-append, zip-flat, zip-left, zip-right}

module _ (g h : General) (is : IsNarrower g h) where
  -- ---- demands

  -- the demand of the other problem that asks for the same
  record InSecond (r : Request) : Type 0 where
    other : Request
    demand : IsDemand h other
    related : IsNarrowed h r other

  record InFirst (s : Request) : Type 0 where
    other : Request
    demand : IsDemand g other
    related : IsNarrowed h other s

  choice-there : (c : Choice) → IsChoice g c → IsChoice h c
  choice-there c k = record { variable = subst (λ known. IsTrue (known c.var)) is.known k.variable; value = subst (λ (domain : Var → ℕ). c.val < domain c.var) is.domain k.value }

  choice-back : (c : Choice) → IsChoice h c → IsChoice g c
  choice-back c k = record {
    variable = subst (λ known. IsTrue (known c.var)) (sym is.known) k.variable;
    value = subst (λ (domain : Var → ℕ). c.val < domain c.var) (sym is.domain) k.value;
  }

  in-second : (r : Request) → IsDemand g r → InSecond r
  in-second r (inl root) =
      let found = zip-right (IsNarrowed h) g.roots h.roots is.roots r root in
      record { other = found.other; demand = inl found.among; related = found.related }
  in-second r (inr (owner, choice, among)) =
      let found = zip-right (IsNarrowed h) (g.demands owner) (h.demands owner) (is.demands owner) r among in
      record { other = found.other; demand = inr (owner, choice-there owner choice, found.among); related = found.related }

  in-first : (s : Request) → IsDemand h s → InFirst s
  in-first s (inl root) =
      let found = zip-left (IsNarrowed h) g.roots h.roots is.roots s root in
      record { other = found.other; demand = inl found.among; related = found.related }
  in-first s (inr (owner, choice, among)) =
      let found = zip-left (IsNarrowed h) (g.demands owner) (h.demands owner) (is.demands owner) s among in
      record { other = found.other; demand = inr (owner, choice-back owner choice, found.among); related = found.related }

  -- ---- trails

  after : (trail : List Choice) → AllZip (IsNarrowed h) (demands_after g trail) (demands_after h trail)
  after trail =
      zip-append (IsNarrowed h) g.roots h.roots (flat_map g.demands trail) (flat_map h.demands trail) is.roots (zip-flat (IsNarrowed h) g.demands h.demands trail is.demands)

  opens-alike : (trail : List Choice) (r s : Request) → IsNarrowed h r s → opens trail r ≡ opens trail s
  opens-alike trail r s like =
      ap (λ b. b && is_none (value_in trail r.target)) (like.yes (value_in trail)) ∙ ap (λ v. s.is_yes (value_in trail) && is_none (value_in trail v)) like.target

  open-there : (trail : List Choice) (v : Var) → Contains (targets_open trail (demands_after g trail)) v → Contains (targets_open trail (demands_after h trail)) v
  open-there trail v k =
      let (r, kept, same) = contains-map (λ (r : Request). r.target) (filter (opens trail) (demands_after g trail)) v k in
      let (among, opened) = contains-filter (opens trail) (demands_after g trail) r kept in
      let found = zip-right (IsNarrowed h) (demands_after g trail) (demands_after h trail) (after trail) r among in
      subst (Contains (targets_open trail (demands_after h trail))) (sym found.related.target ∙ same)
      (map-contains (λ (s : Request). s.target) (filter (opens trail) (demands_after h trail)) found.other
      (filter-contains (opens trail) (demands_after h trail) found.other found.among (sym (opens-alike trail r found.other found.related) ∙ opened)))

  open-back : (trail : List Choice) (v : Var) → Contains (targets_open trail (demands_after h trail)) v → Contains (targets_open trail (demands_after g trail)) v
  open-back trail v k =
      let (s, kept, same) = contains-map (λ (s : Request). s.target) (filter (opens trail) (demands_after h trail)) v k in
      let (among, opened) = contains-filter (opens trail) (demands_after h trail) s kept in
      let found = zip-left (IsNarrowed h) (demands_after g trail) (demands_after h trail) (after trail) s among in
      subst (Contains (targets_open trail (demands_after g trail))) (found.related.target ∙ same)
      (map-contains (λ (r : Request). r.target) (filter (opens trail) (demands_after g trail)) found.other
      (filter-contains (opens trail) (demands_after g trail) found.other found.among (opens-alike trail found.other s found.related ∙ opened)))

  next-alike : (trail : List Choice) → next_var g trail ≡ next_var h trail
  unfolding open_vars
  next-alike trail = ap first_of (set-alike (targets_open trail (demands_after g trail)) (targets_open trail (demands_after h trail)) (open-there trail) (open-back trail))

  trail_from-alike : (A : Assignment) (fuel : ℕ) (trail : List Choice) → trail_from fuel g A trail ≡ trail_from fuel h A trail
  trail_from-alike A zero trail = refl
  trail_from-alike A (suc fuel) trail =
      let by = λ (k : General) (o : Option Var). with_next o trail (λ v. with_value (A v) trail (λ n. trail_from fuel k A (trail ++ choice_of v n ∷ []))) in
      ap (by g) (next-alike trail) ∙ elim (next_var h trail) as (λ o. by g o ≡ by h o) [
        | None ↦ refl
        | Some v ↦ elim (A v) as (λ o. with_value o trail (λ n. trail_from fuel g A (trail ++ choice_of v n ∷ [])) ≡ with_value o trail (λ n. trail_from fuel h A (trail ++ choice_of v n ∷ []))) [
          | None ↦ refl
          | Some n ↦ trail_from-alike A fuel (trail ++ choice_of v n ∷ [])
        ]
      ]

  pub trails-alike : (A : Assignment) → trail_of g A ≡ trail_of h A
  trails-alike A = trail_from-alike A g.bound [] ∙ ap (λ n. trail_from n h A []) is.bound

  before-back : (A B : Assignment) → ComesBefore h A B → ComesBefore g A B
  before-back A B = before-over h g A B (trails-alike A) (trails-alike B) (sym is.order)

  -- ---- what holds

  module _ (set : Var → Bool) (A : Assignment) where
    edge-there : (v w : Var) → IsEdge g set A v w → IsEdge h set A v w
    edge-there v w edge =
        let found = in-second edge.request edge.demand in
        record {
          request = found.other;
          owner = edge.owner;
          demand = found.demand;
          owner_is = sym found.related.owner ∙ edge.owner_is;
          yes = sym (found.related.yes A) ∙ edge.yes;
          inside = subst (λ x. IsTrue (set x)) found.related.target edge.inside;
          leaves = edge.leaves;
          enters = sym found.related.target ∙ edge.enters;
        }

    edge-back : (v w : Var) → IsEdge h set A v w → IsEdge g set A v w
    edge-back v w edge =
        let found = in-first edge.request edge.demand in
        record {
          request = found.other;
          owner = edge.owner;
          demand = found.demand;
          owner_is = found.related.owner ∙ edge.owner_is;
          yes = found.related.yes A ∙ edge.yes;
          inside = subst (λ x. IsTrue (set x)) (sym found.related.target) edge.inside;
          leaves = edge.leaves;
          enters = found.related.target ∙ edge.enters;
        }

    asked-there : (r : Request) (asked : IsAsked g set A r) → IsAsked h set A (in-second r asked.demand).other
    asked-there r asked =
        let found = in-second r asked.demand in
        record { demand = found.demand; yes = sym (found.related.yes A) ∙ asked.yes; inside = subst (λ x. IsTrue (set x)) found.related.target asked.inside }

    asked-back : (s : Request) (asked : IsAsked h set A s) → IsAsked g set A (in-first s asked.demand).other
    asked-back s asked =
        let found = in-first s asked.demand in
        record { demand = found.demand; yes = found.related.yes A ∙ asked.yes; inside = subst (λ x. IsTrue (set x)) (sym found.related.target) asked.inside }

    agree-alike : (r s t u : Request) → IsNarrowed h r t → IsNarrowed h s u → must_agree r.owner r.target s.owner s.target ≡ must_agree t.owner t.target u.owner u.target
    agree-alike r s t u first second =
        ap (λ o. must_agree o r.target s.owner s.target) first.owner ∙ ap (λ v. must_agree t.owner v s.owner s.target) first.target
        ∙ ap (λ o. must_agree t.owner t.target o s.target) second.owner ∙ ap (must_agree t.owner t.target u.owner) second.target

    pub holds-back : HoldsWithin h set A → HoldsWithin g set A
    holds-back holds = record {
      assignment = record { inside = holds.assignment.inside; choice = λ c e. choice-back c (holds.assignment.choice c e) };
      unbarred = λ c e. is.barred c (holds.unbarred c e);
      met = λ r demand yes inside.
          let found = in-second r demand in
          let same = found.related.target in
          let met = holds.met found.other found.demand (sym (found.related.yes A) ∙ yes) (subst (λ x. IsTrue (set x)) same inside) in
          subst (λ x. IsTrue (is_one_of (A x) r.allowed)) (sym same) (found.related.no_other A holds.unbarred (sym (found.related.yes A) ∙ yes) met);
      acyclic = λ v path. holds.acyclic v (path-map (IsEdge g set A) (IsEdge h set A) edge-there path);
      agree = λ r s of-r of-s must.
          let first = in-second r of-r.demand in
          let second = in-second s of-s.demand in
          ap A first.related.target
          ∙ holds.agree first.other second.other (asked-there r of-r) (asked-there s of-s)
          (sym (agree-alike r s first.other second.other first.related second.related) ∙ must)
          ∙ sym (ap A second.related.target);
    }

    wider : (o : Option ℕ) (r s : Request) → IsNarrowed h r s → is_one_of o r.allowed ≡ true → is_one_of o s.allowed ≡ true
    wider None r s like met = absurd (false≢true met)
    wider (Some n) r s like met = like.allows n met

    pub holds-there : BarsNoneOf h A → HoldsWithin g set A → HoldsWithin h set A
    holds-there unbarred holds = record {
      assignment = record { inside = holds.assignment.inside; choice = λ c e. choice-there c (holds.assignment.choice c e) };
      unbarred = unbarred;
      met = λ s demand yes inside.
          let found = in-first s demand in
          let same = found.related.target in
          let met = holds.met found.other found.demand (found.related.yes A ∙ yes) (subst (λ x. IsTrue (set x)) (sym same) inside) in
          wider (A s.target) found.other s found.related (subst (λ x. is_one_of (A x) found.other.allowed ≡ true) same met);
      acyclic = λ v path. holds.acyclic v (path-map (IsEdge h set A) (IsEdge g set A) edge-back path);
      agree = λ r s of-r of-s must.
          let first = in-first r of-r.demand in
          let second = in-first s of-s.demand in
          sym (ap A first.related.target)
          ∙ holds.agree first.other second.other (asked-back r of-r) (asked-back s of-s)
          (agree-alike first.other second.other r s first.related second.related ∙ must)
          ∙ ap A second.related.target;
    }

  -- ---- what is valid

  pub valid-back : AddsNothing g h
  valid-back A valid = record {
    holds = holds-back g.known A (subst (λ known. HoldsWithin h known A) (sym is.known) valid.holds);
    reached = λ v. subst (λ t. IsSome (A v) ↔ Contains (map (λ (c : Choice). c.var) t) v) (sym (trails-alike A)) (valid.reached v);
  }

  pub valid-there : (A : Assignment) → BarsNoneOf h A → IsWholeValid g A → IsWholeValid h A
  valid-there A unbarred valid = record {
    holds = subst (λ known. HoldsWithin h known A) is.known (holds-there g.known A unbarred valid.holds);
    reached = λ v. subst (λ t. IsSome (A v) ↔ Contains (map (λ (c : Choice). c.var) t) v) (trails-alike A) (valid.reached v);
  }

  pub stays-first : (A : Assignment) → BarsNoneOf h A → IsFirst g A → IsFirst h A
  stays-first A unbarred first = record {
    whole_valid = valid-there A unbarred first.whole_valid;
    none_before = λ B valid before. first.none_before B (valid-back B valid) (before-back B A before);
  }
