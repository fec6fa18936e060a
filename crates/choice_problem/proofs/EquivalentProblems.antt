-- Shared: problems whose demands are Yes together have the same valid assignments, trails and first.
use Rattle.std.proofs.Common.{◌≡◌, ◌↔◌, ℕ, zero, suc, ◌<◌, Bool, true, List, [], ◌∷◌, ◌++◌, map, get_or, Option, Some, None, refl, sym, ap, ◌∙◌, subst}
use Rattle.std.specs.Prelude.{is_none, IsSome, IsTrue, IsFalse}
use Rattle.std.specs.List.{Contains, All, filter}
use Rattle.std.proofs.lemmas.List.Elements.{All-nil, All-push}
use Rattle.qualified_goals.specs.declared.variable.Var.{Var}
use Rattle.choice_problem.specs.declared.problem.Choice.{Choice}
use Rattle.choice_problem.specs.Assignment.{Assignment, is_one_of}
use Rattle.choice_problem.specs.Problem.{IsChoice}
use Rattle.choice_problem.specs.General.{Request, General, LawfulGeneral}
use Rattle.common_laws.specs.Graphs.{IsPath, last, more}
use Rattle.choice_problem.specs.Holds.{IsAssignmentIn, IsEdge, IsAsked, HoldsWithin}
use Rattle.choice_problem.specs.Twins.{must_agree}
use Rattle.choice_problem.specs.ConflictSet.{first_of}
use Rattle.choice_problem.specs.Trail.{value_in, demands_after, opens, open_vars, next_var, with_next, with_value, choice_of, trail_from, trail_of}
use Rattle.choice_problem.specs.Valid.{IsWholeValid, IsEarlier, ComesBefore, IsFirst}
use Rattle.choice_problem.specs.Joined.{AreYesTogether, AreOne}
use Rattle.common_laws.specs.Lists.{contains-map, map-contains, contains-filter, filter-contains}
use Rattle.choice_problem.proofs.VariableSets.{set-alike}
use Rattle.choice_problem.proofs.TrailLemmas.{targets_open, demand-after, yes-after}
use Rattle.std.proofs.lemmas.Bool.{and_parts, and_from}

-- each edge of a path is one of the other kind
pub path-map : (E F : Var → Var → Type 0) → ((v w : Var) → E v w → F v w) → {v w : Var} → IsPath E v w → IsPath F v w
path-map E F f {v = v} {w = w} (last e) = last (f v w e)
path-map E F f {v = v} {w = x} (more {w = w} e path) = more (f v w e) (path-map E F f path)

pub together-back : (g h : General) → AreYesTogether g h → AreYesTogether h g
together-back g h same = record {
  bound = sym same.bound;
  known = sym same.known;
  domain = sym same.domain;
  order = sym same.order;
  barred = sym same.barred;
  there = same.back;
  back = same.there;
}

-- an assignment comes before another also in a problem with the same trails of both and the same order
pub before-over : (g h : General) (A B : Assignment) → trail_of h A ≡ trail_of g A → trail_of h B ≡ trail_of g B → g.order ≡ h.order → ComesBefore g A B → ComesBefore h A B
before-over g h A B same_A same_B order before = record {
  common = before.common;
  var = before.var;
  of_A = before.of_A;
  of_B = before.of_B;
  rest_of_A = before.rest_of_A;
  rest_of_B = before.rest_of_B;
  trail_of_A = same_A ∙ before.trail_of_A;
  trail_of_B = same_B ∙ before.trail_of_B;
  earlier = subst (λ (order : Var → List Choice → List ℕ). IsEarlier (order before.var before.common) before.of_A before.of_B) order before.earlier;
}

-- one direction

module _ (g h : General) (same : AreYesTogether g h) where
  choice-there : (c : Choice) → IsChoice g c → IsChoice h c
  choice-there c is = record { variable = subst (λ known. IsTrue (known c.var)) same.known is.variable; value = subst (λ (domain : Var → ℕ). c.val < domain c.var) same.domain is.value }

  assignment-there : (set : Var → Bool) (A : Assignment) → IsAssignmentIn g set A → IsAssignmentIn h set A
  assignment-there set A is = record { inside = is.inside; choice = λ c e. choice-there c (is.choice c e) }

  edge-back : (set : Var → Bool) (A : Assignment) (v w : Var) → IsEdge h set A v w → IsEdge g set A v w
  edge-back set A v w edge =
      let other = same.back A edge.request edge.demand edge.yes in
      record {
        request = other.other;
        owner = edge.owner;
        demand = other.demand;
        owner_is = other.owner ∙ edge.owner_is;
        yes = other.yes;
        inside = subst (λ x. IsTrue (set x)) (sym other.target) edge.inside;
        leaves = edge.leaves;
        enters = other.target ∙ edge.enters;
      }

  asked-back : (set : Var → Bool) (A : Assignment) (r : Request) (asked : IsAsked h set A r) → IsAsked g set A (same.back A r asked.demand asked.yes).other
  asked-back set A r asked =
      let other = same.back A r asked.demand asked.yes in
      record { demand = other.demand; yes = other.yes; inside = subst (λ x. IsTrue (set x)) (sym other.target) asked.inside }

  holds-there : (set : Var → Bool) (A : Assignment) → HoldsWithin g set A → HoldsWithin h set A
  holds-there set A holds = record {
    assignment = assignment-there set A holds.assignment;
    unbarred = λ c e. subst (λ barred. IsFalse (barred c)) same.barred (holds.unbarred c e);
    met = λ r is yes inside.
        let other = same.back A r is yes in
        let met = holds.met other.other other.demand other.yes (subst (λ x. IsTrue (set x)) (sym other.target) inside) in
        subst (λ allowed. IsTrue (is_one_of (A r.target) allowed)) other.allowed (subst (λ x. IsTrue (is_one_of (A x) other.other.allowed)) other.target met);
    acyclic = λ v path. holds.acyclic v (path-map (IsEdge h set A) (IsEdge g set A) (edge-back set A) path);
    agree = λ r s of-r of-s must.
        let first = same.back A r of-r.demand of-r.yes in
        let second = same.back A s of-s.demand of-s.yes in
        let was : must_agree first.other.owner first.other.target second.other.owner second.other.target ≡ true =
        ap (λ o. must_agree o first.other.target second.other.owner second.other.target) first.owner ∙ ap (λ v. must_agree r.owner v second.other.owner second.other.target) first.target
        ∙ ap (λ o. must_agree r.owner r.target o second.other.target) second.owner ∙ ap (must_agree r.owner r.target s.owner) second.target ∙ must in
        sym (ap A first.target) ∙ holds.agree first.other second.other (asked-back set A r of-r) (asked-back set A s of-s) was ∙ ap A second.target;
  }

  -- what is open in one is open in the other
  open-there : LawfulGeneral h → (trail : List Choice) → All (IsChoice g) trail → (v : Var) → Contains (targets_open trail (demands_after g trail)) v → Contains (targets_open trail (demands_after h trail)) v
  open-there lawful trail choices v k =
      let found = contains-map (λ (r : Request). r.target) (filter (opens trail) (demands_after g trail)) v k in
      let r = found.0 in
      let kept = contains-filter (opens trail) (demands_after g trail) r found.1 in
      let other = same.there (value_in trail) r (demand-after g trail r choices kept.0) ((and_parts (r.is_yes (value_in trail)) (is_none (value_in trail r.target)) kept.1).0) in
      let q = other.other in
      let unchosen = subst (λ w. is_none (value_in trail w) ≡ true) (sym other.target) ((and_parts (r.is_yes (value_in trail)) (is_none (value_in trail r.target)) kept.1).1) in
      subst (λ w. Contains (targets_open trail (demands_after h trail)) w) (other.target ∙ found.2)
      (map-contains (λ (r : Request). r.target) (filter (opens trail) (demands_after h trail)) q
      (filter-contains (opens trail) (demands_after h trail) q (yes-after h trail q lawful other.demand other.yes) (and_from (q.is_yes (value_in trail)) (is_none (value_in trail q.target)) other.yes unchosen)))

module _ (g h : General) (lawful_g : LawfulGeneral g) (lawful_h : LawfulGeneral h) (same : AreYesTogether g h) where
  next-alike : (trail : List Choice) → All (IsChoice g) trail → next_var g trail ≡ next_var h trail
  unfolding open_vars
  next-alike trail choices =
      ap first_of
      (set-alike (targets_open trail (demands_after g trail)) (targets_open trail (demands_after h trail)) (open-there g h same lawful_h trail choices)
      (open-there h g (together-back g h same) lawful_g trail (λ k d l. choice-there g h same (get_or trail k d) (choices k d l))))

  trail_from-alike : (A : Assignment) → ((c : Choice) → A c.var ≡ Some c.val → IsChoice g c) → (fuel : ℕ) (trail : List Choice) → All (IsChoice g) trail → trail_from fuel g A trail ≡ trail_from fuel h A trail
  trail_from-alike A is zero trail choices = refl
  trail_from-alike A is (suc fuel) trail choices =
      let by = λ (g : General) (o : Option Var). with_next o trail (λ v. with_value (A v) trail (λ n. trail_from fuel g A (trail ++ choice_of v n ∷ []))) in
      ap (by g) (next-alike trail choices) ∙ elim (next_var h trail) as (λ o. by g o ≡ by h o) [
        | None ↦ refl
        | Some v ↦ elim (A v) as (λ o. A v ≡ o → with_value o trail (λ n. trail_from fuel g A (trail ++ choice_of v n ∷ [])) ≡ with_value o trail (λ n. trail_from fuel h A (trail ++ choice_of v n ∷ []))) [
          | None ↦ λ e. refl
          | Some n ↦ λ e. trail_from-alike A is fuel (trail ++ choice_of v n ∷ []) (All-push (IsChoice g) trail (choice_of v n) choices (is (choice_of v n) e))
        ] refl
      ]

  -- of an assignment of known variables to values of their domains
  pub trails-alike : (A : Assignment) → IsAssignmentIn g g.known A → trail_of g A ≡ trail_of h A
  trails-alike A is = trail_from-alike A is.choice g.bound [] (All-nil (IsChoice g)) ∙ ap (λ n. trail_from n h A []) same.bound

  valid-there : (A : Assignment) → IsWholeValid g A → IsWholeValid h A
  valid-there A valid = record {
    holds = subst (λ known. HoldsWithin h known A) same.known (holds-there g h same g.known A valid.holds);
    reached = λ v. subst (λ t. IsSome (A v) ↔ Contains (map (λ (c : Choice). c.var) t) v) (trails-alike A valid.holds.assignment) (valid.reached v);
  }

  before-there : (A B : Assignment) → IsAssignmentIn g g.known A → IsAssignmentIn g g.known B → ComesBefore g A B → ComesBefore h A B
  before-there A B is_A is_B = before-over g h A B (sym (trails-alike A is_A)) (sym (trails-alike B is_B)) same.order

-- both directions

module _ (g h : General) (lawful_g : LawfulGeneral g) (lawful_h : LawfulGeneral h) (same : AreYesTogether g h) where
  known-there : (A : Assignment) → IsAssignmentIn g g.known A → IsAssignmentIn h h.known A
  known-there A is = subst (λ known. IsAssignmentIn h known A) same.known (assignment-there g h same g.known A is)

  pub holds-alike : (set : Var → Bool) (A : Assignment) → HoldsWithin g set A ↔ HoldsWithin h set A
  holds-alike set A = (holds-there g h same set A, holds-there h g (together-back g h same) set A)

  pub valid-alike : (A : Assignment) → IsWholeValid g A ↔ IsWholeValid h A
  valid-alike A = (valid-there g h lawful_g lawful_h same A, valid-there h g lawful_h lawful_g (together-back g h same) A)

  pub before-alike : (A B : Assignment) → IsAssignmentIn g g.known A → IsAssignmentIn g g.known B → ComesBefore g A B ↔ ComesBefore h A B
  before-alike A B is_A is_B = (before-there g h lawful_g lawful_h same A B is_A is_B, before-there h g lawful_h lawful_g (together-back g h same) A B (known-there A is_A) (known-there B is_B))

  first-there : (A : Assignment) → IsFirst g A → IsFirst h A
  first-there A first = record {
    whole_valid = (valid-alike A).0 first.whole_valid;
    none_before = λ B valid before.
        let of_B = (valid-alike B).1 valid in
        first.none_before B of_B ((before-alike B A of_B.holds.assignment first.whole_valid.holds.assignment).1 before);
  }

pub first-alike : (g h : General) → LawfulGeneral g → LawfulGeneral h → AreYesTogether g h → (A : Assignment) → IsFirst g A ↔ IsFirst h A
first-alike g h lawful_g lawful_h same A = (first-there g h lawful_g lawful_h same A, first-there h g lawful_h lawful_g (together-back g h same) A)

pub are-one : (g h : General) → LawfulGeneral g → LawfulGeneral h → AreYesTogether g h → AreOne g h
are-one g h lawful_g lawful_h same = record {
  holds = holds-alike g h lawful_g lawful_h same;
  trails = trails-alike g h lawful_g lawful_h same;
  valid = valid-alike g h lawful_g lawful_h same;
  before = before-alike g h lawful_g lawful_h same;
  first = first-alike g h lawful_g lawful_h same;
}
