-- A search finds the first trail of all with the constraints of that trail too.
use Rattle.std.proofs.Common.{◌≡◌, ℕ, true, List, refl, sym, ap, ◌∙◌}
use Rattle.std.specs.List.{list_all}
use Rattle.plan_types.specs.declared.condition.Env.{Env}
use Rattle.plan_types.specs.declared.constraint.Constraint.{Constraint}
use Rattle.plan_types.specs.declared.index.Index.{Index}
use Rattle.plan_types.specs.declared.limit.Limit.TheVariants.{Unlimited}
use Rattle.plan_types.specs.declared.project.Project.{Project}
use Rattle.flatten.specs.Sound.{IsSound, has_package}
use Rattle.qualified_goals.specs.Names.{AreNumbers, NameTable}
use Rattle.choice_problem.specs.declared.problem.Choice.{Choice}
use Rattle.choice_problem.specs.Answer.{Ended, Failed, Found, GaveUp, answer_of}
use Rattle.choice_problem.specs.Assignment.{Assignment}
use Rattle.choice_problem.specs.General.{General, LawfulGeneral, general}
use Rattle.choice_problem.specs.Joined.{AreOne}
use Rattle.choice_problem.specs.Problem.{Lawful, Problem}
use Rattle.choice_problem.specs.Sound.{IsRightEnd}
use Rattle.choice_problem.specs.Trail.{AreNew, trail_of, value_in}
use Rattle.choice_problem.specs.Valid.{IsFirst, IsWholeValid}
use Rattle.solver_index.specs.Orders.{AreOrders}
use Rattle.cabal_problem.specs.Problem.{IsProblemOf, problem_of}
use Rattle.cabal_problem.specs.WholeDemands.{whole_problem}
use Rattle.freeze_text.specs.Reads.{IsUnion, with_constraints}
use Rattle.frozen_choices.specs.Barred.{BarsNone}
use Rattle.frozen_choices.specs.Frozen.{frozen}
use Rattle.frozen_plan.proofs.Narrowed.{trails-alike}
use Rattle.frozen_plan.proofs.Whole.{first-too, narrower}

-- what the laws of problems say of a search, and of whole conditions

abbrev pub EndsRight : Type 0
EndsRight = (p : Problem) → Lawful p → IsRightEnd p (answer_of p Unlimited).ended

abbrev pub OneFirst : Type 0
OneFirst = (g : General) (A B : Assignment) → LawfulGeneral g → IsFirst g A → IsFirst g B → trail_of g A ≡ trail_of g B

abbrev pub GeneralIsLawful : Type 0
GeneralIsLawful = (p : Problem) → Lawful p → LawfulGeneral (general p)

abbrev pub ValidAsWhole : Type 0
ValidAsWhole = (env : Env) (index : Index) (project : Project) (names : NameTable) (orders : List (List ℕ))
    → IsSound env index → AreNumbers index.packages names → AreOrders project index.packages orders
    → list_all (λ named. has_package index named.name) project.extra ≡ true
    → AreOne (whole_problem env index.packages project names orders) (general (problem_of index.packages project names orders))

abbrev pub IsLawful : Type 0
IsLawful = (env : Env) (index : Index) (project : Project) (names : NameTable) (p : Problem)
    → IsSound env index → list_all (λ named. has_package index named.name) project.extra ≡ true → IsProblemOf index project names p → Lawful p

abbrev pub FrozenBarsNone : Type 0
FrozenBarsNone = (env : Env) (index : Index) (project : Project) (names : NameTable) (orders : List (List ℕ)) (trail : List Choice)
    → IsSound env index → AreNumbers index.packages names → AreNew trail
    → IsWholeValid (whole_problem env index.packages project names orders) (value_in trail)
    → BarsNone index.packages names (frozen index.packages names trail) trail

module _ (right : EndsRight) (one_first : OneFirst) (lawful : GeneralIsLawful) (as_whole : ValidAsWhole) (keeps : IsLawful) (bars_none : FrozenBarsNone)
    (env : Env) (index : Index) (project : Project) (names : NameTable) (orders : List (List ℕ)) (trail : List Choice) (all : List Constraint)
    (sound : IsSound env index) (there : list_all (λ named. has_package index named.name) project.extra ≡ true)
    (numbers : AreNumbers index.packages names) (made : AreOrders project index.packages orders)
    (union : IsUnion all project.constraints (frozen index.packages names trail)) (new : AreNew trail)
    (first : IsFirst (whole_problem env index.packages project names orders) (value_in trail))
    (is : trail ≡ trail_of (whole_problem env index.packages project names orders) (value_in trail)) where
  abbrev frozen_project : Project
  frozen_project = with_constraints all project

  abbrev q : Problem
  q = problem_of index.packages (with_constraints all project) names orders

  abbrev g : General
  g = whole_problem env index.packages project names orders

  abbrev h : General
  h = whole_problem env index.packages (with_constraints all project) names orders

  -- ---- the problem with the constraints of the trail

  lawful-q : Lawful q
  lawful-q = keeps env index frozen_project names q sound there (record {
    in_goal_order = sound.in_goal_order;
    numbers = numbers;
    orders = orders;
    orders_are = record { count = made.count; each = made.each };
    problem_is = refl;
  })

  one-q : AreOne h (general q)
  one-q = as_whole env index frozen_project names orders sound numbers (record { count = made.count; each = made.each }) there

  -- ---- the trail is the first of it too

  valid : IsWholeValid g (value_in trail)
  valid = first.whole_valid

  first-frozen : IsFirst h (value_in trail)
  first-frozen = first-too env index project names orders trail sound numbers new valid all union (bars_none env index project names orders trail sound numbers new valid) first

  first-again : IsFirst (general q) (value_in trail)
  first-again = (one-q.first (value_in trail)).0 first-frozen

  trail-again : trail_of (general q) (value_in trail) ≡ trail
  trail-again =
      sym (one-q.trails (value_in trail) first-frozen.whole_valid.holds.assignment)
      ∙ sym (trails-alike g h (narrower env index project names orders trail sound numbers new valid all union) (value_in trail))
      ∙ sym is

  by-end : (e : Ended) → IsRightEnd q e → e ≡ Found trail
  by-end (Found found) (B, first_is, found_is) = ap Found (found_is ∙ one_first (general q) B (value_in trail) (lawful q lawful-q) first_is first-again ∙ trail-again)
  by-end (Failed set) none = absurd (none.1 (value_in trail) first-again.whole_valid)
  by-end GaveUp gave = absurd gave

  pub found-again : (answer_of q Unlimited).ended ≡ Found trail
  found-again = by-end (answer_of q Unlimited).ended (right q lawful-q)
