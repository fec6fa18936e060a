-- What is found with the constraints of a trail.
use Rattle.std.proofs.Common.{◌≡◌, ℕ, Bool, true, List, refl, sym, ap, ◌∙◌, subst}
use Rattle.std.specs.List.{list_all}
use Rattle.plan_types.specs.declared.condition.Env.{Env}
use Rattle.plan_types.specs.declared.constraint.Constraint.{Constraint}
use Rattle.plan_types.specs.declared.index.Index.{Index}
use Rattle.plan_types.specs.declared.limit.Limit.TheVariants.{Unlimited}
use Rattle.plan_types.specs.declared.project.Project.{Project}
use Rattle.plan_types.specs.declared.project.Settings.{Settings}
use Rattle.flatten.specs.Sound.{IsSound, has_package}
use Rattle.qualified_goals.specs.Names.{AreNumbers, NameTable}
use Rattle.choice_problem.specs.declared.outcome.Outcome.TheVariants as outcome
use Rattle.choice_problem.specs.declared.problem.Choice.{Choice}
use Rattle.choice_problem.specs.Answer.{Found, answer_of, outcome_by, printed}
use Rattle.choice_problem.specs.General.{General}
use Rattle.choice_problem.specs.Problem.{Problem}
use Rattle.choice_problem.specs.Trail.{AreNew, trail_of, value_in}
use Rattle.choice_problem.specs.Valid.{IsFirst}
use Rattle.solver_index.specs.Orders.{AreOrders}
use Rattle.cabal_problem.specs.Problem.{problem_of}
use Rattle.cabal_problem.specs.WholeDemands.{whole_problem}
use Rattle.freeze_text.specs.Reads.{IsUnion, with_constraints}
use Rattle.frozen_choices.specs.Frozen.{frozen}
use Rattle.plan_search.specs.declared.blame.Blame.TheVariants.{Unasked}
use Rattle.plan_search.specs.declared.search.Finding.{Finding}
use Rattle.plan_search.specs.declared.search.Picking.{Picking}
use Rattle.plan_search.specs.declared.search.Picking.TheVariants.{Least}
use Rattle.plan_search.specs.Finding.{IsFindingOf}
use Rattle.plan_search.specs.Meaning.{IsFirstTrail}
use Rattle.frozen_run.specs.Again.{IsFoundAgain, settings_with}

-- what the laws of searches say

abbrev pub FoundAgain : Type 0
FoundAgain = (env : Env) (index : Index) (project : Project) (names : NameTable) (orders : List (List ℕ)) (trail : List Choice) (constraints : List Constraint)
    → IsSound env index → list_all (λ named. has_package index named.name) project.extra ≡ true
    → AreNumbers index.packages names → AreOrders project index.packages orders
    → IsUnion constraints project.constraints (frozen index.packages names trail) → AreNew trail
    → IsFirst (whole_problem env index.packages project names orders) (value_in trail)
    → trail ≡ trail_of (whole_problem env index.packages project names orders) (value_in trail)
    → (answer_of (problem_of index.packages (with_constraints constraints project) names orders) Unlimited).ended ≡ Found trail

abbrev pub OneFinding : Type 0
OneFinding = (picking : Picking) (minimize : Bool) (index : Index) (settings : Settings) (a b : Finding) → IsFindingOf picking minimize index settings a
    → IsFindingOf picking minimize index settings b → a ≡ b

module _ (again : FoundAgain) (one : OneFinding) (minimize : Bool) (index : Index) (settings : Settings) (names : NameTable) (trail : List Choice) (all : List Constraint)
    (sound : IsSound settings.env index) (there : list_all (λ named. has_package index named.name) settings.project.extra ≡ true)
    (first : IsFirstTrail index settings names trail) (union : IsUnion all settings.project.constraints (frozen index.packages names trail)) where
  abbrev q : Problem
  q = problem_of index.packages (with_constraints all settings.project) names first.problem_is.orders

  abbrev expected : Finding
  expected = record { names = names; outcome = outcome.Found trail (printed (answer_of q Unlimited).past.counts); blame = Unasked }

  ended : (answer_of q Unlimited).ended ≡ Found trail
  ended =
      again settings.env index settings.project names first.problem_is.orders trail all sound there first.problem_is.numbers first.problem_is.orders_are union first.new
      (subst (λ (g : General). IsFirst g (value_in trail)) first.problem_is.problem_is first.first)
      (first.trail_is ∙ ap (λ (g : General). trail_of g (value_in trail)) first.problem_is.problem_is)

  is-finding : IsFindingOf Least minimize index (settings_with all settings) expected
  is-finding = record {
    problem = q;
    problem_is = record {
      in_goal_order = sound.in_goal_order;
      numbers = first.problem_is.numbers;
      orders = first.problem_is.orders;
      orders_are = record { count = first.problem_is.orders_are.count; each = first.problem_is.orders_are.each };
      problem_is = refl;
    };
    outcome_is = sym (ap (λ e. outcome_by e (printed (answer_of q Unlimited).past.counts)) ended);
    blame_is = refl;
  }

  pub found-again : (finding : Finding) → IsFindingOf Least minimize index (settings_with all settings) finding → IsFoundAgain names trail finding
  found-again finding found =
      let same = one Least minimize index (settings_with all settings) finding expected found is-finding in
      record {
        names_are = ap (λ (f : Finding). f.names) same;
        counts = printed (answer_of q Unlimited).past.counts;
        outcome_is = ap (λ (f : Finding). f.outcome) same;
        blame_is = ap (λ (f : Finding). f.blame) same;
      }
