-- A search over an index has a finding. Without a limit it is the first plan, or a conflict set.
use Rattle.std.proofs.Common.{◌≡◌, Bool, true, false, refl}
use Rattle.std.specs.List.{list_all}
use Rattle.plan_types.specs.declared.index.Index.{Index}
use Rattle.plan_types.specs.declared.limit.Limit.TheVariants.{Unlimited, At}
use Rattle.plan_types.specs.declared.project.Settings.{Settings}
use Rattle.flatten.specs.Sound.{IsSound, has_package}
use Rattle.qualified_goals.specs.Names.{AreInGoalOrder, NameTable}
use Rattle.choice_problem.specs.Answer.{guided_answer, outcome_of}
use Rattle.choice_problem.specs.declared.outcome.Outcome.{Outcome}
use Rattle.choice_problem.specs.declared.outcome.Outcome.TheVariants as outcome
use Rattle.cabal_problem.specs.Problem.{problem_of}
use Rattle.plan_search.specs.Blame.{blame_of}
use Rattle.plan_search.specs.Finding.{IsFindingOf, guide_of}
use Rattle.plan_search.specs.Meaning.{MeansOutcome, IsFirstTrail, IsWholeProblem, AreToBlame}
use Rattle.plan_search.specs.declared.search.Finding.{Finding}
use Rattle.plan_search.specs.declared.search.Picking.{Picking}
use Rattle.plan_search.specs.declared.search.Picking.TheVariants.{Least}
use Rattle.every_plan.specs.Ends.{EndsFirstOrNone, EndsUnlimited, unlimited}
use Rattle.every_plan.proofs.Flags.{some_numbers}
use Rattle.every_plan.proofs.Orders.{some_orders}

pub some_finding : (picking : Picking) (minimize : Bool) (index : Index) (settings : Settings) → AreInGoalOrder index.packages
    → (finding : Finding) × IsFindingOf picking minimize index settings finding
some_finding picking minimize index settings in_order =
    let numbers = some_numbers index.packages in
    let orders = some_orders settings.project index.packages in
    let problem = problem_of index.packages settings.project numbers.0 orders.0 in
    let outcome = outcome_of (guided_answer (guide_of picking) problem settings.limit) in (
      record { names = numbers.0; outcome = outcome; blame = blame_of minimize problem settings.limit outcome },
      record {
        problem = problem;
        problem_is = record { in_goal_order = in_order; numbers = numbers.1; orders = orders.0; orders_are = orders.1; problem_is = refl };
        outcome_is = refl;
        blame_is = refl;
      },
    )

-- ---- without a limit

abbrev MeansRight : Type 0
MeansRight = (picking : Picking) (minimize : Bool) (index : Index) (settings : Settings) (finding : Finding) → IsSound settings.env index
    → list_all (λ named. has_package index named.name) settings.project.extra ≡ true → IsFindingOf picking minimize index settings finding
    → MeansOutcome picking index settings finding.names finding.outcome

-- the limit is no part of a problem with whole conditions
problem_as : (index : Index) (settings : Settings) (names : NameTable) (problem : _) → IsWholeProblem index (unlimited settings) names problem
    → IsWholeProblem index settings names problem
problem_as index settings names problem h = record { numbers = h.numbers; orders = h.orders; orders_are = h.orders_are; problem_is = h.problem_is }

trail_as : (index : Index) (settings : Settings) (names : NameTable) (trail : _) → IsFirstTrail index (unlimited settings) names trail → IsFirstTrail index settings names trail
trail_as index settings names trail h =
    record { problem = h.problem; problem_is = problem_as index settings names h.problem h.problem_is; new = h.new; first = h.first; trail_is = h.trail_is }

blame_as : (index : Index) (settings : Settings) (names : NameTable) (set : _) → AreToBlame index (unlimited settings) names set → AreToBlame index settings names set
blame_as index settings names set h =
    record { problem = h.problem; problem_is = problem_as index settings names h.problem h.problem_is; none = h.none; admits_none = h.admits_none }

ends : (index : Index) (settings : Settings) (names : NameTable) (found : Outcome) → MeansOutcome Least index (unlimited settings) names found → EndsFirstOrNone index settings names found
ends index settings names (outcome.Found trail counts) h = trail_as index settings names trail h
ends index settings names (outcome.NoPlan set counts) h = blame_as index settings names set h
ends index settings names (outcome.GaveUp counts) h = let other : Unlimited ≡ At h.most = h.limit in cc other

pub first_or_none : MeansRight → (index : Index) (settings : Settings) → IsSound settings.env index
    → list_all (λ named. has_package index named.name) settings.project.extra ≡ true → EndsUnlimited index settings
first_or_none right index settings sound there =
    let found = some_finding Least false index (unlimited settings) sound.in_goal_order in
    record {
      finding = found.0;
      found = found.1;
      ends = ends index settings found.0.names found.0.outcome (right Least false index (unlimited settings) found.0 sound there found.1);
    }
