-- What a finding means, by the problem with whole conditions.
use Rattle.std.specs.Prelude.{◌≡◌, ℕ, Bool, List}
use Rattle.plan_types.specs.declared.index.Index.{Index}
use Rattle.plan_types.specs.declared.limit.Limit.TheVariants.{At}
use Rattle.plan_types.specs.declared.project.Settings.{Settings}
use Rattle.qualified_goals.specs.Names.{AreNumbers, NameTable}
use Rattle.qualified_goals.specs.declared.variable.Var.{Var}
use Rattle.choice_problem.specs.declared.problem.Choice.{Choice}
use Rattle.choice_problem.specs.declared.outcome.Outcome.{Outcome}
use Rattle.choice_problem.specs.declared.outcome.Outcome.TheVariants as outcome
use Rattle.choice_problem.specs.Assignment.{Assignment}
use Rattle.choice_problem.specs.General.{General}
use Rattle.choice_problem.specs.Holds.{AdmitsNone}
use Rattle.choice_problem.specs.Problem.{Problem}
use Rattle.choice_problem.specs.Trail.{AreNew, trail_of, value_in}
use Rattle.choice_problem.specs.Valid.{IsFirst, IsWholeValid}
use Rattle.choice_problem.specs.ConflictSet.{has}
use Rattle.choice_problem.specs.Answer.{GaveUp, guided_answer}
use Rattle.cabal_problem.specs.Problem.{IsProblemOf}
use Rattle.cabal_problem.specs.WholeDemands.{whole_problem}
use Rattle.solver_index.specs.Orders.{AreOrders}
use Rattle.plan_search.specs.declared.search.Finding.{Finding}
use Rattle.plan_search.specs.declared.search.Picking.{Picking}
use Rattle.plan_search.specs.declared.search.Picking.TheVariants.{Least, MostMet}
use Rattle.plan_search.specs.Blame.{IsBlame}
use Rattle.plan_search.specs.declared.blame.Blame.{Blame}
use Rattle.plan_search.specs.Finding.{guide_of}

-- the problem of packages with whole conditions, by the numbers of their names
pub record IsWholeProblem (index : Index) (settings : Settings) (names : NameTable) (problem : General) : Type 0 where
  pub numbers : AreNumbers index.packages names
  pub orders : List (List ℕ)
  pub orders_are : AreOrders settings.project index.packages orders
  pub problem_is : problem ≡ whole_problem settings.env index.packages settings.project names orders

-- The trail names each variable once. As an assignment it is the first complete, valid one, and it is that one's trail.
pub record IsFirstTrail (index : Index) (settings : Settings) (names : NameTable) (trail : List Choice) : Type 0 where
  pub problem : General
  pub problem_is : IsWholeProblem index settings names problem
  pub new : AreNew trail
  pub first : IsFirst problem (value_in trail)
  pub trail_is : trail ≡ trail_of problem (value_in trail)

-- The trail names each variable once. As an assignment it is complete and valid, but needn't be the first.
pub record IsValidTrail (index : Index) (settings : Settings) (names : NameTable) (trail : List Choice) : Type 0 where
  pub problem : General
  pub problem_is : IsWholeProblem index settings names problem
  pub new : AreNew trail
  pub whole_valid : IsWholeValid problem (value_in trail)

-- the meaning of a trail, by the picking that found it
abbrev pub MeansTrail : Picking → Index → Settings → NameTable → List Choice → Type 0
MeansTrail Least index settings names trail = IsFirstTrail index settings names trail
MeansTrail MostMet index settings names trail = IsValidTrail index settings names trail

-- No assignment is complete and valid, and these variables admit none.
pub record AreToBlame (index : Index) (settings : Settings) (names : NameTable) (set : List Var) : Type 0 where
  pub problem : General
  pub problem_is : IsWholeProblem index settings names problem
  pub none : (assignment : Assignment) → IsWholeValid problem assignment → ⊥
  pub admits_none : AdmitsNone problem (has set)

-- There is a limit, and a search over the problem gives up at it.
pub record ReachesLimit (picking : Picking) (index : Index) (settings : Settings) (names : NameTable) : Type 0 where
  pub problem : Problem
  pub problem_is : IsProblemOf index settings.project names problem
  pub most : ℕ
  pub limit : settings.limit ≡ At most
  pub ended : (guided_answer (guide_of picking) problem settings.limit).ended ≡ GaveUp

-- the meaning of an outcome
abbrev pub MeansOutcome : Picking → Index → Settings → NameTable → Outcome → Type 0
MeansOutcome picking index settings names (outcome.Found trail counts) = MeansTrail picking index settings names trail
MeansOutcome picking index settings names (outcome.NoPlan set counts) = AreToBlame index settings names set
MeansOutcome picking index settings names (outcome.GaveUp counts) = ReachesLimit picking index settings names

-- the blame of these variables, by the problem with whole conditions
pub record IsBlamed (minimize : Bool) (index : Index) (settings : Settings) (names : NameTable) (set : List Var) (blame : Blame) : Type 0 where
  pub problem : General
  pub problem_is : IsWholeProblem index settings names problem
  pub is_so : IsBlame minimize problem settings.limit set blame

-- the meaning of a failure's blame
abbrev pub MeansFailure : Bool → Index → Settings → NameTable → Outcome → Blame → Type 0
MeansFailure minimize index settings names (outcome.Found trail counts) blame = Unit {0}
MeansFailure minimize index settings names (outcome.NoPlan set counts) blame = IsBlamed minimize index settings names set blame
MeansFailure minimize index settings names (outcome.GaveUp counts) blame = Unit {0}

-- the meaning of a finding
pub record Means (picking : Picking) (minimize : Bool) (index : Index) (settings : Settings) (finding : Finding) : Type 0 where
  pub outcome : MeansOutcome picking index settings finding.names finding.outcome
  pub failure : MeansFailure minimize index settings finding.names finding.outcome finding.blame
