use Rattle.std.proofs.Common.{List, subst}
use Rattle.plan_types.specs.declared.index.Index.{Index}
use Rattle.plan_types.specs.declared.project.Settings.{Settings}
use Rattle.flatten.specs.Sound.{IsSound}
use Rattle.qualified_goals.specs.Names.{NameTable}
use Rattle.choice_problem.specs.declared.problem.Choice.{Choice}
use Rattle.choice_problem.specs.General.{General}
use Rattle.choice_problem.specs.Trail.{value_in}
use Rattle.choice_problem.specs.Valid.{IsWholeValid}
use Rattle.package_index.specs.Extra.{AreThere}
use Rattle.plan_search.specs.Meaning.{IsWholeProblem, MeansOutcome, MeansTrail}
use Rattle.plan_search.specs.declared.search.Picking.{Picking}
use Rattle.plan_search.specs.declared.search.Picking.TheVariants.{Least, MostMet}
use Rattle.plan_command.specs.Run.{minimizes, picking_for}
use Rattle.complete_plan.specs.Valid.{ValidAssignment}
use Rattle.complete_plan.proofs.laws.printed_plan_lacks_none.Goals as goal

-- a problem with whole conditions, and that a trail is as a map whole and valid for it
record IsValidFor (index : Index) (settings : Settings) (names : NameTable) (trail : List Choice) : Type 0 where
  problem : General
  problem_is : IsWholeProblem index settings names problem
  whole_valid : IsWholeValid problem (value_in trail)

valid-for : (picking : Picking) (index : Index) (settings : Settings) (names : NameTable) (trail : List Choice) → MeansTrail picking index settings names trail → IsValidFor index settings names trail
valid-for Least index settings names trail h = record { problem = h.problem; problem_is = h.problem_is; whole_valid = h.first.whole_valid }
valid-for MostMet index settings names trail h = record { problem = h.problem; problem_is = h.problem_is; whole_valid = h.whole_valid }

abbrev valid-over : (index : Index) (settings : Settings) (names : NameTable) (trail : List Choice) → IsSound settings.env index → AreThere settings.project.extra index
    → IsValidFor index settings names trail → ValidAssignment
valid-over index settings names trail sound there for = record {
  env = settings.env;
  index = index;
  project = settings.project;
  names = names;
  orders = for.problem_is.orders;
  assignment = value_in trail;
  sound = sound;
  numbers = for.problem_is.numbers;
  orders_are = for.problem_is.orders_are;
  there = there;
  whole_valid = subst (λ (g : General). IsWholeValid g (value_in trail)) for.problem_is.problem_is for.whole_valid;
}

pub returns-clause-meant : goal.returns-clause-meant
returns-clause-meant c picking options files text plan =
    let task = plan.task in
    let for = valid-for picking task.index task.settings plan.names plan.trail plan.means in
    c.valid_plan_lacks_none.ensures (valid-over task.index task.settings plan.names plan.trail plan.ready.sound plan.ready.there for) plan.nodes plan.planned

pub returns-clause-in_order : goal.returns-clause-in_order
returns-clause-in_order c command printed =
    let plan = printed.1 in
    let picking = picking_for command in
    let index = plan.task.index in
    let settings = plan.task.settings in
    let names = plan.finding.names in
    let right = c.what_is_found_is_right.ensures picking (minimizes command) index settings plan.finding plan.ready.sound plan.ready.there plan.found in
    let means : MeansTrail picking index settings names plan.trail = subst (MeansOutcome picking index settings names) plan.outcome_is right in
    let for = valid-for picking index settings names plan.trail means in
    c.valid_plan_lacks_none.ensures (valid-over index settings names plan.trail plan.ready.sound plan.ready.there for) plan.nodes plan.nodes_are
