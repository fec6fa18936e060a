-- What a run prints of a folder with a printed freeze file.
use Rattle.std.proofs.Common.{◌≡◌, Bool, List, Result, Ok, subst}
use Rattle.plan_types.specs.declared.condition.Env.{Env}
use Rattle.plan_types.specs.declared.index.Index.{Index}
use Rattle.plan_types.specs.declared.project.Settings.{Settings}
use Rattle.plan_types.specs.declared.refusal.Refusal.{Refusal}
use Rattle.outside_folder.specs.Files.{Bytes, Files}
use Rattle.qualified_goals.specs.Names.{NameTable}
use Rattle.choice_problem.specs.declared.outcome.Outcome.{Outcome}
use Rattle.choice_problem.specs.declared.outcome.Outcome.TheVariants as outcome
use Rattle.choice_problem.specs.declared.problem.Choice.{Choice}
use Rattle.choice_problem.specs.Trail.{value_in}
use Rattle.command_line.specs.declared.reading.Options.{Options}
use Rattle.plan_components.specs.Chosen.{Selection, selection_from}
use Rattle.plan_nodes.specs.declared.node.PlanNode.{PlanNode}
use Rattle.elaborate.specs.Plan.{IsPlan}
use Rattle.plan_search.specs.declared.search.Finding.{Finding}
use Rattle.plan_search.specs.declared.search.Picking.TheVariants.{Least}
use Rattle.plan_search.specs.Finding.{IsFindingOf}
use Rattle.plan_task.specs.Task.{IsTask}
use Rattle.plan_task.specs.declared.task.Task.{Task}
use Rattle.plan_command.specs.Form.{frozen_form}
use Rattle.plan_command.specs.Meaning.{PlansFirst}
use Rattle.plan_command.specs.Output.{ArePlanned, IsOutputOfOutcome, IsPlanned}
use Rattle.plan_command.specs.Run.{IsOutputOfPlan, IsOutputOfRead, IsOutputOfTask}
use Rattle.frozen_run.specs.Again.{Form, IsFoundAgain, IsPlannedAgain, Output, unlimited}
use Rattle.frozen_run.proofs.Found.{FoundAgain, OneFinding, found-again}
use Rattle.frozen_run.proofs.Tasks.{HasFrozenTask}

abbrev pub OnePlan : Type 0
OnePlan = (selection : Selection) (a b : List PlanNode) → IsPlan selection a → IsPlan selection b → a ≡ b

abbrev pub OneTask : Type 0
OneTask = (options : Options) (files : Files) (a b : Result Task Refusal) → IsTask options files a → IsTask options files b → a ≡ b

module _ (one_plan : OnePlan) (form : Form) (env : Env) (index : Index) (names : NameTable) (trail : List Choice) (nodes : List PlanNode) (planned : ArePlanned env index names trail nodes) where
  printed-again : (finding : Finding) (output : Output) → IsFoundAgain names trail finding → IsOutputOfOutcome form env index finding.names finding.blame finding.outcome output
      → IsPlannedAgain form index names trail nodes output
  printed-again finding output again is =
      let by_outcome = subst (λ (o : Outcome). IsOutputOfOutcome form env index finding.names finding.blame o output) again.outcome_is is in
      let h = subst (λ (n : NameTable). IsOutputOfOutcome form env index n finding.blame (outcome.Found trail again.counts) output) again.names_are by_outcome in
      let same = one_plan (selection_from index names env (value_in trail)) h.0 nodes h.1 planned in
      (again.counts, subst (λ (ns : List PlanNode). IsPlanned form index names trail ns again.counts output) same h.2)

module _ (again : FoundAgain) (one_finding : OneFinding) (one_plan : OnePlan) (form : Form) (options : Options) (files : Files) (text : Bytes) (plan : PlansFirst (frozen_form files) options files text) where
  task-printed : (minimize : Bool) (now : Files) (output : Output) (has : HasFrozenTask options now plan.names plan.trail plan.task) → IsOutputOfTask Least minimize form has.after output
      → IsPlannedAgain form plan.task.index plan.names plan.trail plan.nodes output
  task-printed minimize now output has out =
      let task = has.frozen_task in
      let all = task.constraints in
      let at_index = subst (λ (i : Index). IsFindingOf Least minimize i has.after.settings out.finding) task.index_is out.found in
      let found = subst (λ (s : Settings). IsFindingOf Least minimize plan.task.index s out.finding) task.settings_are at_index in
      let is = found-again again one_finding minimize plan.task.index plan.task.settings plan.names plan.trail all plan.ready.sound plan.ready.there plan.means task.union out.finding found in
      let of_index = subst (λ (i : Index). IsOutputOfOutcome form has.after.settings.env i out.finding.names out.finding.blame out.finding.outcome output) task.index_is out.output_is in
      let of_env = subst (λ (s : Settings). IsOutputOfOutcome form s.env plan.task.index out.finding.names out.finding.blame out.finding.outcome output) task.settings_are of_index in
      printed-again one_plan form plan.task.settings.env plan.task.index plan.names plan.trail plan.nodes plan.planned out.finding output is of_env

  pub plan-printed : OneTask → (now : Files) (output : Output) → HasFrozenTask options now plan.names plan.trail plan.task → IsOutputOfPlan form (unlimited options) now output
      → IsPlannedAgain form plan.task.index plan.names plan.trail plan.nodes output
  unfolding IsOutputOfPlan
  plan-printed one_task now output has (read, is, out) =
      let same = one_task (unlimited options) now read (Ok has.after) is has.is in
      task-printed options.minimize now output has (subst (λ (r : Result Task Refusal). IsOutputOfRead Least options.minimize form r output) same out)
