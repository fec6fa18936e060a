-- Words and files have one output: a task or a refusal, a finding over the task, and its text in each form.
use Rattle.std.proofs.Common.{◌≡◌, ℕ, Bool, true, false, List, Result, Ok, Err, Option, Some, None, refl}
use Rattle.plan_types.specs.declared.condition.Env.{Env}
use Rattle.plan_types.specs.declared.index.Index.{Index}
use Rattle.plan_types.specs.declared.limit.Limit.{Limit}
use Rattle.plan_types.specs.declared.project.Settings.{Settings}
use Rattle.plan_types.specs.declared.refusal.Refusal.{Refusal}
use Rattle.qualified_goals.specs.Names.{AreInGoalOrder, NameTable}
use Rattle.choice_problem.specs.Trail.{value_in}
use Rattle.choice_problem.specs.declared.outcome.Counts.{Counts}
use Rattle.choice_problem.specs.declared.outcome.Outcome.{Outcome}
use Rattle.choice_problem.specs.declared.outcome.Outcome.TheVariants as outcome
use Rattle.choice_problem.specs.declared.problem.Choice.{Choice}
use Rattle.outside_folder.specs.Files.{Bytes, Files}
use Rattle.project_config.specs.Project.{freeze_bytes}
use Rattle.command_line.specs.Reading.{default_options, reading}
use Rattle.command_line.specs.declared.reading.Command.{Command}
use Rattle.command_line.specs.declared.reading.Command.TheVariants.{Plan, Generate, Freeze, Replay}
use Rattle.command_line.specs.declared.reading.Options.{Options}
use Rattle.plan_components.specs.Chosen.{Selection, selection_from}
use Rattle.plan_nodes.specs.declared.node.PlanNode.{PlanNode}
use Rattle.elaborate.specs.Plan.{IsPlan}
use Rattle.replay_text.specs.Replay.{IsReplay}
use Rattle.replay_text.specs.declared.event.JobEvent.{JobEvent}
use Rattle.event_file.specs.Events.{AreEventsAt}
use Rattle.plan_generate.specs.Generated.{generated}
use Rattle.plan_task.specs.Task.{IsTask}
use Rattle.plan_task.specs.declared.task.Task.{Task}
use Rattle.plan_search.specs.Finding.{IsFindingOf}
use Rattle.plan_search.specs.declared.blame.Blame.{Blame}
use Rattle.plan_search.specs.declared.search.Finding.{Finding}
use Rattle.plan_search.specs.declared.search.Picking.{Picking}
use Rattle.plan_search.specs.declared.search.Picking.TheVariants.{Least}
use Rattle.plan_print.specs.Texts.{plan_text}
use Rattle.plan_json.specs.Texts.{plan_json}
use Rattle.plan_command.specs.Asked.{picking_of}
use Rattle.plan_command.specs.Form.{IsPlanText, conflict_text_in, form_of, frozen_form, frozen_text, gave_up_text_in, old_freeze_text, summary_of}
use Rattle.plan_command.specs.Output.{IsOutputOfOutcome, refused, usage}
use Rattle.plan_command.specs.Run.{IsOutputAtEvents, IsOutputAtTask, IsOutputOf, IsOutputOfCommand, IsOutputOfFreeze, IsOutputOfGenerate, IsOutputOfPlan, IsOutputOfRead, IsOutputOfReplay, IsOutputOfTask}
use Rattle.plan_command.specs.declared.answer.Answer.TheVariants as answer
use Rattle.every_output.proofs.Tasks.{task_in_goal_order}

abbrev pub SomeTask : Type 0
SomeTask = (options : Options) (files : Files) → (task : Result Task Refusal) × IsTask options files task

abbrev pub SomeFinding : Type 0
SomeFinding = (picking : Picking) (minimize : Bool) (index : Index) (settings : Settings) → AreInGoalOrder index.packages
    → (finding : Finding) × IsFindingOf picking minimize index settings finding

abbrev pub SomePlan : Type 0
SomePlan = (selection : Selection) → (lines : List PlanNode) × IsPlan selection lines

abbrev pub SomeEventList : Type 0
SomeEventList = (path : Bytes) (files : Files) → (told : Result (List JobEvent) Refusal) × AreEventsAt path files told

abbrev pub SomeReplay : Type 0
SomeReplay = (nodes : List PlanNode) (slots : ℕ) (events : List JobEvent) → (text : List ℕ) × IsReplay nodes slots events text

abbrev pub OneAnswer : Type 0
OneAnswer = (words : List Bytes) (files : Files) (a b : _) → IsOutputOf words files a → IsOutputOf words files b → a ≡ b

-- ---- each form has a text

-- The type of forms isn't public in `plan_command`, so texts are given by a relation of their form.

-- every plan has a text by this relation
abbrev HasTexts : (Index → NameTable → List Choice → List PlanNode → Counts → Bytes → Type 0) → Type 0
HasTexts IsText = (index : Index) (names : NameTable) (trail : List Choice) (nodes : List PlanNode) (counts : Counts) → (text : Bytes) × IsText index names trail nodes counts text

-- the same options, with lines or JSON
abbrev with_json : Bool → Options → Options
with_json json options = record options { json = json }

by_json : (json : Bool) (options : Options) → HasTexts (IsPlanText (form_of (with_json json options)))
by_json true options index names trail nodes counts = (plan_json index names trail nodes counts, refl)
by_json false options index names trail nodes counts = (plan_text index names trail nodes counts, refl)

as_asked : (options : Options) → HasTexts (IsPlanText (form_of options))
as_asked options = by_json options.json options

as_constraints : (files : Files) → HasTexts (IsPlanText (frozen_form files))
as_constraints files index names trail nodes counts = (frozen_text (old_freeze_text (freeze_bytes files)) index names trail, refl)

module _ (some_task : SomeTask) (some_finding : SomeFinding) (some_plan : SomePlan) (some_event_list : SomeEventList) (some_replay : SomeReplay) where
  -- ---- a task has an output in a form with texts

  module _ (form : _) (some_text : HasTexts (IsPlanText form)) where
    of_outcome : (env : Env) (index : Index) (names : NameTable) (blame : Blame) (found : Outcome) → (output : _) × IsOutputOfOutcome form env index names blame found output
    of_outcome env index names blame (outcome.Found trail counts) =
        let nodes = some_plan (selection_from index names env (value_in trail)) in
        let text = some_text index names trail nodes.0 counts in
        (record { answer = answer.Planned; text = text.0 }, (nodes.0, nodes.1, record { answer_is = refl; text_is = text.1 }))
    of_outcome env index names blame (outcome.NoPlan set counts) =
        (record { answer = answer.NoPlan; text = conflict_text_in form index names set blame counts }, refl)
    of_outcome env index names blame (outcome.GaveUp counts) = (record { answer = answer.GaveUp; text = gave_up_text_in form index counts }, refl)

    of_task : (picking : Picking) (minimize : Bool) (task : Task) → AreInGoalOrder task.index.packages → (output : _) × IsOutputOfTask picking minimize form task output
    of_task picking minimize task ordered =
        let found = some_finding picking minimize task.index task.settings ordered in
        let made = of_outcome task.settings.env task.index found.0.names found.0.blame found.0.outcome in
        (made.0, record { finding = found.0; found = found.1; output_is = made.1 })

    module _ (options : Options) (files : Files) where
      of_read : (picking : Picking) (minimize : Bool) (read : Result Task Refusal) → IsTask options files read → (output : _) × IsOutputOfRead picking minimize form read output
      of_read picking minimize (Ok task) made = of_task picking minimize task (task_in_goal_order options files task made)
      of_read picking minimize (Err refusal) made = (refused refusal, refl)

      of_plan : (output : _) × IsOutputOfPlan form options files output
      unfolding IsOutputOfPlan
      of_plan =
          let task = some_task options files in
          let made = of_read (picking_of options) options.minimize task.0 task.1 in
          (made.0, (task.0, task.1, made.1))

  -- ---- a command has an output

  of_generate : (number : ℕ) (limit : Limit) → (output : _) × IsOutputOfGenerate number limit output
  of_generate number limit =
      of_plan _ (λ index names trail nodes counts. (summary_of number trail nodes counts (plan_text index names trail nodes counts), refl)) (default_options limit) (generated number)

  of_freeze : (options : Options) (files : Files) → (output : _) × IsOutputOfFreeze options files output
  unfolding IsOutputOfFreeze
  of_freeze options files =
      let task = some_task options files in
      let made = of_read (frozen_form files) (as_constraints files) options files Least false task.0 task.1 in
      (made.0, (task.0, task.1, made.1))

  module _ (path : Bytes) (slots : ℕ) (options : Options) (files : Files) where
    at_events : (task : Task) → AreInGoalOrder task.index.packages → (events : Result (List JobEvent) Refusal) → (output : _) × IsOutputAtEvents slots task events output
    at_events task ordered (Ok events) = of_task _ (λ index names trail nodes counts. some_replay nodes slots events) Least false task ordered
    at_events task ordered (Err refusal) = (refused refusal, refl)

    at_task : (read : Result Task Refusal) → IsTask options files read → (output : _) × IsOutputAtTask path slots files read output
    at_task (Ok task) made =
        let told = some_event_list path files in
        let output = at_events task (task_in_goal_order options files task made) told.0 in
        (output.0, (told.0, told.1, output.1))
    at_task (Err refusal) made = (refused refusal, refl)

    of_replay : (output : _) × IsOutputOfReplay options path slots files output
    unfolding IsOutputOfReplay
    of_replay =
        let task = some_task options files in
        let made = at_task task.0 task.1 in
        (made.0, (task.0, task.1, made.1))

  of_command : (files : Files) (command : Option Command) → (output : _) × IsOutputOfCommand command files output
  of_command files None = (usage, refl)
  of_command files (Some (Plan options)) = of_plan (form_of options) (as_asked options) options files
  of_command files (Some (Generate number limit)) = of_generate number limit
  of_command files (Some (Freeze options)) = of_freeze options files
  of_command files (Some (Replay options events slots)) = of_replay events slots options files

  pub the_answer : OneAnswer → (words : List Bytes) (files : Files)
      → (output : _) × IsOutputOf words files output × ((other : _) → IsOutputOf words files other → other ≡ output)
  the_answer one words files =
      let made = of_command files (reading words) in
      (made.0, made.1, λ other is. one words files other made.0 is made.1)
