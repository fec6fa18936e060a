-- Words and files determine the output.
use Rattle.std.proofs.Common.{◌≡◌, ℕ, Bool, false, List, Result, Ok, Err, Option, Some, None, sym, ap, subst, ◌∙◌}
use Rattle.plan_types.specs.declared.condition.Env.{Env}
use Rattle.plan_types.specs.declared.index.Index.{Index}
use Rattle.plan_types.specs.declared.project.Settings.{Settings}
use Rattle.plan_types.specs.declared.refusal.Refusal.{Refusal}
use Rattle.outside_folder.specs.Files.{Bytes, Files}
use Rattle.command_line.specs.Reading.{default_options, reading}
use Rattle.command_line.specs.declared.reading.Command.{Command}
use Rattle.command_line.specs.declared.reading.Command.TheVariants.{Plan, Generate, Freeze, Replay}
use Rattle.command_line.specs.declared.reading.Options.{Options}
use Rattle.event_file.specs.Events.{AreEventsAt}
use Rattle.replay_text.specs.Replay.{IsReplay}
use Rattle.replay_text.specs.declared.event.JobEvent.{JobEvent}
use Rattle.plan_generate.specs.Generated.{generated}
use Rattle.plan_command.specs.declared.form.Form.{Form}
use Rattle.plan_command.specs.declared.form.Form.TheVariants.{Lines, Json, Summary, Freeze as as_constraints, Replay as at_events}
use Rattle.plan_command.specs.Form.{IsPlanText, form_of, frozen_form}
use Rattle.plan_command.specs.declared.output.Output.{Output}
use Rattle.plan_task.proofs.OneTask.{OneIndex, OneProject, one_task}
use Rattle.plan_task.specs.declared.task.Task.{Task}
use Rattle.plan_search.specs.Finding.{IsFindingOf}
use Rattle.plan_search.specs.declared.search.Finding.{Finding}
use Rattle.plan_search.specs.declared.blame.Blame.{Blame}
use Rattle.plan_search.specs.declared.search.Picking.{Picking}
use Rattle.plan_search.specs.declared.search.Picking.TheVariants.{Least}
use Rattle.plan_command.specs.Asked.{picking_of}
use Rattle.choice_problem.specs.declared.outcome.Counts.{Counts}
use Rattle.choice_problem.specs.declared.problem.Choice.{Choice}
use Rattle.choice_problem.specs.declared.outcome.Outcome.{Outcome}
use Rattle.choice_problem.specs.declared.outcome.Outcome.TheVariants as outcome
use Rattle.choice_problem.specs.Trail.{value_in}
use Rattle.qualified_goals.specs.Names.{NameTable}
use Rattle.plan_components.specs.Chosen.{Selection, selection_from}
use Rattle.plan_nodes.specs.declared.node.PlanNode.{PlanNode}
use Rattle.elaborate.specs.Plan.{IsPlan}
use Rattle.plan_command.specs.Output.{IsOutputOfOutcome, IsPlanned}
use Rattle.plan_command.specs.Run.{IsOutputAtEvents, IsOutputAtTask, IsOutputOf, IsOutputOfCommand, IsOutputOfFreeze, IsOutputOfPlan, IsOutputOfRead, IsOutputOfReplay, IsOutputOfTask}

abbrev pub OneFinding : Type 0
OneFinding = (picking : Picking) (minimize : Bool) (index : Index) (settings : Settings) (a b : Finding) → IsFindingOf picking minimize index settings a
    → IsFindingOf picking minimize index settings b → a ≡ b

abbrev pub OnePlan : Type 0
OnePlan = (selection : Selection) (a b : List PlanNode) → IsPlan selection a → IsPlan selection b → a ≡ b

abbrev pub OneEventList : Type 0
OneEventList = (path : Bytes) (files : Files) (a b : Result (List JobEvent) Refusal) → AreEventsAt path files a → AreEventsAt path files b → a ≡ b

abbrev pub OneReplay : Type 0
OneReplay = (nodes : List PlanNode) (slots : ℕ) (events : List JobEvent) (a b : Bytes) → IsReplay nodes slots events a → IsReplay nodes slots events b → a ≡ b

module _ (project : OneProject) (one : OneIndex) (alike : OneFinding) (plan : OnePlan) (listed : OneEventList) (built : OneReplay) where
  one_text : (form : Form) (index : Index) (names : NameTable) (trail : List Choice) (nodes : List PlanNode) (counts : Counts) (a b : Bytes)
      → IsPlanText form index names trail nodes counts a → IsPlanText form index names trail nodes counts b → a ≡ b
  one_text Lines index names trail nodes counts a b h k = h ∙ sym k
  one_text Json index names trail nodes counts a b h k = h ∙ sym k
  one_text (Summary number) index names trail nodes counts a b h k = h ∙ sym k
  one_text (as_constraints before) index names trail nodes counts a b h k = h ∙ sym k
  one_text (at_events slots events) index names trail nodes counts a b h k = built nodes slots events a b h k

  of_outcome : (form : Form) (env : Env) (index : Index) (names : NameTable) (blame : Blame) (found : Outcome) (a b : Output)
      → IsOutputOfOutcome form env index names blame found a → IsOutputOfOutcome form env index names blame found b → a ≡ b
  of_outcome form env index names blame (outcome.Found trail counts) a b (nodes, is-plan, is) (others, also-plan, also) =
      let same = plan (selection_from index names env (value_in trail)) nodes others is-plan also-plan in
      let here = subst (λ ns. IsPlanned form index names trail ns counts a) same is in
      let same_answer = here.answer_is ∙ sym also.answer_is in
      let text = one_text form index names trail others counts a.text b.text here.text_is also.text_is in
      λ i. record { answer = same_answer i; text = text i }
  of_outcome form env index names blame (outcome.NoPlan set counts) a b is also = is ∙ sym also
  of_outcome form env index names blame (outcome.GaveUp counts) a b is also = is ∙ sym also

  of_task : (picking : Picking) (minimize : Bool) (form : Form) (task : Task) (a b : Output)
      → IsOutputOfTask picking minimize form task a → IsOutputOfTask picking minimize form task b → a ≡ b
  of_task picking minimize form task a b h k =
      let same = alike picking minimize task.index task.settings h.finding k.finding h.found k.found in
      of_outcome form task.settings.env task.index k.finding.names k.finding.blame k.finding.outcome a b
      (subst (λ (f : Finding). IsOutputOfOutcome form task.settings.env task.index f.names f.blame f.outcome a) same h.output_is) k.output_is

  of_read : (picking : Picking) (minimize : Bool) (form : Form) (read : Result Task Refusal) (a b : Output)
      → IsOutputOfRead picking minimize form read a → IsOutputOfRead picking minimize form read b → a ≡ b
  of_read picking minimize form (Ok task) a b h k = of_task picking minimize form task a b h k
  of_read picking minimize form (Err refusal) a b h k = h ∙ sym k

  at_these : (slots : ℕ) (task : Task) (events : Result (List JobEvent) Refusal) (a b : Output)
      → IsOutputAtEvents slots task events a → IsOutputAtEvents slots task events b → a ≡ b
  at_these slots task (Ok events) a b h k = of_task Least false (at_events slots events) task a b h k
  at_these slots task (Err refusal) a b h k = h ∙ sym k

  at_task : (path : Bytes) (slots : ℕ) (files : Files) (read : Result Task Refusal) (a b : Output)
      → IsOutputAtTask path slots files read a → IsOutputAtTask path slots files read b → a ≡ b
  at_task path slots files (Ok task) a b h k =
      let same = listed path files h.0 k.0 h.1 k.1 in
      at_these slots task k.0 a b (subst (λ (e : Result (List JobEvent) Refusal). IsOutputAtEvents slots task e a) same h.2) k.2
  at_task path slots files (Err refusal) a b h k = h ∙ sym k

  module _ (options : Options) (files : Files) where
    of_plan : (form : Form) (a b : Output) → IsOutputOfPlan form options files a → IsOutputOfPlan form options files b → a ≡ b
    unfolding IsOutputOfPlan
    of_plan form a b h k =
        let same = one_task project one options files h.0 k.0 h.1 k.1 in
        of_read (picking_of options) options.minimize form k.0 a b
        (subst (λ (r : Result Task Refusal). IsOutputOfRead (picking_of options) options.minimize form r a) same h.2) k.2

    of_freeze : (a b : Output) → IsOutputOfFreeze options files a → IsOutputOfFreeze options files b → a ≡ b
    unfolding IsOutputOfFreeze
    of_freeze a b h k =
        let same = one_task project one options files h.0 k.0 h.1 k.1 in
        of_read Least false (frozen_form files) k.0 a b (subst (λ (r : Result Task Refusal). IsOutputOfRead Least false (frozen_form files) r a) same h.2) k.2

    of_replay : (path : Bytes) (slots : ℕ) (a b : Output) → IsOutputOfReplay options path slots files a → IsOutputOfReplay options path slots files b → a ≡ b
    unfolding IsOutputOfReplay
    of_replay path slots a b h k =
        let same = one_task project one options files h.0 k.0 h.1 k.1 in
        at_task path slots files k.0 a b (subst (λ (r : Result Task Refusal). IsOutputAtTask path slots files r a) same h.2) k.2

  of_command : (files : Files) (command : Option Command) (a b : Output) → IsOutputOfCommand command files a → IsOutputOfCommand command files b → a ≡ b
  of_command files None a b h k = h ∙ sym k
  of_command files (Some (Plan options)) a b h k = of_plan options files (form_of options) a b h k
  of_command files (Some (Generate number limit)) a b h k = of_plan (default_options limit) (generated number) (Summary number) a b h k
  of_command files (Some (Freeze options)) a b h k = of_freeze options files a b h k
  of_command files (Some (Replay options events slots)) a b h k = of_replay options files events slots a b h k

  pub one-answer : (words : List Bytes) (files : Files) (a b : Output) → IsOutputOf words files a → IsOutputOf words files b → a ≡ b
  one-answer words files a b h k = of_command files (reading words) a b h k
