-- Outputs and their meanings; `Prints` is monotone.
use Rattle.std.proofs.Common.{◌≡◌, ℕ, Bool, false, List, Ok, Err, Option, refl, sym, ap, subst}
use Rattle.plan_types.specs.declared.refusal.Refusal.{Refusal}
use Rattle.qualified_goals.specs.Names.{NameTable}
use Rattle.choice_problem.specs.declared.outcome.Outcome.{Outcome}
use Rattle.choice_problem.specs.declared.outcome.Outcome.TheVariants as outcome
use Rattle.outside_folder.specs.Files.{Bytes, Files}
use Rattle.command_line.specs.declared.reading.Options.{Options}
use Rattle.plan_task.specs.Task.{IsReady, IsTask}
use Rattle.plan_task.specs.declared.task.Task.{Task}
use Rattle.event_file.specs.Events.{AreEventsAt}
use Rattle.replay_text.specs.declared.event.JobEvent.{JobEvent}
use Rattle.plan_search.specs.Meaning.{MeansFailure, MeansOutcome}
use Rattle.plan_search.specs.declared.blame.Blame.{Blame}
use Rattle.plan_search.specs.declared.search.Picking.{Picking}
use Rattle.plan_search.specs.declared.search.Picking.TheVariants.{Least}
use Rattle.plan_command.specs.Asked.{picking_of}
use Rattle.plan_command.specs.declared.form.Form.{Form}
use Rattle.plan_command.specs.declared.form.Form.TheVariants.{Replay}
use Rattle.plan_command.specs.declared.output.Output.{Output}
use Rattle.plan_command.specs.declared.status.Status.{Status}
use Rattle.plan_command.specs.Output.{IsOutputOfOutcome, refused}
use Rattle.plan_command.specs.Meaning.{Means, MeansReplay, MeansTask, MeansWith, at_events, of_events, of_files}
use Rattle.plan_command.specs.Form.{frozen_form}
use Rattle.plan_command.specs.Run.{IsOutputOfFreeze, IsOutputOfPlan, IsOutputOfReplay, IsPossibleOutput, IsOutputOfTask, Prints, failed_read, of_refusal, of_task, out_of_memory, text_prefix, whole_text}

-- `IsPossibleOutput` is monotone in the forms
pub some-wider : (picking : Picking) (minimize : Bool) (P Q : Form → Type 0) → ((form : Form) → P form → Q form) → (output : Output)
    → IsPossibleOutput picking minimize P output → IsPossibleOutput picking minimize Q output
some-wider picking minimize P Q wider output (of_refusal refusal is) = of_refusal refusal is
some-wider picking minimize P Q wider output (of_task form of task ready is) = of_task form (wider form of) task ready is

-- the output of a folder's task or refusal is that of the options over its files, and so is its meaning
module _ (options : Options) (files : Files) where
  module _ (form : Form) where
    pub planned-output : (task : Task) (output : Output) → IsTask options files (Ok task) → IsOutputOfTask (picking_of options) options.minimize form task output
        → IsOutputOfPlan form options files output
    unfolding IsOutputOfPlan
    planned-output task output made is = (Ok task, made, is)

    pub refused-output : (refusal : Refusal) (output : Output) → IsTask options files (Err refusal) → output ≡ refused refusal → IsOutputOfPlan form options files output
    unfolding IsOutputOfPlan
    refused-output refusal output made is = (Err refusal, made, is)

    module _ (picking : Picking) (minimize : Bool) (task : Task) (made : IsTask options files (Ok task)) (ready : IsReady task) where
      means-outcome : (names : NameTable) (blame : Blame) (found : Outcome) (output : Output) → MeansOutcome picking task.index task.settings names found
          → MeansFailure minimize task.index task.settings names found blame
          → IsOutputOfOutcome form task.settings.env task.index names blame found output → Means picking minimize form options files output
      means-outcome names blame (outcome.Found trail counts) output h b (nodes, plan, is) =
          subst (λ s. MeansWith s picking minimize form options files output.text) (sym is.answer_is)
          (record { task = task; made = made; ready = ready; names = names; trail = trail; means = h; nodes = nodes; planned = plan; counts = counts; text_is = is.text_is })
      means-outcome names blame (outcome.NoPlan set counts) output h b is =
          subst (Means picking minimize form options files) (sym is)
          (record { task = task; made = made; names = names; set = set; to_blame = h; counts = counts; blame = blame; blamed = b; text_is = refl })
      means-outcome names blame (outcome.GaveUp counts) output h b is =
          subst (Means picking minimize form options files) (sym is) (record { task = task; made = made; names = names; met = h; counts = counts; text_is = refl })

      pub planned-means : (output : Output) → MeansTask picking minimize form task output → Means picking minimize form options files output
      planned-means output h = means-outcome h.finding.names h.finding.blame h.finding.outcome output h.means.outcome h.means.failure h.output_is

    pub refused-means : (picking : Picking) (minimize : Bool) (refusal : Refusal) (output : Output) → IsTask options files (Err refusal) → output ≡ refused refusal
        → Means picking minimize form options files output
    refused-means picking minimize refusal output made is =
        subst (Means picking minimize form options files) (sym is) (record { refusal = refusal; made = made; text_is = refl })

  -- the same for `freeze`
  pub frozen-output : (task : Task) (output : Output) → IsTask options files (Ok task) → IsOutputOfTask Least false (frozen_form files) task output
      → IsOutputOfFreeze options files output
  unfolding IsOutputOfFreeze
  frozen-output task output made is = (Ok task, made, is)

  pub unfrozen-output : (refusal : Refusal) (output : Output) → IsTask options files (Err refusal) → output ≡ refused refusal → IsOutputOfFreeze options files output
  unfolding IsOutputOfFreeze
  unfrozen-output refusal output made is = (Err refusal, made, is)

  -- the same for `replay`
  module _ (path : Bytes) (slots : ℕ) where
    module _ (task : Task) (made : IsTask options files (Ok task)) where
      pub built-output : (events : List JobEvent) (output : Output) → AreEventsAt path files (Ok events) → IsOutputOfTask Least false (Replay slots events) task output
          → IsOutputOfReplay options path slots files output
      unfolding IsOutputOfReplay
      built-output events output told is = (Ok task, made, (Ok events, told, is))

      pub built-means : IsReady task → (events : List JobEvent) (output : Output) → AreEventsAt path files (Ok events) → MeansTask Least false (Replay slots events) task output
          → MeansReplay options path slots files output
      built-means ready events output told h = at_events events told (planned-means (Replay slots events) Least false task made ready output h)

      pub unread-output : (refusal : Refusal) (output : Output) → AreEventsAt path files (Err refusal) → output ≡ refused refusal → IsOutputOfReplay options path slots files output
      unfolding IsOutputOfReplay
      unread-output refusal output told is = (Ok task, made, (Err refusal, told, is))

      pub unread-means : (refusal : Refusal) (output : Output) → AreEventsAt path files (Err refusal) → output ≡ refused refusal → MeansReplay options path slots files output
      unread-means refusal output told is = of_events (record { task = task; made = made; refusal = refusal; events = told; output_is = is })

    pub unplanned-output : (refusal : Refusal) (output : Output) → IsTask options files (Err refusal) → output ≡ refused refusal → IsOutputOfReplay options path slots files output
    unfolding IsOutputOfReplay
    unplanned-output refusal output made is = (Err refusal, made, is)

    pub unplanned-means : (refusal : Refusal) (output : Output) → IsTask options files (Err refusal) → output ≡ refused refusal → MeansReplay options path slots files output
    unplanned-means refusal output made is =
        of_files (ap (λ (o : Output). o.answer) is)
        (record { refusal = refusal; made = made; text_is = ap (λ (o : Output). o.text) is })

-- `Prints` is monotone in its relation
pub prints-wider : (P Q : Output → Type 0) → ((o : Output) → P o → Q o) → (old new : Option Bytes) (end : Status) → Prints P old new end → Prints Q old new end
prints-wider P Q wider old new end (whole_text output is answer_is appends) = whole_text output (wider output is) answer_is appends
prints-wider P Q wider old new end (text_prefix output is failed appends) = text_prefix output (wider output is) failed appends
prints-wider P Q wider old new end (failed_read failed same) = failed_read failed same
prints-wider P Q wider old new end (out_of_memory none same) = out_of_memory none same

-- a known output satisfies the relation
pub prints-this : (P : Output → Type 0) (output : Output) → P output → (old new : Option Bytes) (end : Status) → Prints (λ printed. printed ≡ output) old new end → Prints P old new end
prints-this P output h old new end prints = prints-wider (λ printed. printed ≡ output) P (λ o e. subst P (sym e) h) old new end prints
