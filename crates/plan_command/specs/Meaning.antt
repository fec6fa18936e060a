-- What a plan and a conflict mean.
use Rattle.std.specs.Prelude.{◌≡◌, ℕ, Bool, false, List, Ok, Err}
use Rattle.plan_types.specs.declared.limit.Limit.{Limit}
use Rattle.plan_types.specs.declared.refusal.Refusal.{Refusal}
use Rattle.qualified_goals.specs.Names.{NameTable}
use Rattle.qualified_goals.specs.declared.variable.Var.{Var}
use Rattle.choice_problem.specs.declared.outcome.Counts.{Counts}
use Rattle.choice_problem.specs.declared.problem.Choice.{Choice}
use Rattle.outside_folder.specs.Files.{Bytes, Files}
use Rattle.plan_print.specs.Texts.{refusal_text}
use Rattle.command_line.specs.Reading.{default_options}
use Rattle.command_line.specs.declared.reading.Options.{Options}
use Rattle.plan_generate.specs.Generated.{generated}
use Rattle.plan_task.specs.Task.{IsReady, IsTask}
use Rattle.plan_task.specs.declared.task.Task.{Task}
use Rattle.event_file.specs.Events.{AreEventsAt}
use Rattle.replay_text.specs.declared.event.JobEvent.{JobEvent}
use Rattle.plan_search.specs.declared.blame.Blame.{Blame}
use Rattle.plan_search.specs.Meaning.{AreToBlame, IsBlamed, MeansTrail, ReachesLimit, Means as MeansFinding}
use Rattle.plan_search.specs.declared.search.Picking.{Picking}
use Rattle.plan_search.specs.declared.search.Picking.TheVariants.{Least}
use Rattle.plan_search.specs.declared.search.Finding.{Finding}
use Rattle.plan_command.specs.declared.answer.Answer.{Answer}
use Rattle.plan_command.specs.declared.answer.Answer.TheVariants as answer
use Rattle.plan_command.specs.declared.output.Output.{Output}
use Rattle.plan_nodes.specs.declared.node.PlanNode.{PlanNode}
use Rattle.plan_command.specs.declared.form.Form.{Form}
use Rattle.plan_command.specs.declared.form.Form.TheVariants.{Summary, Replay}
use Rattle.plan_command.specs.Form.{IsPlanText, conflict_text_in, frozen_form, gave_up_text_in}
use Rattle.plan_command.specs.Output.{ArePlanned, IsOutputOfOutcome, refused}

-- The text of a plan, with some counts. Its trail is that of the first complete, valid assignment, or of some such
-- assignment if conflicts are counted.
pub record PlansValid (picking : Picking) (form : Form) (options : Options) (files : Files) (text : Bytes) : Type 0 where
  pub task : Task
  pub made : IsTask options files (Ok task)
  pub ready : IsReady task
  pub names : NameTable
  pub trail : List Choice
  pub means : MeansTrail picking task.index task.settings names trail
  pub nodes : List PlanNode
  pub planned : ArePlanned task.settings.env task.index names trail nodes
  pub counts : Counts
  pub text_is : IsPlanText form task.index names trail nodes counts text

-- the text of the plan of the first complete, valid assignment
abbrev pub PlansFirst : Form → Options → Files → Bytes → Type 0
PlansFirst form options files text = PlansValid Least form options files text

-- The problem of the files has no complete, valid assignment, and these variables admit none. The text prints them
-- or, with `minimize`, a minimal subset of them, or that shrinking took too long.
pub record HasNone (minimize : Bool) (form : Form) (options : Options) (files : Files) (text : Bytes) : Type 0 where
  pub task : Task
  pub made : IsTask options files (Ok task)
  pub names : NameTable
  pub set : List Var
  pub to_blame : AreToBlame task.index task.settings names set
  pub counts : Counts
  pub blame : Blame
  pub blamed : IsBlamed minimize task.index task.settings names set blame
  pub text_is : text ≡ conflict_text_in form task.index names set blame counts

-- A search over the problem of the files reaches its limit, so there is a limit.
pub record GivesUp (picking : Picking) (form : Form) (options : Options) (files : Files) (text : Bytes) : Type 0 where
  pub task : Task
  pub made : IsTask options files (Ok task)
  pub names : NameTable
  pub met : ReachesLimit picking task.index task.settings names
  pub counts : Counts
  pub text_is : text ≡ gave_up_text_in form task.index counts

-- The files are refused, and the text is the line of the first refusal.
pub record IsRefused (options : Options) (files : Files) (text : Bytes) : Type 0 where
  pub refusal : Refusal
  pub made : IsTask options files (Err refusal)
  pub text_is : text ≡ refusal_text refusal

-- what the text of a plan command means, by its answer
abbrev pub MeansWith : Answer → Picking → Bool → Form → Options → Files → Bytes → Type 0
MeansWith answer.Planned picking minimize form options files text = PlansValid picking form options files text
MeansWith answer.NoPlan picking minimize form options files text = HasNone minimize form options files text
MeansWith answer.GaveUp picking minimize form options files text = GivesUp picking form options files text
MeansWith answer.Refused picking minimize form options files text = IsRefused options files text
MeansWith answer.Usage picking minimize form options files text = ⊥

-- what the output of a plan command means, in this form, with these options, over these files
abbrev pub Means : Picking → Bool → Form → Options → Files → Output → Type 0
Means picking minimize form options files output = MeansWith output.answer picking minimize form options files output.text

-- what the output of `generate` means
abbrev pub MeansGenerated : ℕ → Limit → Output → Type 0
MeansGenerated number limit output = Means Least false (Summary number) (default_options limit) (generated number) output

-- what the output of `freeze` means: the same as that of a plan, printed as constraints
abbrev pub MeansFreeze : Options → Files → Output → Type 0
MeansFreeze options files output = Means Least false (frozen_form files) options files output

-- what the output of a search over a task means
pub record MeansTask (picking : Picking) (minimize : Bool) (form : Form) (task : Task) (output : Output) : Type 0 where
  pub finding : Finding
  pub means : MeansFinding picking minimize task.index task.settings finding
  pub output_is : IsOutputOfOutcome form task.settings.env task.index finding.names finding.blame finding.outcome output

-- there is a task, and its events are refused
pub record RefusesEvents (options : Options) (path : Bytes) (files : Files) (output : Output) : Type 0 where
  pub task : Task
  pub made : IsTask options files (Ok task)
  pub refusal : Refusal
  pub events : AreEventsAt path files (Err refusal)
  pub output_is : output ≡ refused refusal

-- what the output of `replay` means
pub data MeansReplay (options : Options) (path : Bytes) (slots : ℕ) (files : Files) (output : Output) : Type 0 where
  -- the same as that of a plan, printed as the replay of its build at the events of the file
  at_events : (events : List JobEvent) → AreEventsAt path files (Ok events) → Means Least false (Replay slots events) options files output
      → MeansReplay options path slots files output
  -- the events are refused
  of_events : RefusesEvents options path files output → MeansReplay options path slots files output
  -- the files of the plan are refused, so no events are read
  of_files : output.answer ≡ answer.Refused → IsRefused options files output.text → MeansReplay options path slots files output
