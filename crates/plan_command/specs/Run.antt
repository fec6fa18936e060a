-- The output of words over a folder, and the sink after a run.
use Rattle.std.specs.Prelude.{◌≡◌, ◌≢◌, ℕ, Bool, false, Result, Ok, Err, Option, Some, None, List}
use Rattle.plan_types.specs.declared.limit.Limit.{Limit}
use Rattle.plan_types.specs.declared.refusal.Refusal.{Refusal}
use Rattle.choice_problem.specs.declared.outcome.Outcome.TheVariants as outcome
use Rattle.choice_problem.specs.declared.outcome.Counts.{Counts}
use Rattle.choice_problem.specs.declared.problem.Choice.{Choice}
use Rattle.outside_folder.specs.Files.{Bytes, Files}
use Rattle.outside_folder.specs.Sink.{Appends, AppendsPrefix}
use Rattle.command_line.specs.Reading.{default_options, reading}
use Rattle.command_line.specs.declared.reading.Command.{Command}
use Rattle.command_line.specs.declared.reading.Command.TheVariants.{Plan, Generate, Freeze, Replay}
use Rattle.command_line.specs.declared.reading.Options.{Options}
use Rattle.event_file.specs.Events.{AreEventsAt}
use Rattle.replay_text.specs.declared.event.JobEvent.{JobEvent}
use Rattle.elaborate.specs.Before.{NeedsPrintedBefore}
use Rattle.plan_nodes.specs.declared.node.PlanNode.{PlanNode}
use Rattle.plan_generate.specs.Generated.{generated}
use Rattle.plan_task.specs.Task.{IsReady, IsTask}
use Rattle.plan_task.specs.declared.task.Task.{Task}
use Rattle.plan_search.specs.Finding.{IsFindingOf}
use Rattle.plan_search.specs.declared.search.Finding.{Finding}
use Rattle.plan_search.specs.declared.search.Picking.{Picking}
use Rattle.plan_search.specs.declared.search.Picking.TheVariants.{Least}
use Rattle.plan_command.specs.declared.answer.Answer.TheVariants as answer
use Rattle.plan_command.specs.declared.status.Status.{Status}
use Rattle.plan_command.specs.declared.status.Status.TheVariants as status
use Rattle.plan_command.specs.declared.output.Output.{Output}
use Rattle.plan_command.specs.declared.form.Form.{Form}
use Rattle.plan_command.specs.declared.form.Form.TheVariants.{Summary, Freeze as as_constraints, Replay as at_events}
use Rattle.plan_command.specs.Form.{form_of, frozen_form}
use Rattle.plan_command.specs.Asked.{picking_of}
use Rattle.plan_command.specs.Output.{ArePlanned, IsOutputOfOutcome, IsPlanned, refused, usage}
use Rattle.plan_command.specs.Status.{status_of}

-- ---- the output of words over a folder

-- the output of a search over a task
pub record IsOutputOfTask (picking : Picking) (minimize : Bool) (form : Form) (task : Task) (output : Output) : Type 0 where
  pub finding : Finding
  pub found : IsFindingOf picking minimize task.index task.settings finding
  pub output_is : IsOutputOfOutcome form task.settings.env task.index finding.names finding.blame finding.outcome output

-- the output of a task, or of a refusal
abbrev pub IsOutputOfRead : Picking → Bool → Form → Result Task Refusal → Output → Type 0
IsOutputOfRead picking minimize form (Ok task) output = IsOutputOfTask picking minimize form task output
IsOutputOfRead picking minimize form (Err refusal) output = output ≡ refused refusal

-- the output of a plan of these files, in this form
unfoldable pub IsOutputOfPlan : Form → Options → Files → Output → Type 0
IsOutputOfPlan form options files output = (task : Result Task Refusal) × IsTask options files task × IsOutputOfRead (picking_of options) options.minimize form task output

-- The output of `generate`: the summary of a plan of the folder generated from the number, with the default options
-- and this limit.
abbrev pub IsOutputOfGenerate : ℕ → Limit → Output → Type 0
IsOutputOfGenerate number limit output = IsOutputOfPlan (Summary number) (default_options limit) (generated number) output

-- the output of `freeze`: the old freeze file, and then the constraints of a plan
unfoldable pub IsOutputOfFreeze : Options → Files → Output → Type 0
IsOutputOfFreeze options files output = (task : Result Task Refusal) × IsTask options files task × IsOutputOfRead Least false (frozen_form files) task output

-- the output of a task at these events, or of a refusal
abbrev pub IsOutputAtEvents : ℕ → Task → Result (List JobEvent) Refusal → Output → Type 0
IsOutputAtEvents slots task (Ok events) output = IsOutputOfTask Least false (at_events slots events) task output
IsOutputAtEvents slots task (Err refusal) output = output ≡ refused refusal

-- the output of a task at the events of a file, which are read only if there is a task
abbrev pub IsOutputAtTask : Bytes → ℕ → Files → Result Task Refusal → Output → Type 0
IsOutputAtTask path slots files (Ok task) output =
    (events : Result (List JobEvent) Refusal) × AreEventsAt path files events × IsOutputAtEvents slots task events output
IsOutputAtTask path slots files (Err refusal) output = output ≡ refused refusal

-- the output of `replay`: a build of the plan with so many slots, at the events of a file
unfoldable pub IsOutputOfReplay : Options → Bytes → ℕ → Files → Output → Type 0
IsOutputOfReplay options path slots files output = (task : Result Task Refusal) × IsTask options files task × IsOutputAtTask path slots files task output

-- the output of a command, or the usage line for words without a reading
abbrev pub IsOutputOfCommand : Option Command → Files → Output → Type 0
IsOutputOfCommand None files output = output ≡ usage
IsOutputOfCommand (Some (Plan options)) files output = IsOutputOfPlan (form_of options) options files output
IsOutputOfCommand (Some (Generate number limit)) files output = IsOutputOfGenerate number limit output
IsOutputOfCommand (Some (Freeze options)) files output = IsOutputOfFreeze options files output
IsOutputOfCommand (Some (Replay options events slots)) files output = IsOutputOfReplay options events slots files output

-- the output of words over a folder
abbrev pub IsOutputOf : List Bytes → Files → Output → Type 0
IsOutputOf words files output = IsOutputOfCommand (reading words) files output

-- The files read for a command: those of an observable folder. For `generate` and for words without a reading no file
-- is read, and these are any files.
abbrev pub Reads : Option Command → Option Files → Files → Type 0
Reads None tells files = Unit {0}
Reads (Some (Plan options)) tells files = tells ≡ Some files
Reads (Some (Generate number limit)) tells files = Unit {0}
Reads (Some (Freeze options)) tells files = tells ≡ Some files
Reads (Some (Replay options events slots)) tells files = tells ≡ Some files

-- ---- outputs of a command, over any folder

-- the form in which a command prints a plan: for `freeze` after some text, for `replay` at some events
abbrev pub IsFormOf : Command → Form → Type 0
IsFormOf (Plan options) form = form ≡ form_of options
IsFormOf (Generate number limit) form = form ≡ Summary number
IsFormOf (Freeze options) form = (before : Bytes) × (form ≡ as_constraints before)
IsFormOf (Replay options path slots) form = (events : List JobEvent) × (form ≡ at_events slots events)

-- how a command's search picks its variables
abbrev pub picking_for : Command → Picking
picking_for (Plan options) = picking_of options
picking_for (Generate number limit) = Least
picking_for (Freeze options) = Least
picking_for (Replay options path slots) = Least

-- whether a command shrinks its conflict set
abbrev pub minimizes : Command → Bool
minimizes (Plan options) = options.minimize
minimizes (Generate number limit) = false
minimizes (Freeze options) = false
minimizes (Replay options path slots) = false

-- the output of a refusal, or of some ready task, in one of these forms
pub data IsPossibleOutput (picking : Picking) (minimize : Bool) (IsForm : Form → Type 0) (output : Output) : Type 0 where
  of_refusal : (refusal : Refusal) → output ≡ refused refusal → IsPossibleOutput picking minimize IsForm output
  of_task : (form : Form) → IsForm form → (task : Task) → IsReady task → IsOutputOfTask picking minimize form task output
      → IsPossibleOutput picking minimize IsForm output

-- an output that a command may have, or the usage line for words without a reading
abbrev pub MayPrint : Option Command → Output → Type 0
MayPrint None output = output ≡ usage
MayPrint (Some command) output = IsPossibleOutput (picking_for command) (minimizes command) (IsFormOf command) output

-- The output of the plan that a search over some ready task finds. Each identifier that a node needs is printed
-- before the node.
pub record IsInOrder (picking : Picking) (minimize : Bool) (IsForm : Form → Type 0) (output : Output) : Type 0 where
  pub form : Form
  pub of_command : IsForm form
  pub task : Task
  pub ready : IsReady task
  pub finding : Finding
  pub found : IsFindingOf picking minimize task.index task.settings finding
  pub trail : List Choice
  pub counts : Counts
  pub outcome_is : finding.outcome ≡ outcome.Found trail counts
  pub nodes : List PlanNode
  pub nodes_are : ArePlanned task.settings.env task.index finding.names trail nodes
  pub planned : IsPlanned form task.index finding.names trail nodes counts output
  pub told_before : NeedsPrintedBefore nodes

-- some output of a command that is a plan in order
abbrev pub OutputInOrder : Command → Type 0
OutputInOrder command = (output : Output) × IsInOrder (picking_for command) (minimizes command) (IsFormOf command) output

-- a printed plan is in order, and the usage line is no plan
abbrev pub BuildsInOrder : Option Command → Output → Type 0
BuildsInOrder None output = output.answer ≢ answer.Planned
BuildsInOrder (Some command) output = output.answer ≡ answer.Planned → IsInOrder (picking_for command) (minimizes command) (IsFormOf command) output

-- ---- the sink after a run

-- The bytes that a run adds to the sink, by its end.
pub data Prints (IsOutput : Output → Type 0) (old new : Option Bytes) (end : Status) : Type 0 where
  -- the whole text of an output, and the end is the status of its answer
  whole_text : (output : Output) → IsOutput output → end ≡ status_of output.answer → Appends old new output.text → Prints IsOutput old new end
  -- a prefix of an output's text, after a failed write
  text_prefix : (output : Output) → IsOutput output → end ≡ status.WriteFault → AppendsPrefix old new output.text → Prints IsOutput old new end
  -- none after a failed read
  failed_read : end ≡ status.ReadFault → new ≡ old → Prints IsOutput old new end
  -- none out of memory
  out_of_memory : end ≡ status.NoMemory → new ≡ old → Prints IsOutput old new end
