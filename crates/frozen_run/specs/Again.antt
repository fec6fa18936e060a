-- A folder with a printed freeze file, and the plan that is found again.
use Rattle.std.specs.Prelude.{◌≡◌, false, nat_lt, List, length, Some}
use Rattle.plan_types.specs.declared.constraint.Constraint.{Constraint}
use Rattle.plan_types.specs.declared.index.Index.{Index}
use Rattle.plan_types.specs.declared.limit.Limit.TheVariants.{Unlimited}
use Rattle.plan_types.specs.declared.project.Settings.{Settings}
use Rattle.cabal_lexer.specs.RoundTrip.{ends_with_return}
use Rattle.outside_folder.specs.Files.{Bytes, Files}
use Rattle.outside_folder.specs.Folder.{file_limit}
use Rattle.project_config.specs.Project.{freeze_bytes}
use Rattle.refrozen_folder.specs.Refrozen.{IsRefrozen}
use Rattle.qualified_goals.specs.Names.{NameTable}
use Rattle.choice_problem.specs.declared.outcome.Counts.{Counts}
use Rattle.choice_problem.specs.declared.outcome.Outcome.TheVariants as outcome
use Rattle.choice_problem.specs.declared.problem.Choice.{Choice}
use Rattle.freeze_text.specs.Reads.{IsUnion, with_constraints}
use Rattle.frozen_choices.specs.Frozen.{frozen}
use Rattle.command_line.specs.declared.reading.Options.{Options}
use Rattle.plan_search.specs.declared.blame.Blame.TheVariants.{Unasked}
use Rattle.plan_search.specs.declared.search.Finding.{Finding}
use Rattle.plan_task.specs.declared.task.Task.{Task}
use Rattle.plan_nodes.specs.declared.node.PlanNode.{PlanNode}
use Rattle.plan_command.specs.Form.{form_of, old_freeze_text}
use Rattle.plan_command.specs.Output.{IsPlanned, refused}
use Rattle.plan_command.specs.Run.{IsOutputOfPlan}

-- the settings with these constraints in place of the project's, and without a limit
abbrev pub settings_with : List Constraint → Settings → Settings
settings_with constraints settings =
    record settings { project = with_constraints constraints settings.project; limit = Unlimited }

-- the same trail was found, by the same names
pub record IsFoundAgain (names : NameTable) (trail : List Choice) (finding : Finding) : Type 0 where
  pub names_are : finding.names ≡ names
  pub counts : Counts
  pub outcome_is : finding.outcome ≡ outcome.Found trail counts
  pub blame_is : finding.blame ≡ Unasked

-- the options of a plan without a limit, whose search picks its variables as that of `freeze` does
abbrev pub unlimited : Options → Options
unlimited options = record options { limit = Some Unlimited; count_conflicts = false }

-- The second folder is the first with this text as its freeze file, which isn't too large to be read. The freeze file
-- of the first doesn't end in a lone carriage return, which would become part of the line end after it.
pub record IsFrozenFolder (files : Files) (text : Bytes) (now : Files) : Type 0 where
  pub refrozen : IsRefrozen files text now
  pub small : nat_lt file_limit (length text) ≡ false
  pub plainly : ends_with_return (old_freeze_text (freeze_bytes files)) ≡ false

-- The second task is the first with the constraints of a trail, and without a limit.
pub record IsFrozenTask (names : NameTable) (trail : List Choice) (task now : Task) : Type 0 where
  pub constraints : List Constraint
  pub union : IsUnion constraints task.settings.project.constraints (frozen task.index.packages names trail)
  pub settings_are : now.settings ≡ settings_with constraints task.settings
  pub index_is : now.index ≡ task.index

-- the type of what a function gives
abbrev given_by : {A B : Type 0} → (A → B) → Type 0
given_by {B = B} f = B

-- the form in which an answer is printed
abbrev pub Form : Type 0
Form = given_by form_of

-- an answer with a text
abbrev pub Output : Type 0
Output = given_by refused

-- an output is that of a plan of this trail with these nodes, with some counts
abbrev pub IsPlannedAgain : Form → Index → NameTable → List Choice → List PlanNode → Output → Type 0
IsPlannedAgain form index names trail nodes output =
    (counts : Counts) × IsPlanned form index names trail nodes counts output

-- over these files, a plan without a limit is printed as a plan of this trail with these nodes, in any form
abbrev pub PlansAgain : Options → Files → Index → NameTable → List Choice → List PlanNode → Type 0
PlansAgain options files index names trail nodes =
    (form : Form) (output : Output) → IsOutputOfPlan form (unlimited options) files output → IsPlannedAgain form index names trail nodes output
