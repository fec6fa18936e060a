-- The form in which an answer is printed.
use Rattle.std.specs.Prelude.{◌≡◌, ℕ, Bool, true, false, List, [], length, Option, unwrap_or, if◌then◌else◌}
use Rattle.hex.specs.Hex.{encode_lower}
use Rattle.sha2.specs.Sha256.{sha256}
use Rattle.plan_types.specs.declared.index.Index.{Index}
use Rattle.qualified_goals.specs.Names.{NameTable}
use Rattle.qualified_goals.specs.declared.variable.Var.{Var}
use Rattle.choice_problem.specs.declared.outcome.Counts.{Counts}
use Rattle.choice_problem.specs.declared.problem.Choice.{Choice}
use Rattle.outside_folder.specs.Files.{Bytes, Files}
use Rattle.project_config.specs.Project.{freeze_bytes}
use Rattle.freeze_text.specs.Text.{refrozen_text}
use Rattle.frozen_choices.specs.Frozen.{frozen}
use Rattle.command_line.specs.declared.reading.Options.{Options}
use Rattle.plan_nodes.specs.declared.node.PlanNode.{PlanNode}
use Rattle.replay_text.specs.Replay.{IsReplay}
use Rattle.plan_search.specs.declared.blame.Blame.{Blame}
use Rattle.plan_search.specs.declared.blame.Blame.TheVariants.{Unasked, Shrunk, TooLong}
use Rattle.plan_print.specs.Texts.{plan_text, conflict_text, gave_up_text, not_shrunk_text, shrunk_text}
use Rattle.plan_print.specs.Summary.{summary_text}
use Rattle.plan_json.specs.Texts.{plan_json, conflict_json, gave_up_json, not_shrunk_json, shrunk_json}
use Rattle.plan_command.specs.declared.form.Form.{Form}
use Rattle.plan_command.specs.declared.form.Form.TheVariants.{Lines, Json, Summary, Freeze, Replay}

-- the form that the options choose
abbrev pub form_of : Options → Form
form_of options = if options.json then Json else Lines

-- the summary of a plan of this text, with its SHA-256 as digits in lower case
abbrev pub summary_of : ℕ → List Choice → List PlanNode → Counts → Bytes → Bytes
summary_of number trail nodes counts text = summary_text number (length trail) (length nodes) counts (encode_lower (sha256 text))

-- the old freeze file, and then the constraints of a trail
abbrev pub frozen_text : Bytes → Index → NameTable → List Choice → Bytes
frozen_text before index names trail = refrozen_text before (frozen index.packages names trail)

-- the text of the old freeze file, empty if it is missing
abbrev pub old_freeze_text : Option Bytes → Bytes
old_freeze_text file = unwrap_or file []

-- the form of constraints after the freeze file of a folder
abbrev pub frozen_form : Files → Form
frozen_form files = Freeze (old_freeze_text (freeze_bytes files))

-- the text of a plan in a form
abbrev pub IsPlanText : Form → Index → NameTable → List Choice → List PlanNode → Counts → Bytes → Type 0
IsPlanText Lines index names trail nodes counts text = text ≡ plan_text index names trail nodes counts
IsPlanText Json index names trail nodes counts text = text ≡ plan_json index names trail nodes counts
IsPlanText (Summary number) index names trail nodes counts text = text ≡ summary_of number trail nodes counts (plan_text index names trail nodes counts)
IsPlanText (Freeze before) index names trail nodes counts text = text ≡ frozen_text before index names trail
IsPlanText (Replay slots events) index names trail nodes counts text = IsReplay nodes slots events text

-- whether outcomes without a plan are printed as JSON, else in lines
abbrev pub is_json : Form → Bool
is_json Lines = false
is_json Json = true
is_json (Summary number) = false
is_json (Freeze before) = false
is_json (Replay slots events) = false

-- a conflict set, as JSON or in lines
abbrev pub unshrunk_text_in : Bool → Index → NameTable → List Var → Counts → Bytes
unshrunk_text_in json index names set counts = if json then conflict_json index names set counts else conflict_text index names set counts

-- a shrunk conflict set, as JSON or in lines
abbrev pub shrunk_text_in : Bool → Index → NameTable → List Var → List (List Choice) → Counts → Bytes
shrunk_text_in json index names set maps counts =
    if json then shrunk_json index names set maps counts else shrunk_text index names set maps counts

-- a conflict set whose shrinking stopped after so many exhausted points, as JSON or in lines
abbrev pub not_shrunk_text_in : Bool → Index → NameTable → List Var → ℕ → Counts → Bytes
not_shrunk_text_in json index names set spent counts =
    if json then not_shrunk_json index names set spent counts else not_shrunk_text index names set spent counts

-- a conflict in a form, with its blame
abbrev pub conflict_text_in : Form → Index → NameTable → List Var → Blame → Counts → Bytes
conflict_text_in form index names set Unasked counts = unshrunk_text_in (is_json form) index names set counts
conflict_text_in form index names set (Shrunk shrunk) counts = shrunk_text_in (is_json form) index names shrunk.set shrunk.maps counts
conflict_text_in form index names set (TooLong spent) counts = not_shrunk_text_in (is_json form) index names set spent counts

-- a search that gave up
abbrev pub gave_up_text_in : Form → Index → Counts → Bytes
gave_up_text_in form index counts = if is_json form then gave_up_json index counts else gave_up_text index counts
