-- The output of a refusal, a plan and a finding.
use Rattle.std.specs.Prelude.{◌≡◌, List, [], ◌∷◌, ◌++◌, codes}
use Rattle.plan_types.specs.declared.condition.Env.{Env}
use Rattle.plan_types.specs.declared.index.Index.{Index}
use Rattle.plan_types.specs.declared.refusal.Refusal.{Refusal}
use Rattle.qualified_goals.specs.Names.{NameTable}
use Rattle.choice_problem.specs.declared.outcome.Outcome.{Outcome}
use Rattle.choice_problem.specs.declared.outcome.Outcome.TheVariants as outcome
use Rattle.choice_problem.specs.declared.outcome.Counts.{Counts}
use Rattle.choice_problem.specs.declared.problem.Choice.{Choice}
use Rattle.choice_problem.specs.Trail.{value_in}
use Rattle.outside_folder.specs.Files.{Bytes}
use Rattle.plan_components.specs.Chosen.{selection_from}
use Rattle.plan_nodes.specs.declared.node.PlanNode.{PlanNode}
use Rattle.elaborate.specs.Plan.{IsPlan}
use Rattle.plan_print.specs.Texts.{refusal_text}
use Rattle.plan_search.specs.declared.blame.Blame.{Blame}
use Rattle.plan_command.specs.declared.form.Form.{Form}
use Rattle.plan_command.specs.Form.{IsPlanText, conflict_text_in, gave_up_text_in}
use Rattle.plan_command.specs.declared.answer.Answer.TheVariants as answer
use Rattle.plan_command.specs.declared.output.Output.{Output}
use Rattle.plan_command.specs.declared.status.Status.{Status}
use Rattle.plan_command.specs.declared.status.Status.TheVariants as status

-- the output of a refusal
abbrev pub refused : Refusal → Output
refused refusal = record { answer = answer.Refused; text = refusal_text refusal }

-- the nodes of a trail's plan
abbrev pub ArePlanned : Env → Index → NameTable → List Choice → List PlanNode → Type 0
ArePlanned env index names trail nodes = IsPlan (selection_from index names env (value_in trail)) nodes

-- the text of the plan that a trail makes, in a form
abbrev pub IsTextOfPlan : Form → Env → Index → NameTable → List Choice → Counts → Bytes → Type 0
IsTextOfPlan form env index names trail counts text =
    (nodes : List PlanNode) × ArePlanned env index names trail nodes × IsPlanText form index names trail nodes counts text

-- the output of a plan
pub record IsPlanned (form : Form) (index : Index) (names : NameTable) (trail : List Choice) (nodes : List PlanNode) (counts : Counts) (output : Output) : Type 0 where
  pub answer_is : output.answer ≡ answer.Planned
  pub text_is : IsPlanText form index names trail nodes counts output.text

-- the output of an outcome, with the blame of a failure
abbrev pub IsOutputOfOutcome : Form → Env → Index → NameTable → Blame → Outcome → Output → Type 0
IsOutputOfOutcome form env index names blame (outcome.Found trail counts) output =
    (nodes : List PlanNode) × ArePlanned env index names trail nodes × IsPlanned form index names trail nodes counts output
IsOutputOfOutcome form env index names blame (outcome.NoPlan set counts) output =
    output ≡ record { answer = answer.NoPlan; text = conflict_text_in form index names set blame counts }
IsOutputOfOutcome form env index names blame (outcome.GaveUp counts) output =
    output ≡ record { answer = answer.GaveUp; text = gave_up_text_in form index counts }

-- the line for words without a reading
abbrev pub usage_text : Bytes
usage_text = codes "usage: cabal-plan plan or generate, with options" ++ 10 ∷ []

-- the output for words without a reading
abbrev pub usage : Output
usage = record { answer = answer.Usage; text = usage_text }

-- the end of a run whose words have no reading: the usage line was written, or its write failed
abbrev pub IsUsageEnd : Status → Type 0
IsUsageEnd status.Usage = Unit {0}
IsUsageEnd status.WriteFault = Unit {0}
IsUsageEnd status.Planned = ⊥
IsUsageEnd status.NoPlan = ⊥
IsUsageEnd status.GaveUp = ⊥
IsUsageEnd status.Refused = ⊥
IsUsageEnd status.ReadFault = ⊥
IsUsageEnd status.NoMemory = ⊥
