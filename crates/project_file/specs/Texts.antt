-- The parts of a project file, or its first fault.
use Rattle.std.specs.Prelude.{◌≡◌, ◌⊎◌, ℕ, List, [], ◌∷◌, Option, Some, None, Result, Ok, Err}
use Rattle.plan_types.specs.declared.condition.Env.{Env}
use Rattle.plan_types.specs.declared.element.Element.{Element}
use Rattle.plan_types.specs.declared.refusal.Cause.{Cause}
use Rattle.cabal_lexer.specs.Fault.{IsFault, IsTree}
use Rattle.cabal_lexer.specs.Tree.{tree_of}
use Rattle.project_file.specs.Parts.{Says}
use Rattle.project_file.specs.declared.part.ProjectPart.{ProjectPart}
use Rattle.project_file.specs.declared.part.ProjectSaid.{ProjectSaid}
use Rattle.project_file.specs.declared.part.ProjectSaid.TheVariants as said
use Rattle.project_file.specs.declared.text.FaultLine.{FaultLine}

-- a cause at a line
abbrev pub fault_at : ℕ → Cause → FaultLine
fault_at line cause = record { line = line; cause = cause }

-- the cause of a part that is a fault
abbrev pub bad_cause : ProjectSaid → Option Cause
bad_cause (said.Entries texts optional) = None
bad_cause (said.Extra extra) = None
bad_cause (said.Constraints constraints) = None
bad_cause (said.Preferences preferences) = None
bad_cause (said.Newer relaxes) = None
bad_cause (said.Older relaxes) = None
bad_cause (said.Switch which on) = None
bad_cause (said.Limit limit) = None
bad_cause (said.Warning word) = None
bad_cause (said.Bad cause) = Some cause

-- this fault, or else that of a later part
abbrev pub fault_or : Option Cause → ℕ → Option FaultLine → Option FaultLine
fault_or None line later = later
fault_or (Some cause) line later = Some (fault_at line cause)

-- The first fault in file order. Lines rise from part to part, so it has the least line.
abbrev pub first_fault : List ProjectPart → Option FaultLine
first_fault [] = None
first_fault (part ∷ parts) = fault_or (bad_cause part.said) part.line (first_fault parts)

-- the parts, unless one is a fault
abbrev pub unless_bad : Option FaultLine → List ProjectPart → Result (List ProjectPart) FaultLine
unless_bad None parts = Ok parts
unless_bad (Some at) parts = Err at

-- the outcome of a file with a tree: its parts or their first fault
pub record SaysOf (env : Env) (bytes : List ℕ) (outcome : Result (List ProjectPart) FaultLine) : Type 0 where
  pub items : List Element
  pub parts : List ProjectPart
  pub tree : IsTree bytes items
  pub says : Says env (tree_of items) None parts
  pub comes : outcome ≡ unless_bad (first_fault parts) parts

-- the outcome of a file without a tree: a fault of its layout
pub record HasLayoutFault (bytes : List ℕ) (outcome : Result (List ProjectPart) FaultLine) : Type 0 where
  pub at : FaultLine
  pub fault : IsFault bytes at.line at.cause
  pub comes : outcome ≡ Err at

-- The parts of a file, or its first fault. A fault of the layout comes before all others.
abbrev pub Reads : Env → List ℕ → Result (List ProjectPart) FaultLine → Type 0
Reads env bytes outcome = HasLayoutFault bytes outcome ⊎ SaysOf env bytes outcome
