-- The project of all files, or the first refusal.
use Rattle.std.specs.Prelude.{◌≡◌, ◌≤◌, ℕ, List, [], ◌∷◌, ◌++◌, length, Result, Ok, Err}
use Rattle.plan_types.specs.declared.condition.Env.{Env}
use Rattle.plan_types.specs.declared.project.Project.{Project}
use Rattle.plan_types.specs.declared.refusal.Fault.{Fault}
use Rattle.plan_types.specs.declared.refusal.Fault.TheVariants as fault
use Rattle.plan_types.specs.declared.refusal.Halt.{Halt}
use Rattle.plan_types.specs.declared.refusal.Halt.TheVariants as halt
use Rattle.plan_types.specs.declared.refusal.Refusal.{Refusal}
use Rattle.project_file.specs.Project.{Placed, placed_all, project_from}
use Rattle.project_file.specs.Texts.{Reads, fault_at}
use Rattle.project_file.specs.declared.part.ProjectPart.{ProjectPart}
use Rattle.project_file.specs.declared.read.ProjectText.{ProjectText}
use Rattle.project_file.specs.declared.text.FaultLine.{FaultLine}

-- a project file has at most 1,048,576 bytes
abbrev pub IsWithin : ProjectText → Type 0
IsWithin text = length text.bytes ≤ 1048576

-- the refusal of a fault in a file
abbrev pub refusal_at : List ℕ → FaultLine → Refusal
refusal_at path at = record { path = path; line = at.line; cause = at.cause; detail = [] }

-- the halt of a fault in a file
abbrev pub halt_of : List ℕ → Fault → Halt
halt_of path fault.NoMemory = halt.NoMemory
halt_of path (fault.At line cause) = halt.Refused (refusal_at path (fault_at line cause))

-- the parts of a file, or the refusal of its fault
abbrev pub or_refusal : List ℕ → Result (List ProjectPart) FaultLine → Result (List ProjectPart) Refusal
or_refusal path (Ok parts) = Ok parts
or_refusal path (Err at) = Err (refusal_at path at)

-- the parts of a file, or the refusal of its first fault
abbrev pub FileReads : Env → ProjectText → Result (List ProjectPart) Refusal → Type 0
FileReads env text outcome = (read : Result (List ProjectPart) FaultLine) × Reads env text.bytes read × (outcome ≡ or_refusal text.path read)

-- parts before those of later files
abbrev pub in_front : List Placed → Result (List Placed) Refusal → Result (List Placed) Refusal
in_front parts (Ok more) = Ok (parts ++ more)
in_front parts (Err refusal) = Err refusal

-- after a refusal no later file is read
abbrev pub GoesOn : List ℕ → Result (List ProjectPart) Refusal → (Result (List Placed) Refusal → Type 0) → Result (List Placed) Refusal → Type 0
GoesOn path (Err refusal) Rest outcome = outcome ≡ Err refusal
GoesOn path (Ok parts) Rest outcome = (more : Result (List Placed) Refusal) × Rest more × (outcome ≡ in_front (placed_all path parts) more)

-- the parts of all files, in reading order, or the first refusal
unfoldable pub AllRead : Env → List ProjectText → Result (List Placed) Refusal → Type 0
AllRead env [] outcome = outcome ≡ Ok []
AllRead env (text ∷ texts) outcome =
    (read : Result (List ProjectPart) Refusal) × FileReads env text read × GoesOn text.path read (λ more. AllRead env texts more) outcome

-- the project of all parts
abbrev pub project_of : Result (List Placed) Refusal → Result Project Refusal
project_of (Ok parts) = Ok (project_from parts)
project_of (Err refusal) = Err refusal

-- the project of the files, or the first refusal
abbrev pub IsProject : Env → List ProjectText → Result Project Refusal → Type 0
IsProject env texts outcome = (read : Result (List Placed) Refusal) × AllRead env texts read × (outcome ≡ project_of read)

-- the project of some files with one more file after them, and the text of that file; or the first refusal
abbrev pub IsWithFile : Env → List ProjectText → ProjectText → Result (Project × List ℕ) Refusal → Type 0
IsWithFile env before file (Ok made) = IsProject env (before ++ file ∷ []) (Ok made.0) × (made.1 ≡ file.bytes)
IsWithFile env before file (Err refusal) = IsProject env (before ++ file ∷ []) (Err refusal)
