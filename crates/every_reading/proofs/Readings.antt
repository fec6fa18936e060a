-- Texts that have an outcome have a reading.
use Rattle.std.proofs.Common.{inl, inr, ℕ, List, Result, Ok, Err}
use Rattle.plan_types.specs.declared.condition.Cond.{Cond}
use Rattle.plan_types.specs.declared.dependency.Dep.{Dep}
use Rattle.plan_types.specs.declared.dependency.DepKind.{DepKind}
use Rattle.plan_types.specs.declared.range.Spec.{Spec}
use Rattle.plan_types.specs.declared.refusal.Cause.{Cause}
use Rattle.text_grammar.specs.Outcome.{Read}
use Rattle.condition_text.specs.Grammar.{Stands, FirstFault}
use Rattle.depend_text.specs.Depends.{LibraryEntry, LibraryFault, ToolEntry, ToolFault, Depends, DependsFault, Tools, ToolsFault}
use Rattle.every_reading.specs.Answered.{Answered}
use Rattle.every_reading.proofs.DependencyAnswers.{some_library, some_tool}
use Rattle.every_reading.proofs.EntryAnswers.{some_reading}
use Rattle.every_reading.proofs.LoopReadings.{some_condition}

-- some value has the property
abbrev pub Exists : {A : Type 0} → (A → Type 0) → Type 0
Exists {A} P = (x : A) × P x

pub read_of : {A : Type 0} (Stands : A → Type 0) (Fails : Cause → Type 0) → Answered Stands Fails → (read : Result A Cause) × Read Stands Fails read
read_of Stands Fails (inl found) = (Ok found.0, found.1)
read_of Stands Fails (inr fault) = (Err fault.0, fault.1)

pub condition_read : (spec : Spec) (text : List ℕ) → (read : Result Cond Cause) × Read (Stands spec 64 text) (FirstFault spec 64 text) read
condition_read spec text = read_of (Stands spec 64 text) (FirstFault spec 64 text) (some_condition spec 64 text)

pub depends_read : (spec : Spec) (kind : DepKind) (line : ℕ) (text : List ℕ) → (read : Result (List Dep) Cause) × Read (Depends spec kind line text) (DependsFault spec kind line text) read
depends_read spec kind line text =
    read_of (Depends spec kind line text) (DependsFault spec kind line text)
    (some_reading (LibraryEntry spec kind line) (LibraryFault spec) (some_library spec kind line) text)

pub tools_read : (spec : Spec) (line : ℕ) (text : List ℕ) → (read : Result (List Dep) Cause) × Read (Tools spec line text) (ToolsFault spec line text) read
tools_read spec line text =
    read_of (Tools spec line text) (ToolsFault spec line text) (some_reading (ToolEntry spec line) (ToolFault spec) (some_tool spec line) text)
