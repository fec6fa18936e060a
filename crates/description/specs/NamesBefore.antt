-- The names of earlier sections of a class, as they are kept in file order.
use Rattle.std.specs.Prelude.{ℕ, not, if◌then◌else◌, List, []}
use Rattle.plan_types.specs.declared.refusal.Cause.{Cause}
use Rattle.plan_types.specs.declared.refusal.Cause.TheVariants as causes
use Rattle.section_syntax.specs.declared.part.Said.{Said}
use Rattle.section_syntax.specs.declared.part.Section.{Section}
use Rattle.stanza_imports.specs.Names.{has, with_name}
use Rattle.description.specs.Faults.{at, is_class, unknown_by, unless}
use Rattle.description.specs.declared.fault_order.At.{At}
use Rattle.description.specs.declared.faults.Class.{Class}

-- the names of a class after one more section
abbrev pub names_behind : Class → List (List ℕ) → Section → List (List ℕ)
names_behind class names section = if is_class class section.kind then with_name names section.name else names

-- the fault of a section of a class whose name is among these
abbrev pub again : Class → List (List ℕ) → Section → List At
again class names section = if is_class class section.kind then at section.line (unless (not (has names section.name)) causes.DuplicateName) else []

-- the fault of a well-placed import: one of its stanzas isn't among these
abbrev pub unknown_of : List (List ℕ) → Said → List Cause
unknown_of known = unknown_by (has known)
