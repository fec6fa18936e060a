-- The language of entries of dependencies, and their faults.
use Rattle.std.specs.Prelude.{◌≡◌, ℕ, Bool, true, false, ◌||◌, ◌==◌, if◌then◌else◌, List, [], ◌∷◌}
use Rattle.plan_types.specs.Bytes.{is_blank, Blanks, begins_with, same_text}
use Rattle.plan_types.specs.Format.{is_old}
use Rattle.plan_types.specs.Name.{is_component_byte, is_component_name, is_package_name}
use Rattle.plan_types.specs.declared.dependency.Dep.{Dep}
use Rattle.plan_types.specs.declared.dependency.DepKind.{DepKind}
use Rattle.plan_types.specs.declared.dependency.DepKind.TheVariants.{Tool}
use Rattle.plan_types.specs.declared.dependency.LibName.{LibName}
use Rattle.plan_types.specs.declared.dependency.LibName.TheVariants as lib_name
use Rattle.plan_types.specs.declared.range.Range.{Range}
use Rattle.plan_types.specs.declared.range.Spec.{Spec}
use Rattle.plan_types.specs.declared.refusal.Cause.{Cause}
use Rattle.plan_types.specs.declared.refusal.Cause.TheVariants.{BadName, BadDepend, NeedsVersion}
use Rattle.version_range.specs.Grammar.{Stands, FirstFault}
use Rattle.entry_text.specs.Entries.{Pieces, Each, HasEntries, HasFirstFault}
use Rattle.entry_text.specs.Words.{run, behind, is_in_braces, name_of, behind_name}

-- the library with this name; the name of its package means the main one
abbrev pub library : List ℕ → List ℕ → LibName
library «package» name = if same_text name «package» then lib_name.Main else lib_name.Named name

-- the name of a library, with blanks around it
pub record Library («package» piece : List ℕ) (found : LibName) : Type 0 where
  pub form : is_component_name (run is_component_byte (behind is_blank piece)) ≡ true
  pub only : Blanks (behind is_component_byte (behind is_blank piece))
  pub is : found ≡ library «package» (run is_component_byte (behind is_blank piece))

-- after a colon: one library, or several in braces, and then the text of the range
pub data NamedLibraries («package» part : List ℕ) (libs : List LibName) (range_text : List ℕ) : Type 0 where
  one : is_component_name (run is_component_byte part) ≡ true → libs ≡ library «package» (run is_component_byte part) ∷ []
      → range_text ≡ behind is_component_byte part → NamedLibraries «package» part libs range_text
  several : (list : List ℕ) (pieces : List (List ℕ)) → part ≡ 123 ∷ list → behind is_in_braces list ≡ 125 ∷ range_text
      → Pieces (run is_in_braces list) pieces → Each (Library «package») pieces libs → NamedLibraries «package» part libs range_text

-- after a package's name: its libraries, and the text of the range; libraries can be named from 3.0 on
pub data Libraries (spec : Spec) («package» text : List ℕ) (libs : List LibName) (range_text : List ℕ) : Type 0 where
  main : begins_with 58 text ≡ false → libs ≡ lib_name.Main ∷ [] → range_text ≡ text → Libraries spec «package» text libs range_text
  named : (part : List ℕ) → is_old spec ≡ false → text ≡ 58 ∷ part → NamedLibraries «package» part libs range_text → Libraries spec «package» text libs range_text

-- whether a library or a list of libraries begins here
abbrev pub begins_library : List ℕ → Bool
begins_library [] = false
begins_library (b ∷ bs) = b == 123 || is_component_byte b

-- the cause for named libraries before 3.0
abbrev pub old_cause : List ℕ → Cause
old_cause part = if begins_library part then NeedsVersion else BadDepend

-- a fault in the libraries after a package's name
pub data LibrariesFault (spec : Spec) («package» text : List ℕ) (cause : Cause) : Type 0 where
  old : (part : List ℕ) → is_old spec ≡ true → text ≡ 58 ∷ part → cause ≡ old_cause part → LibrariesFault spec «package» text cause
  broken : (part : List ℕ) → is_old spec ≡ false → text ≡ 58 ∷ part → cause ≡ BadDepend
      → ((libs : List LibName) (range_text : List ℕ) → NamedLibraries «package» part libs range_text → ⊥) → LibrariesFault spec «package» text cause

-- a package, its libraries, and a range
pub record LibraryEntry (spec : Spec) (kind : DepKind) (line : ℕ) (text : List ℕ) (found : Dep) : Type 0 where
  pub libs : List LibName
  pub range_text : List ℕ
  pub range : Range
  pub name : is_package_name (name_of text) ≡ true
  pub part : Libraries spec (name_of text) (behind_name text) libs range_text
  pub versions : Stands spec 64 range_text range
  pub is : found ≡ record { line = line; kind = kind; «package» = name_of text; libs = libs; exe = []; range = range; internal = false }

-- the fault of an entry: that of its name, else of its libraries, else of its range
pub data LibraryFault (spec : Spec) (text : List ℕ) (cause : Cause) : Type 0 where
  name : is_package_name (name_of text) ≡ false → cause ≡ BadName → LibraryFault spec text cause
  part : is_package_name (name_of text) ≡ true → LibrariesFault spec (name_of text) (behind_name text) cause → LibraryFault spec text cause
  range : (libs : List LibName) (range_text : List ℕ) → is_package_name (name_of text) ≡ true → Libraries spec (name_of text) (behind_name text) libs range_text
      → FirstFault spec 64 range_text cause → LibraryFault spec text cause

-- directly after a package's name: an executable, and then the text of the range
pub record Executable (text exe range_text : List ℕ) : Type 0 where
  pub part : List ℕ
  pub colon : text ≡ 58 ∷ part
  pub form : is_component_name (run is_component_byte part) ≡ true
  pub is : exe ≡ run is_component_byte part
  pub rest : range_text ≡ behind is_component_byte part

-- a package, an executable, and a range
pub record ToolEntry (spec : Spec) (line : ℕ) (text : List ℕ) (found : Dep) : Type 0 where
  pub exe : List ℕ
  pub range_text : List ℕ
  pub range : Range
  pub name : is_package_name (name_of text) ≡ true
  pub part : Executable (behind_name text) exe range_text
  pub versions : Stands spec 64 range_text range
  pub is : found ≡ record { line = line; kind = Tool; «package» = name_of text; libs = []; exe = exe; range = range; internal = false }

-- the fault of an entry of tools: that of its name, else of its executable, else of its range
pub data ToolFault (spec : Spec) (text : List ℕ) (cause : Cause) : Type 0 where
  name : is_package_name (name_of text) ≡ false → cause ≡ BadName → ToolFault spec text cause
  part : is_package_name (name_of text) ≡ true → ((exe range_text : List ℕ) → Executable (behind_name text) exe range_text → ⊥) → cause ≡ BadDepend → ToolFault spec text cause
  range : (exe range_text : List ℕ) → is_package_name (name_of text) ≡ true → Executable (behind_name text) exe range_text
      → FirstFault spec 64 range_text cause → ToolFault spec text cause

-- the dependencies of `build-depends` and `setup-depends`
abbrev pub Depends : Spec → DepKind → ℕ → List ℕ → List Dep → Type 0
Depends spec kind line = HasEntries (LibraryEntry spec kind line)

-- the fault of such a text
abbrev pub DependsFault : Spec → DepKind → ℕ → List ℕ → Cause → Type 0
DependsFault spec kind line = HasFirstFault (LibraryEntry spec kind line) (LibraryFault spec)

-- the dependencies of `build-tool-depends`
abbrev pub Tools : Spec → ℕ → List ℕ → List Dep → Type 0
Tools spec line = HasEntries (ToolEntry spec line)

-- the fault of such a text
abbrev pub ToolsFault : Spec → ℕ → List ℕ → Cause → Type 0
ToolsFault spec line = HasFirstFault (ToolEntry spec line) (ToolFault spec)
