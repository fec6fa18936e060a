-- The line of a choice.
use Rattle.std.specs.Prelude.{ℕ, ◌==◌, List, [], ◌∷◌, ◌++◌, Option, Some, None, slice_get, slice_index_or, codes, if◌then◌else◌}
use Rattle.plan_types.specs.declared.index.Entry.{Entry}
use Rattle.plan_types.specs.declared.index.Index.{Index}
use Rattle.plan_types.specs.declared.index.Instance.{Instance}
use Rattle.plan_types.specs.declared.index.Origin.{Origin}
use Rattle.plan_types.specs.declared.index.Origin.TheVariants.{Local, Source, Installed}
use Rattle.plan_types.specs.declared.index.Package.{Package}
use Rattle.version_range.specs.Version.{version_text}
use Rattle.qualified_goals.specs.declared.variable.Part.{Part}
use Rattle.qualified_goals.specs.declared.variable.Part.TheVariants.{Package as ThePackage, Flag, Tests, Benches}
use Rattle.qualified_goals.specs.Names.{NameTable}
use Rattle.qualified_goals.specs.Printed.{var_text}
use Rattle.choice_problem.specs.declared.problem.Choice.{Choice}
use Rattle.plan_types.specs.Packages.{entries_of, no_package}

-- the text of an origin, with the id of a unit
abbrev pub origin_text : Origin → List ℕ → List ℕ
origin_text Local unit = codes " local"
origin_text Source unit = codes " source"
origin_text Installed unit = codes " installed " ++ unit

-- the text of an instance: its version and origin
abbrev pub instance_text : Instance → List ℕ
instance_text instance = version_text instance.version.parts ++ origin_text instance.origin instance.unit

-- the text of an entry's instance, empty without an entry
abbrev pub entry_text : Option Entry → List ℕ
entry_text None = []
entry_text (Some entry) = instance_text entry.instance

-- the value of a flag or stanza
abbrev pub switch_text : ℕ → List ℕ
switch_text value = if value == 1 then codes "on" else codes "off"

-- the value of a part: an instance, or on or off
abbrev pub part_value : List Entry → ℕ → Part → List ℕ
part_value entries value ThePackage = entry_text (slice_get entries value)
part_value entries value (Flag f) = switch_text value
part_value entries value Tests = switch_text value
part_value entries value Benches = switch_text value

-- the value of a choice: an instance of its package, or on or off
abbrev pub value_text : Index → Choice → List ℕ
value_text index choice = part_value (entries_of index.packages choice.var.«package») choice.val choice.var.part

-- the line of a choice: a word, the variable and the value
abbrev pub line_of : List ℕ → Index → NameTable → Choice → List ℕ
line_of word index names choice = word ++ codes " " ++ var_text names choice.var ++ codes " " ++ value_text index choice ++ 10 ∷ []

-- the line of a choice in a plan
abbrev pub choice_line : Index → NameTable → Choice → List ℕ
choice_line index names choice = line_of (codes "choose") index names choice

-- the line of a choice that holds without a dropped variable
abbrev pub keep_line : Index → NameTable → Choice → List ℕ
keep_line index names choice = line_of (codes "keep") index names choice
