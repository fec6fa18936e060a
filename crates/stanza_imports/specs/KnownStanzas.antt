-- Common stanzas by name, as they become known in file order.
use Rattle.std.specs.Prelude.{ℕ, if◌then◌else◌, List, [], ◌∷◌, ◌++◌, map, flat_map}
use Rattle.plan_types.specs.declared.condition.Cond.{Cond}
use Rattle.section_syntax.specs.declared.part.SectionPart.{SectionPart}
use Rattle.section_syntax.specs.declared.part.Section.{Section}
use Rattle.plan_types.specs.Bytes.{same_text}
use Rattle.section_syntax.specs.declared.part.SectionKind.TheVariants as kinds
use Rattle.stanza_imports.specs.Imports.{parts_for, under}

-- common stanzas with their names, imports replaced
abbrev pub Stanzas : Type 0
Stanzas = List (List ℕ × List SectionPart)

-- the parts of the first stanza of a name
abbrev pub parts_of : Stanzas → List ℕ → List SectionPart
parts_of [] name = []
parts_of (stanza ∷ stanzas) name = if same_text name stanza.0 then stanza.1 else parts_of stanzas name

-- the parts of the stanza of a name, under these branches
abbrev pub imported : Stanzas → List Cond → List ℕ → List SectionPart
imported stanzas branches name = map (under branches) (parts_of stanzas name)

-- a part with its imports replaced
abbrev pub replaced : Stanzas → SectionPart → List SectionPart
replaced stanzas part = parts_for (parts_of stanzas) part

-- parts with their imports replaced
abbrev pub all_replaced : Stanzas → List SectionPart → List SectionPart
all_replaced stanzas parts = flat_map (replaced stanzas) parts

-- the stanzas that sections after this one may import
abbrev pub stanzas_behind : Stanzas → Section → Stanzas
stanzas_behind stanzas section = elim section.kind [
  | kinds.Component kind ↦ stanzas
  | kinds.Common ↦ stanzas ++ (section.name, all_replaced stanzas section.parts) ∷ []
  | kinds.Flag ↦ stanzas
  | kinds.Setup ↦ stanzas
]

-- sections in file order with their imports replaced; a section imports only earlier stanzas
abbrev pub sections_from : Stanzas → List Section → List Section
sections_from stanzas [] = []
sections_from stanzas (section ∷ sections) = record section { parts = all_replaced stanzas section.parts } ∷ sections_from (stanzas_behind stanzas section) sections
