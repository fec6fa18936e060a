-- Imports replaced by the parts of their stanzas.
use Rattle.std.specs.Prelude.{ℕ, Bool, false, List, [], ◌∷◌, ◌++◌, map, flat_map, Some, None}
use Rattle.std.specs.List.{find, fold}
use Rattle.plan_types.specs.declared.condition.Cond.{Cond}
use Rattle.section_syntax.specs.declared.part.SectionPart.{SectionPart}
use Rattle.section_syntax.specs.declared.part.Said.TheVariants as said
use Rattle.section_syntax.specs.declared.part.Section.{Section}
use Rattle.plan_types.specs.Bytes.{same_text}
use Rattle.section_syntax.specs.declared.part.SectionKind.TheVariants as kinds

-- whether a section is a common stanza of this name
abbrev pub is_stanza : List ℕ → Section → Bool
is_stanza name section = elim section.kind [
  | kinds.Component kind ↦ false
  | kinds.Common ↦ same_text name section.name
  | kinds.Flag ↦ false
  | kinds.Setup ↦ false
]

-- the parts of the first common stanza of a name among these sections
abbrev pub stanza_parts : List Section → List ℕ → List SectionPart
stanza_parts sections name = elim (find (is_stanza name) sections) [ None ↦ [] | Some stanza ↦ stanza.parts ]

-- a part with these branches outside its own
abbrev pub under : List Cond → SectionPart → SectionPart
under branches part = record part { branches = branches ++ part.branches }

-- The parts of the named stanzas for an import, under its branches. Every other part stays itself.
abbrev pub parts_for : (List ℕ → List SectionPart) → SectionPart → List SectionPart
parts_for of_stanza part = elim part.said [
  | said.Import names fits ↦ flat_map (λ name. map (under part.branches) (of_stanza name)) names
  | said.Depends deps ↦ part ∷ []
  | said.Buildable value ↦ part ∷ []
  | said.Visibility value ↦ part ∷ []
  | said.Default value ↦ part ∷ []
  | said.Manual value ↦ part ∷ []
  | said.BuildTools ↦ part ∷ []
  | said.Branch word condition fits ↦ part ∷ []
  | said.Misplaced ↦ part ∷ []
]

-- a section with its imports replaced by parts of earlier sections
abbrev pub replaced_behind : List Section → Section → Section
replaced_behind before section = record section { parts = flat_map (parts_for (stanza_parts before)) section.parts }

-- the sections of a file with imports replaced, each by earlier sections
abbrev pub with_imports_replaced : List Section → List Section
with_imports_replaced = fold (λ before section. before ++ replaced_behind before section ∷ []) []
