-- The components of a file whose imports are replaced.
use Rattle.std.specs.Prelude.{Bool, false, ◌&&◌, if◌then◌else◌, List, [], ◌∷◌, map, flat_map, Option, None, unwrap_or}
use Rattle.plan_types.specs.declared.condition.Cond.{Cond}
use Rattle.plan_types.specs.declared.condition.Cond.TheVariants.{Not}
use Rattle.plan_types.specs.declared.description.CompKind.{CompKind}
use Rattle.plan_types.specs.declared.description.Component.{Component}
use Rattle.plan_types.specs.Guarded.{GuardedDep}
use Rattle.section_syntax.specs.Branch.{all_of}
use Rattle.section_syntax.specs.declared.part.File.{File}
use Rattle.section_syntax.specs.declared.part.SectionPart.{SectionPart}
use Rattle.section_syntax.specs.declared.part.Said.{Said}
use Rattle.section_syntax.specs.declared.part.Section.{Section}
use Rattle.section_syntax.specs.declared.part.SectionKind.TheVariants as kinds
use Rattle.package_declarations.specs.Declarations.{meant}
use Rattle.package_declarations.specs.Given.{given}
use Rattle.text_grammar.specs.Last.{last_given}
use Rattle.stanza_imports.specs.Imports.{with_imports_replaced}
use Rattle.stanza_imports.specs.Parts.{deps_said, is_named_library}

-- the dependencies of a part with the condition that its branches are taken
abbrev pub guarded : File → SectionPart → List GuardedDep
guarded file part = map (λ dep. record { when = all_of part.branches; dep = meant file dep }) (deps_said part.said)

-- whether a part is `buildable: False`
abbrev pub unbuildable_said : Said → Bool
unbuildable_said said = (given said).unbuildable

-- the condition that such a part's branches aren't taken
abbrev pub barrier : SectionPart → List Cond
barrier part = if unbuildable_said part.said then Not (all_of part.branches) ∷ [] else []

-- the condition under which a component is buildable: all `buildable: False` are in branches not taken
abbrev pub buildable : List SectionPart → Cond
buildable parts = all_of (flat_map barrier parts)

-- the visibility that a part gives
abbrev pub visibility_said : Said → Option Bool
visibility_said said = (given said).visibility

-- the same, but only outside of branches
abbrev pub visibility_of : SectionPart → Option Bool
visibility_of part = elim part.branches [ [] ↦ visibility_said part.said | branch ∷ branches ↦ None ]

-- a library with a name of its own is private unless its last `visibility` is public
abbrev pub is_public : List SectionPart → Bool
is_public parts = unwrap_or (last_given visibility_of parts) false

-- the component of a section
abbrev pub component : File → Section → CompKind → Component
component file section kind = record {
  line = section.line;
  kind = kind;
  name = section.name;
  public = is_named_library kind section.name && is_public section.parts;
  build = record { buildable = buildable section.parts; deps = flat_map (guarded file) section.parts };
}

-- the component of a section, if it is one
abbrev pub component_in : File → Section → List Component
component_in file section = elim section.kind [
  | kinds.Component kind ↦ component file section kind ∷ []
  | kinds.Common ↦ []
  | kinds.Flag ↦ []
  | kinds.Setup ↦ []
]

-- the components of a file, in file order
abbrev pub components : File → List Component
components file = flat_map (component_in file) (with_imports_replaced file.sections)
