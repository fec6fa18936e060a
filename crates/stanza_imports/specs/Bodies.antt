-- The parts that bodies expand to, whose imports are numbers.
use Rattle.std.specs.Prelude.{◌≡◌, ℕ, length, List, [], ◌∷◌, ◌++◌, map, flat_map, get_or, sum_by, ◌+◌, Option}
use Rattle.plan_types.specs.declared.description.CompKind.{CompKind}
use Rattle.common_laws.specs.Small.{capped}
use Rattle.section_syntax.specs.declared.part.SectionPart.{SectionPart}
use Rattle.section_syntax.specs.declared.part.Section.{Section}
use Rattle.section_syntax.specs.declared.part.SectionKind.TheVariants as kinds
use Rattle.stanza_imports.specs.Imports.{under, with_imports_replaced}
use Rattle.stanza_imports.specs.declared.stanzas.StanzaBody.{StanzaBody}
use Rattle.stanza_imports.specs.declared.stanzas.Bodies.{Bodies}
use Rattle.stanza_imports.specs.declared.stanzas.Built.{Built}
use Rattle.stanza_imports.specs.declared.stanzas.Placed.{Placed}
use Rattle.stanza_imports.specs.declared.stanzas.ImportStep.{ImportStep}
use Rattle.stanza_imports.specs.declared.stanzas.Summary.{Summary}
use Rattle.stanza_imports.specs.Lines.{first_line}
use Rattle.stanza_imports.specs.Parts.{deps_said, bad_visibility}
use Rattle.stanza_imports.specs.declared.stanzas.ImportStep.TheVariants as step

-- the parts of a step; the table has the parts of the stanzas, by number
abbrev pub step_parts : List (List SectionPart) → ImportStep → List SectionPart
step_parts table (step.Part part) = part.now ∷ []
step_parts table (step.Import stanza branches) = map (under branches.now) (get_or table stanza [])

-- the parts of a body
abbrev pub body_parts : List (List SectionPart) → StanzaBody → List SectionPart
body_parts table body = flat_map (step_parts table) body.steps.items

-- a value for each body, computed from the values of those before it
abbrev pub in_turn : {A : Type 0} → (List A → StanzaBody → A) → List A → List StanzaBody → List A
in_turn told before [] = before
in_turn told before (body ∷ bodies) = in_turn told (before ++ told before body ∷ []) bodies

-- the parts of stanzas, each of which imports only earlier ones
abbrev pub table : List StanzaBody → List (List SectionPart)
table = in_turn body_parts []

-- the line of the first bad `visibility`
abbrev pub first_bad : List SectionPart → Option ℕ
first_bad parts = first_line (flat_map bad_visibility parts)

-- the weight of a part: one, and one for each dependency
abbrev pub weight : SectionPart → ℕ
weight part = 1 + length (deps_said part.said)

-- the weight of a list of parts, at most 2^64 - 1
abbrev pub weight_of : List SectionPart → ℕ
weight_of parts = capped (sum_by weight parts)

-- the totals of a list of parts
abbrev pub summary : List SectionPart → Summary
summary parts = record { bad_visibility = first_bad parts; weight = weight_of parts }

-- a component with the totals of its parts
pub record Shown : Type 0 where
  pub section : Section
  pub kind : CompKind
  pub told : Summary

-- a built component, with its imports replaced
abbrev pub built_component : List (List SectionPart) → Built → Shown
built_component table built = record {
  section = record built.section.now { parts = body_parts table built.body };
  kind = built.kind;
  told = built.body.summary;
}

-- the component of a section, if it is one
abbrev pub shown_in : Section → List Shown
shown_in section = elim section.kind [
  | kinds.Component kind ↦ record { section = section; kind = kind; told = summary section.parts } ∷ []
  | kinds.Common ↦ []
  | kinds.Flag ↦ []
  | kinds.Setup ↦ []
]

-- the weight of all components of these sections
abbrev pub total_weight : List Section → ℕ
total_weight sections = capped (sum_by (λ one. one.told.weight) (flat_map shown_in sections))

-- a part under the branches that it has once imports are replaced
abbrev pub placed_part : Placed → SectionPart
placed_part placed = record placed.part.now { branches = placed.branches }

-- the built components are those of these sections, with imports replaced
pub record AreBodiesOf (sections : List Section) (bodies : Bodies) : Type 0 where
  pub shown : map (built_component (table bodies.stanzas.bodies.items)) bodies.built.items ≡ flat_map shown_in (with_imports_replaced sections)
