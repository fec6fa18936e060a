-- Invariants of bodies and stanzas while the sections are read in file order.
use Rattle.std.specs.Prelude.{◌≡◌, ℕ, Bool, true, nat_lt, length, List, [], ◌∷◌, ◌++◌, map, flat_map, ◌+◌, if◌then◌else◌, Option, None}
use Rattle.std.specs.List.{list_all}
use Rattle.plan_types.specs.declared.condition.Cond.{Cond}
use Rattle.section_syntax.specs.declared.part.SectionPart.{SectionPart}
use Rattle.section_syntax.specs.declared.part.Section.{Section}
use Rattle.stanza_imports.specs.Lines.{lesser}
use Rattle.stanza_imports.specs.KnownStanzas.{Stanzas, all_replaced, parts_of, sections_from, stanzas_behind}
use Rattle.stanza_imports.specs.Names.{has}
use Rattle.stanza_imports.specs.declared.stanzas.StanzaBody.{StanzaBody}
use Rattle.stanza_imports.specs.Parts.{is_named_library}
use Rattle.stanza_imports.specs.declared.stanzas.Bodies.{Bodies}
use Rattle.stanza_imports.specs.declared.stanzas.Built.{Built}
use Rattle.stanza_imports.specs.declared.stanzas.Stanzas as tables
use Rattle.stanza_imports.specs.declared.stanzas.ImportStep.{ImportStep}
use Rattle.stanza_imports.specs.declared.stanzas.Summary.{Summary}
use Rattle.common_laws.specs.Small.{capped}
use Rattle.stanza_imports.specs.Bodies.{body_parts, table, summary, built_component, shown_in}
use Rattle.stanza_imports.specs.declared.stanzas.ImportStep.TheVariants as step

-- the totals of these parts followed by more
abbrev pub joined : Summary → Summary → Summary
joined front back = record { bad_visibility = lesser front.bad_visibility back.bad_visibility; weight = capped (front.weight + back.weight) }

-- the totals under branches, in which no `visibility` counts
abbrev pub summary_under : List Cond → Summary → Summary
summary_under [] told = told
summary_under (branch ∷ branches) told = record told { bad_visibility = None }

-- whether a step imports one of the first so many stanzas, if it imports any
abbrev pub is_below : ℕ → ImportStep → Bool
is_below stanzas (step.Part part) = true
is_below stanzas (step.Import stanza branches) = nat_lt stanza stanzas

-- whether all steps of a body do
abbrev pub is_within : ℕ → StanzaBody → Bool
is_within stanzas body = list_all (is_below stanzas) body.steps.items

-- the first is a prefix of the second
abbrev pub IsMore : List StanzaBody → List StanzaBody → Type 0
IsMore bodies all = (more : List StanzaBody) × (all ≡ bodies ++ more)

-- a body expands to these parts
pub record ExpandsTo (stanzas : List StanzaBody) (body : StanzaBody) (said : List SectionPart) : Type 0 where
  pub parts : body_parts (table stanzas) body ≡ said
  pub told : body.summary ≡ summary said
  pub within : is_within (length stanzas) body ≡ true

-- The stanzas represent the known ones: same parts for each name. `ones` has the first stanza of each name.
pub record Knows (known : Stanzas) (stanzas : tables.Stanzas) : Type 0 where
  pub ones : Stanzas
  pub names : stanzas.names ≡ map (λ s. s.0) ones
  pub parts : table stanzas.bodies.items ≡ map (λ s. s.1) ones
  pub told : map (λ body. body.summary) stanzas.bodies.items ≡ map summary (table stanzas.bodies.items)
  pub found : (name : List ℕ) → parts_of known name ≡ parts_of ones name
  pub has : (name : List ℕ) → has (map (λ s. s.0) known) name ≡ has (map (λ s. s.0) ones) name

-- adding a stanza of this name and body extends the known ones by it
abbrev pub Adds : List ℕ → StanzaBody → tables.Stanzas → tables.Stanzas → Type 0
Adds name body old new =
    (known : Stanzas) (parts : List SectionPart) → Knows known old → ExpandsTo old.bodies.items body parts → Knows (known ++ (name, parts) ∷ []) new

-- the body expands to these parts with imports replaced
abbrev pub IsBodyOf : tables.Stanzas → List SectionPart → StanzaBody → Type 0
IsBodyOf stanzas parts body = (known : Stanzas) → Knows known stanzas → ExpandsTo stanzas.bodies.items body (all_replaced known parts)

-- the new body expands to the parts of the old one, followed by more
abbrev pub Grows : tables.Stanzas → StanzaBody → StanzaBody → (Stanzas → List SectionPart) → Type 0
Grows stanzas old new more =
    (known : Stanzas) (said : List SectionPart) → Knows known stanzas → ExpandsTo stanzas.bodies.items old said
    → ExpandsTo stanzas.bodies.items new (said ++ more known)

-- the line of the first bad `visibility` of a built component, if it is a library with a name of its own
abbrev pub bad_in : Built → Option ℕ
bad_in one = if is_named_library one.kind one.section.now.name then one.body.summary.bad_visibility else None

-- the known stanzas after these sections
abbrev pub all_behind : Stanzas → List Section → Stanzas
all_behind stanzas [] = stanzas
all_behind stanzas (section ∷ sections) = all_behind (stanzas_behind stanzas section) sections

-- the stanzas and components built of the first sections of a file
pub record AreBodiesSoFar (sections : List Section) (bodies : Bodies) : Type 0 where
  pub knows : Knows (all_behind [] sections) bodies.stanzas
  pub within : list_all (λ built. is_within (length bodies.stanzas.bodies.items) built.body) bodies.built.items ≡ true
  pub shown : map (built_component (table bodies.stanzas.bodies.items)) bodies.built.items ≡ flat_map shown_in (sections_from [] sections)
