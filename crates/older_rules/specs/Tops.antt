-- The sections of a file. Source: Cabal 3.4.1, PackageDescription parser (goSections).
use Rattle.std.specs.Prelude.{◌≡◌, ℕ, Bool, true, false, ◌&&◌, if◌then◌else◌, List, [], ◌∷◌, ◌++◌, find, codes, Option, Some, None}
use Rattle.plan_types.specs.Bytes.{same_text}
use Rattle.plan_types.specs.declared.element.Element.{Element, Element-F, fold-Element}
use Rattle.plan_types.specs.declared.element.Element.TheOpen.{Field, Section}
use Rattle.plan_types.specs.declared.element.Element.TheVariants as element
use Rattle.plan_types.specs.declared.refusal.Cause.TheVariants.{DuplicateName}
use Rattle.cabal_lexer.specs.Tree.{Tree, end, field, section, in_front}
use Rattle.older_fields.specs.declared.edition.Edition.{Edition}
use Rattle.older_fields.specs.declared.edition.Edition.TheVariants.{V2_2, V3_4}
use Rattle.older_rules.specs.declared.change.Change.{Change}
use Rattle.older_rules.specs.declared.change.Change.TheVariants as change
use Rattle.older_fields.specs.declared.refused.At.{At}
use Rattle.older_rules.specs.declared.tops.TopRule.{TopRule}
use Rattle.older_rules.specs.declared.tops.TopRule.TheVariants as rule
use Rattle.older_rules.specs.Bodies.{kept, told}
use Rattle.older_fields.specs.Editions.{before}
use Rattle.older_fields.specs.Items.{line_of}
use Rattle.older_fields.specs.NameMaps.{Entry}
use Rattle.older_fields.specs.Names.{is_odd, lacks_name, new_name}

abbrev pub is_component : List ℕ → Bool
is_component name =
    if same_text name (codes "library") then true
    else if same_text name (codes "executable") then true
    else if same_text name (codes "test-suite") then true
    else if same_text name (codes "benchmark") then true
    else if same_text name (codes "foreign-library") then true
    else false

abbrev pub component_layer : Element-F (List (List ℕ)) → List (List ℕ)
component_layer (Field line name values) = []
component_layer (Section line name args items) = if is_component name then args ∷ [] else []

-- the name of a component
abbrev pub component_name : Element → List (List ℕ)
component_name = fold-Element (List (List ℕ)) component_layer

abbrev pub unnamed_layer : List Entry → Element-F Bool → Bool
unnamed_layer names (Field line name values) = false
unnamed_layer names (Section line name args items) = is_component name && lacks_name names args

-- a component that needs a new name and has none
abbrev pub is_unnamed : List Entry → Element → Bool
is_unnamed names = fold-Element Bool (unnamed_layer names)

abbrev pub duplicate_at : Option Element → Option At
duplicate_at None = None
duplicate_at (Some item) = Some (record { line = line_of item; cause = DuplicateName })

-- the first such component is refused: the names that it might have are taken
abbrev pub name_fault : List Entry → List Element → Option At
name_fault names items = duplicate_at (find (is_unnamed names) items)

-- an executable of a package, under its new name
abbrev pub tool_named : List ℕ → List Entry → List ℕ → List ℕ
tool_named owner names args = owner ++ 58 ∷ new_name names args

abbrev pub tool_layer : List ℕ → List Entry → Element-F (List Entry) → List Entry
tool_layer owner names (Field line name values) = []
tool_layer owner names (Section line name args items) = if same_text name (codes "executable") then (args, tool_named owner names args) ∷ [] else []

abbrev pub executable_tool : List ℕ → List Entry → Element → List Entry
executable_tool owner names = fold-Element (List Entry) (tool_layer owner names)

abbrev pub setup_layer : Element-F Bool → Bool
setup_layer (Field line name values) = false
setup_layer (Section line name args items) = same_text name (codes "custom-setup")

abbrev pub is_setup : Element → Bool
is_setup = fold-Element Bool setup_layer

-- before 2.2 Cabal passes over common stanzas
abbrev pub top_rule : Edition → List ℕ → TopRule
top_rule edition name =
    if is_component name then rule.Component
    else if same_text name (codes "common") then (if before edition V2_2 then rule.Dropped else rule.Common)
    else rule.Other

abbrev pub name_told : ℕ → List ℕ → List Change
name_told line args = if is_odd args then change.Name line ∷ [] else []

-- what becomes of a section; other sections than components and stanzas stay as they are
abbrev pub top_kept : Edition → List Entry → List Entry → TopRule → ℕ → List ℕ → List ℕ → Tree → List Element
top_kept edition tools names rule.Dropped line name args items = []
top_kept edition tools names rule.Component line name args items = element.Section line name (new_name names args) (kept edition tools false items) ∷ []
top_kept edition tools names rule.Common line name args items = element.Section line name args (kept edition tools false items) ∷ []
top_kept edition tools names rule.Other line name args items = element.Section line name args (kept V3_4 tools false items) ∷ []

abbrev pub top_told : Edition → List Entry → TopRule → ℕ → List ℕ → Tree → List Change
top_told edition tools rule.Dropped line args items = change.Dropped line ∷ []
top_told edition tools rule.Component line args items = name_told line args ++ told edition tools false items
top_told edition tools rule.Common line args items = told edition tools false items
top_told edition tools rule.Other line args items = told V3_4 tools false items

-- the sections of a file, rewritten; Cabal passes over fields among them
unfoldable pub tops : Edition → List Entry → List Entry → Tree → List Element
tops edition tools names end = []
tops edition tools names (field line name values behind) = tops edition tools names behind
tops edition tools names (section line name args items behind) =
    top_kept edition tools names (top_rule edition name) line name args items ++ tops edition tools names behind

-- the changes to them
unfoldable pub tops_told : Edition → List Entry → Tree → List Change
tops_told edition tools end = []
tops_told edition tools (field line name values behind) = change.Dropped line ∷ tops_told edition tools behind
tops_told edition tools (section line name args items behind) =
    top_told edition tools (top_rule edition name) line args items ++ tops_told edition tools behind

-- one item: its rewriting and those of the items after it are those of all
abbrev pub KeepsTop : Edition → List Entry → List Entry → Element → List Element → List Element → Type 0
KeepsTop edition tools names item old new = (behind : Tree) → new ++ tops edition tools names behind ≡ old ++ tops edition tools names (in_front item behind)

abbrev pub TellsTop : Edition → List Entry → Element → List Change → List Change → Type 0
TellsTop edition tools item old new = (behind : Tree) → new ++ tops_told edition tools behind ≡ old ++ tops_told edition tools (in_front item behind)
