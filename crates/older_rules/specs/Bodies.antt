-- The items inside a section. Sources: Cabal 3.4.1, PackageDescription parser (parseIfs, parseElseIfs, warnImport) and
-- the Cabal User Guide, specification history.
use Rattle.std.specs.Prelude.{◌≡◌, ℕ, Bool, true, false, not, ◌&&◌, if◌then◌else◌, List, [], ◌∷◌, ◌++◌, codes}
use Rattle.plan_types.specs.Bytes.{joined_text, same_text}
use Rattle.plan_types.specs.declared.element.Element.{Element}
use Rattle.plan_types.specs.declared.element.Element.TheVariants.{Field, Section}
use Rattle.cabal_lexer.specs.Tree.{Tree, end, field, section, in_front}
use Rattle.older_fields.specs.declared.edition.Edition.{Edition}
use Rattle.older_fields.specs.declared.edition.Edition.TheVariants.{V2_2, V2_4}
use Rattle.older_rules.specs.declared.change.Change.{Change}
use Rattle.older_rules.specs.declared.change.Change.TheVariants as change
use Rattle.older_rules.specs.declared.body.FieldRule.{FieldRule}
use Rattle.older_rules.specs.declared.body.FieldRule.TheVariants as rule
use Rattle.older_rules.specs.declared.body.Place.{Place}
use Rattle.older_rules.specs.declared.body.Place.TheVariants as place
use Rattle.older_fields.specs.Editions.{before}
use Rattle.older_fields.specs.NameMaps.{Entry}
use Rattle.older_rules.specs.Tools.{tool_texts, tools_told, commas}

-- Before 2.2 Cabal passes over imports. Before 2.4 `build-tools` is read as `build-tool-depends`.
abbrev pub field_rule : Edition → List ℕ → FieldRule
field_rule edition name =
    if same_text name (codes "import") then (if before edition V2_2 then rule.Dropped else rule.Kept)
    else if same_text name (codes "build-tools") then (if before edition V2_4 then rule.Tools else rule.Kept)
    else rule.Kept

-- Before 2.4, what Cabal passes over is left out; later files stay as they are.
abbrev pub misplaced : Edition → Place
misplaced edition = if before edition V2_4 then place.Dropped else place.Closes

-- Cabal reads an `if`, and directly after an `if` or an `elif` an `else` and, from 2.2 on, an `elif`. It passes over all
-- other sections in a component, and then over an `else` after them.
abbrev pub place_of : Edition → Bool → List ℕ → Place
place_of edition chained name =
    if same_text name (codes "if") then place.Opens
    else if same_text name (codes "elif") then (if chained && not (before edition V2_2) then place.Opens else misplaced edition)
    else if same_text name (codes "else") then (if chained then place.Closes else misplaced edition)
    else misplaced edition

-- a field comes between an `if` and its `else`, unless it is left out
abbrev pub chained_after : FieldRule → Bool → Bool
chained_after rule.Dropped chained = chained
chained_after rule.Tools chained = false
chained_after rule.Kept chained = false

abbrev pub is_opening : Place → Bool
is_opening place.Opens = true
is_opening place.Closes = false
is_opening place.Dropped = false

-- tools in one field, if there are any
abbrev pub tool_field : ℕ → List (List ℕ) → List Element
tool_field line [] = []
tool_field line (text ∷ texts) = Field line (codes "build-tool-depends") (commas (text ∷ texts) ∷ []) ∷ []

abbrev pub field_kept : List Entry → FieldRule → ℕ → List ℕ → List (List ℕ) → List Element
field_kept tools rule.Dropped line name values = []
field_kept tools rule.Tools line name values = tool_field line (tool_texts tools (joined_text values))
field_kept tools rule.Kept line name values = Field line name values ∷ []

abbrev pub field_told : List Entry → FieldRule → ℕ → List (List ℕ) → List Change
field_told tools rule.Dropped line values = change.Dropped line ∷ []
field_told tools rule.Tools line values = change.Tools line ∷ tools_told tools line (joined_text values)
field_told tools rule.Kept line values = []

abbrev pub section_kept : Place → ℕ → List ℕ → List ℕ → List Element → List Element
section_kept place.Opens line name args items = Section line name args items ∷ []
section_kept place.Closes line name args items = Section line name args items ∷ []
section_kept place.Dropped line name args items = []

abbrev pub section_told : Place → ℕ → List Change → List Change
section_told place.Opens line inner = inner
section_told place.Closes line inner = inner
section_told place.Dropped line inner = change.Dropped line ∷ []

-- the items of a section, rewritten; `chained`: an `else` may follow
unfoldable pub kept : Edition → List Entry → Bool → Tree → List Element
kept edition tools chained end = []
kept edition tools chained (field line name values behind) =
    field_kept tools (field_rule edition name) line name values ++ kept edition tools (chained_after (field_rule edition name) chained) behind
kept edition tools chained (section line name args items behind) =
    section_kept (place_of edition chained name) line name args (kept edition tools false items)
    ++ kept edition tools (is_opening (place_of edition chained name)) behind

-- the changes to them
unfoldable pub told : Edition → List Entry → Bool → Tree → List Change
told edition tools chained end = []
told edition tools chained (field line name values behind) =
    field_told tools (field_rule edition name) line values ++ told edition tools (chained_after (field_rule edition name) chained) behind
told edition tools chained (section line name args items behind) =
    section_told (place_of edition chained name) line (told edition tools false items)
    ++ told edition tools (is_opening (place_of edition chained name)) behind

-- one item: its rewriting and those of the items after it are those of all
abbrev pub Keeps : Edition → List Entry → Element → Bool → Bool → List Element → List Element → Type 0
Keeps edition tools item chained after old new = (behind : Tree) → new ++ kept edition tools after behind ≡ old ++ kept edition tools chained (in_front item behind)

abbrev pub Tells : Edition → List Entry → Element → Bool → Bool → List Change → List Change → Type 0
Tells edition tools item chained after old new = (behind : Tree) → new ++ told edition tools after behind ≡ old ++ told edition tools chained (in_front item behind)
