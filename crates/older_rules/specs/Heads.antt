-- The fields before the sections. Sources: Cabal 3.4.1, BuildType, buildType and checkForUndefinedCustomSetup.
use Rattle.std.specs.Prelude.{ℕ, Bool, false, not, ◌&&◌, ◌||◌, if◌then◌else◌, List, [], ◌∷◌, codes, Option, Some, None, is_none}
use Rattle.std.specs.List.{list_any}
use Rattle.plan_types.specs.Bytes.{same_text}
use Rattle.plan_types.specs.declared.element.Element.{Element, Element-F, fold-Element}
use Rattle.plan_types.specs.declared.element.Element.TheOpen.{Field, Section}
use Rattle.plan_types.specs.declared.element.Element.TheVariants as element
use Rattle.text_grammar.specs.Words.{is_word}
use Rattle.older_fields.specs.declared.edition.Edition.{Edition}
use Rattle.older_fields.specs.declared.edition.Edition.TheVariants.{V1_20, V2_2}
use Rattle.older_rules.specs.declared.change.Change.{Change}
use Rattle.older_rules.specs.declared.change.Change.TheVariants as change
use Rattle.older_fields.specs.declared.header.Header.{Header}
use Rattle.older_rules.specs.declared.heads.HeadRule.{HeadRule}
use Rattle.older_rules.specs.declared.heads.HeadRule.TheVariants as rule
use Rattle.older_fields.specs.Editions.{before, header_text}
use Rattle.older_fields.specs.Items.{is_field_named, last_named, line_of, text_of}

-- one value, this one
abbrev pub is_single : List ℕ → List (List ℕ) → Bool
is_single wanted [] = false
is_single wanted (value ∷ []) = same_text value wanted
is_single wanted (value ∷ next ∷ values) = false

abbrev pub is_default_value : List (List ℕ) → Bool
is_default_value values = is_single (codes "Default") values

-- before 1.20 the build type `Default` means `Custom`
abbrev pub type_rule : Edition → List (List ℕ) → HeadRule
type_rule edition values = if before edition V1_20 && is_default_value values then rule.Custom else rule.Kept

abbrev pub head_rule : Edition → List ℕ → List (List ℕ) → HeadRule
head_rule edition name values =
    if same_text name (codes "cabal-version") then rule.Header
    else if same_text name (codes "build-type") then type_rule edition values
    else rule.Kept

abbrev pub ruled : HeadRule → ℕ → List ℕ → List (List ℕ) → List Element
ruled rule.Header line name values = []
ruled rule.Custom line name values = element.Field line (codes "build-type") (codes "Custom" ∷ []) ∷ []
ruled rule.Kept line name values = element.Field line name values ∷ []

abbrev pub kept_layer : Edition → Element-F (List Element) → List Element
kept_layer edition (Field line name values) = ruled (head_rule edition name values) line name values
kept_layer edition (Section line name args items) = []

-- what becomes of a field
abbrev pub head_kept : Edition → Element → List Element
head_kept edition = fold-Element (List Element) (kept_layer edition)

abbrev pub rule_told : HeadRule → List Change
rule_told rule.Header = []
rule_told rule.Custom = change.BuildType ∷ []
rule_told rule.Kept = []

abbrev pub told_layer : Edition → Element-F (List Change) → List Change
told_layer edition (Field line name values) = rule_told (head_rule edition name values)
told_layer edition (Section line name args items) = []

abbrev pub head_told : Edition → Element → List Change
head_told edition = fold-Element (List Change) (told_layer edition)

abbrev pub is_custom_text : Edition → List ℕ → Bool
is_custom_text edition text = is_word text (codes "custom") || (before edition V1_20 && same_text text (codes "Default"))

abbrev pub is_custom_type : Edition → Option Element → Bool
is_custom_type edition None = before edition V2_2
is_custom_type edition (Some item) = is_custom_text edition (text_of item)

-- whether the package has a setup script of its own: before 2.2 also if its build type is left out
abbrev pub is_custom : Edition → List Element → Bool
is_custom edition heads = is_custom_type edition (last_named (codes "build-type") heads)

abbrev pub line_or : Header → Option Element → ℕ
line_or header None = header.line
line_or header (Some item) = line_of item

-- the line of the build type, or that of the header
abbrev pub type_line : Header → List Element → ℕ
type_line header heads = line_or header (last_named (codes "build-type") heads)

-- whether the build type is left out and means `Custom`
abbrev pub lacks_type : Edition → List Element → Bool
lacks_type edition heads = before edition V2_2 && is_none (last_named (codes "build-type") heads)

abbrev pub type_said : Header → List Element → List Element
type_said header heads = if lacks_type header.edition heads then element.Field header.line (codes "build-type") (codes "Custom" ∷ []) ∷ [] else []

abbrev pub type_told : Header → List Element → List Change
type_told header heads = if lacks_type header.edition heads then change.BuildType ∷ [] else []

abbrev pub is_header : Element → Bool
is_header = is_field_named (codes "cabal-version")

abbrev pub wanted_layer : Edition → Element-F Bool → Bool
wanted_layer edition (Field line name values) = same_text name (codes "cabal-version") && is_single (header_text edition) values
wanted_layer edition (Section line name args items) = false

-- the new header
abbrev pub is_wanted : Edition → Element → Bool
is_wanted edition = fold-Element Bool (wanted_layer edition)

-- whether the file begins with the new header, and has no other
abbrev pub is_headed : Edition → List Element → Bool
is_headed edition [] = false
is_headed edition (first ∷ others) = is_wanted edition first && not (list_any is_header others)

abbrev pub header_said : Header → List Element
header_said header = element.Field header.line (codes "cabal-version") (header_text header.edition ∷ []) ∷ []

abbrev pub header_told : Header → List Element → List Change
header_told header heads = if is_headed header.edition heads then [] else change.Header ∷ []
