-- A file under a cabal-version that is read: the rules in their order.
use Rattle.std.specs.Prelude.{◌≡◌, ◌⊎◌, ℕ, Bool, true, false, not, ◌&&◌, if◌then◌else◌, List, [], ◌∷◌, ◌++◌, flat_map, take, drop, codes, Option, Some, None, Result, Ok, Err}
use Rattle.std.specs.List.{list_all, list_any}
use Rattle.plan_types.specs.declared.element.Element.{Element}
use Rattle.plan_types.specs.declared.element.Element.TheVariants.{Field, Section}
use Rattle.plan_types.specs.declared.refusal.Cause.{Cause}
use Rattle.plan_types.specs.declared.refusal.Cause.TheVariants.{MissingField, TooLarge}
use Rattle.cabal_lexer.specs.Tree.{tree_of}
use Rattle.older_rules.specs.declared.change.Change.{Change}
use Rattle.older_rules.specs.declared.change.Change.TheVariants as change
use Rattle.older_fields.specs.declared.edition.Edition.{Edition}
use Rattle.older_fields.specs.declared.edition.Edition.TheVariants.{V1_24, V2_4}
use Rattle.older_fields.specs.declared.header.Header.{Header}
use Rattle.older_rules.specs.declared.modern.Modern.{Modern}
use Rattle.older_fields.specs.declared.refused.At.{At}
use Rattle.older_fields.specs.Editions.{before, header_text, setup_depends}
use Rattle.older_fields.specs.Flat.{flat, is_too_large, moves}
use Rattle.older_fields.specs.Headers.{IsHeader}
use Rattle.older_rules.specs.Heads.{head_kept, head_told, header_said, header_told, is_custom, type_line, type_said, type_told}
use Rattle.older_fields.specs.Items.{is_field, last_named, leading, text_of}
use Rattle.older_fields.specs.NameMaps.{Entry, firsts}
use Rattle.older_fields.specs.Names.{renamed}
use Rattle.older_fields.specs.Refused.{first_fault, or_else}
use Rattle.older_rules.specs.Tops.{component_name, executable_tool, is_setup, name_fault, tops, tops_told}

abbrev pub text_or : Option Element → List ℕ
text_or None = []
text_or (Some item) = text_of item

-- the package's name
abbrev pub owner_of : List Element → List ℕ
owner_of heads = text_or (last_named (codes "name") heads)

-- the new names of a file's components
abbrev pub names_of : List Element → List Entry
names_of rest = renamed (flat_map component_name rest)

-- its own executables
abbrev pub tools_of : List Element → List Element → List Entry
tools_of heads rest = firsts (flat_map (executable_tool (owner_of heads) (names_of rest)) rest)

-- the sections of a file, rewritten, and the changes to them
abbrev pub sections : Edition → List Element → List Element → List Element
sections edition heads rest = tops edition (tools_of heads rest) (names_of rest) (tree_of rest)

abbrev pub sections_told : Edition → List Element → List Element → List Change
sections_told edition heads rest = tops_told edition (tools_of heads rest) (tree_of rest)

-- a setup script without a word of its dependencies
abbrev pub lacks_setup : Edition → List Element → List Element → Bool
lacks_setup edition heads rest = is_custom edition heads && not (list_any is_setup rest)

-- before 1.24 it has implicit ones
abbrev pub is_implied : Edition → Bool → Bool
is_implied edition lacks = lacks && before edition V1_24

-- from 1.24 on Cabal refuses it; files of 2.4 and later stay as they are
abbrev pub setup_fault : Edition → Bool → ℕ → Option At
setup_fault edition lacks line =
    if lacks && not (before edition V1_24) && before edition V2_4 then Some (record { line = line; cause = MissingField }) else None

abbrev pub setup_items : Header → List Element
setup_items header = Field header.line (codes "setup-depends") (setup_depends header.edition ∷ []) ∷ []

abbrev pub setup_section : Header → List Element
setup_section header = Section header.line (codes "custom-setup") [] (setup_items header) ∷ []

abbrev pub setup_said : Header → Bool → List Element
setup_said header lacks = if is_implied header.edition lacks then setup_section header else []

abbrev pub setup_told : Header → Bool → List Change
setup_told header lacks = if is_implied header.edition lacks then change.Setup ∷ [] else []

-- the header, the build type, the other fields, the sections, and the setup section
abbrev pub all_items : Header → List Element → Bool → List Element → List Element
all_items header heads lacks made =
    header_said header ++ type_said header heads ++ flat_map (head_kept header.edition) heads ++ made ++ setup_said header lacks

abbrev pub all_changes : Header → List Element → Bool → List Change → List Change → List Change
all_changes header heads lacks told more =
    told ++ header_told header heads ++ type_told header heads ++ flat_map (head_told header.edition) heads ++ more ++ setup_told header lacks

-- the first refusal of a file with these sections
abbrev pub fault_of : Edition → Bool → ℕ → List Element → Option At
fault_of edition lacks line made = or_else (setup_fault edition lacks line) (first_fault edition (tree_of made))

abbrev pub fault : Header → List Element → List Element → Option At
fault header heads rest =
    or_else (name_fault (names_of rest) rest) (fault_of header.edition (lacks_setup header.edition heads rest) (type_line header heads) (sections header.edition heads rest))

abbrev pub unless_fault : Option At → Modern → Result Modern (ℕ × Cause)
unless_fault None modern = Ok modern
unless_fault (Some at) modern = Err (at.line, at.cause)

abbrev pub rewritten_file : List Change → Header → List Element → List Element → Modern
rewritten_file told header heads rest = record {
  items = all_items header heads (lacks_setup header.edition heads rest) (sections header.edition heads rest);
  changes = all_changes header heads (lacks_setup header.edition heads rest) told (sections_told header.edition heads rest);
}

-- a file with this header, its fields before the sections, and the rest
abbrev pub file : List Change → Header → List Element → List Element → Result Modern (ℕ × Cause)
file told header heads rest = unless_fault (fault header heads rest) (rewritten_file told header heads rest)

abbrev pub of_header : List Change → List Element → Result Header (ℕ × Cause) → Result Modern (ℕ × Cause)
of_header told items (Err at) = Err at
of_header told items (Ok header) = file told header (take (leading items) items) (drop (leading items) items)

-- a file that has sections, or none of whose fields moves into one
abbrev pub IsFile : List Change → List Element → Result Modern (ℕ × Cause) → Type 0
IsFile told items found = (header : Result Header (ℕ × Cause)) × IsHeader items header × (found ≡ of_header told items header)

-- a file without sections whose copies of `build-depends` are more than a file may have
abbrev pub is_oversized : List Element → Bool
is_oversized items = list_all is_field items && is_too_large items

-- a file without sections gets them first
abbrev pub sectioned : List Element → List Element
sectioned items = if list_all is_field items then flat items else items

abbrev pub sectioned_told : List Element → List Change
sectioned_told items = if list_all is_field items && list_any moves items then change.Sections ∷ [] else []

-- The elements of a file under a cabal-version that is read, or the refusal of it.
abbrev pub IsModern : List Element → Result Modern (ℕ × Cause) → Type 0
IsModern items found =
    ((is_oversized items ≡ true) × (found ≡ Err (0, TooLarge)))
    ⊎ ((is_oversized items ≡ false) × IsFile (sectioned_told items) (sectioned items) found)

-- a file whose first element is a cabal-version that is read
abbrev pub BeginsWithHeader : List Element → Type 0
BeginsWithHeader items = (line : ℕ) × (edition : Edition) × (rest : List Element) × (items ≡ Field line (codes "cabal-version") (header_text edition ∷ []) ∷ rest)
