-- Files without sections, of before 1.2. Source: Cabal 3.4.1, sectionizeFields.
use Rattle.std.specs.Prelude.{ℕ, Bool, true, false, not, ◌&&◌, ◌||◌, if◌then◌else◌, List, [], ◌∷◌, ◌++◌, flat_map, filter, length, nat_lt, ◌*◌, take, drop, codes}
use Rattle.std.specs.List.{prefix_len}
use Rattle.plan_types.specs.Bytes.{same_text}
use Rattle.plan_types.specs.declared.element.Element.{Element, Element-F, fold-Element}
use Rattle.plan_types.specs.declared.element.Element.TheOpen.{Field, Section}
use Rattle.plan_types.specs.declared.element.Element.TheVariants as element
use Rattle.cabal_lexer.specs.Canonical.{canonical}
use Rattle.older_fields.specs.declared.flat_file.FieldKind.{FieldKind}
use Rattle.older_fields.specs.declared.flat_file.FieldKind.TheVariants as kind
use Rattle.older_fields.specs.Items.{is_field_named, line_of, text_of}

-- fields of a library: modules and dependencies
abbrev pub is_module_field : List ℕ → Bool
is_module_field name =
    if same_text name (codes "exposed-modules") then true
    else if same_text name (codes "reexported-modules") then true
    else if same_text name (codes "signatures") then true
    else if same_text name (codes "exposed") then true
    else if same_text name (codes "other-modules") then true
    else if same_text name (codes "virtual-modules") then true
    else if same_text name (codes "autogen-modules") then true
    else if same_text name (codes "mixins") then true
    else if same_text name (codes "buildable") then true
    else if same_text name (codes "build-tools") then true
    else if same_text name (codes "build-tool-depends") then true
    else if same_text name (codes "pkgconfig-depends") then true
    else false

-- files and folders
abbrev pub is_source_field : List ℕ → Bool
is_source_field name =
    if same_text name (codes "hs-source-dirs") then true
    else if same_text name (codes "hs-source-dir") then true
    else if same_text name (codes "asm-sources") then true
    else if same_text name (codes "cmm-sources") then true
    else if same_text name (codes "c-sources") then true
    else if same_text name (codes "cxx-sources") then true
    else if same_text name (codes "js-sources") then true
    else if same_text name (codes "include-dirs") then true
    else if same_text name (codes "includes") then true
    else if same_text name (codes "autogen-includes") then true
    else if same_text name (codes "install-includes") then true
    else false

-- options
abbrev pub is_option_field : List ℕ → Bool
is_option_field name =
    if same_text name (codes "cpp-options") then true
    else if same_text name (codes "asm-options") then true
    else if same_text name (codes "cmm-options") then true
    else if same_text name (codes "cc-options") then true
    else if same_text name (codes "cxx-options") then true
    else if same_text name (codes "ld-options") then true
    else if same_text name (codes "ghc-options") then true
    else if same_text name (codes "ghcjs-options") then true
    else if same_text name (codes "jhc-options") then true
    else if same_text name (codes "hugs-options") then true
    else if same_text name (codes "nhc98-options") then true
    else if same_text name (codes "ghc-prof-options") then true
    else if same_text name (codes "ghcjs-prof-options") then true
    else if same_text name (codes "ghc-shared-options") then true
    else if same_text name (codes "ghcjs-shared-options") then true
    else false

-- system libraries
abbrev pub is_library_list : List ℕ → Bool
is_library_list name =
    if same_text name (codes "frameworks") then true
    else if same_text name (codes "extra-framework-dirs") then true
    else if same_text name (codes "extra-libraries") then true
    else if same_text name (codes "extra-ghci-libraries") then true
    else if same_text name (codes "extra-bundled-libraries") then true
    else if same_text name (codes "extra-library-flavours") then true
    else if same_text name (codes "extra-dynamic-library-flavours") then true
    else if same_text name (codes "extra-lib-dirs") then true
    else false

-- languages
abbrev pub is_language_field : List ℕ → Bool
is_language_field name =
    if same_text name (codes "default-language") then true
    else if same_text name (codes "other-languages") then true
    else if same_text name (codes "default-extensions") then true
    else if same_text name (codes "other-extensions") then true
    else if same_text name (codes "extensions") then true
    else false

-- a field of a library, other than `build-depends`
abbrev pub is_library_field : List ℕ → Bool
is_library_field name = is_module_field name || is_source_field name || is_option_field name || is_library_list name || is_language_field name

abbrev pub is_kind : FieldKind → List ℕ → Bool
is_kind kind.Package name = not (same_text name (codes "build-depends")) && not (is_library_field name)
is_kind kind.Depends name = same_text name (codes "build-depends")
is_kind kind.Library name = is_library_field name

abbrev pub kind_layer : FieldKind → Element-F (List Element) → List Element
kind_layer of (Field line name values) = if is_kind of name then element.Field line name values ∷ [] else []
kind_layer of (Section line name args items) = []

-- the field, if it is of this kind
abbrev pub field_of : FieldKind → Element → List Element
field_of of = fold-Element (List Element) (kind_layer of)

abbrev pub own_layer : Element-F (List Element) → List Element
own_layer (Field line name values) = element.Field line name values ∷ []
own_layer (Section line name args items) = []

-- a field itself
abbrev pub own_field : Element → List Element
own_field = fold-Element (List Element) own_layer

abbrev pub is_executable : Element → Bool
is_executable = is_field_named (codes "executable")

-- the number of fields before the first executable
abbrev pub front_len : List Element → ℕ
front_len = prefix_len (λ item. not (is_executable item))

abbrev pub library_with : List Element → List Element → List Element
library_with depends [] = []
library_with depends (first ∷ fields) = element.Section (line_of first) (codes "library") [] (depends ++ first ∷ fields) ∷ []

-- the library: the fields before the first executable, if there is one beside `build-depends`
abbrev pub library : List Element → List Element
library front = library_with (flat_map (field_of kind.Depends) front) (flat_map (field_of kind.Library) front)

abbrev pub executable_items : List Element → List Element → List Element
executable_items front behind = flat_map (field_of kind.Depends) front ++ flat_map own_field (take (front_len behind) behind)

-- an executable: the common `build-depends`, and the fields up to the next one
abbrev pub executable : List Element → Element → List Element → List Element
executable front item behind =
    element.Section (line_of item) (codes "executable") (text_of item) (executable_items front behind) ∷ []

abbrev pub some_executable : List Element → Element → List Element → List Element
some_executable front item behind = if is_executable item then executable front item behind else []

abbrev pub executables : List Element → List Element → List Element
executables front [] = []
executables front (item ∷ behind) = some_executable front item behind ++ executables front behind

abbrev pub parted : List Element → List Element → List Element
parted front behind = flat_map (field_of kind.Package) front ++ library front ++ executables front behind

-- the fields of a file in sections
abbrev pub flat : List Element → List Element
flat items = parted (take (front_len items) items) (drop (front_len items) items)

-- the most bytes of a file that the planner reads
abbrev pub file_limit : ℕ
file_limit = 1048576

-- the bytes of the `build-depends` that each executable gets
abbrev pub shared_size : List Element → ℕ
shared_size front = length (canonical (flat_map (field_of kind.Depends) front))

abbrev pub executables_in : List Element → ℕ
executables_in items = length (filter is_executable items)

abbrev pub copied_size : List Element → List Element → ℕ
copied_size front behind = shared_size front * executables_in behind

-- whether the executables' copies of `build-depends` alone are more than a file may have
abbrev pub is_too_large : List Element → Bool
is_too_large items = nat_lt file_limit (copied_size (take (front_len items) items) (drop (front_len items) items))

abbrev pub moves_layer : Element-F Bool → Bool
moves_layer (Field line name values) = same_text name (codes "executable") || not (is_kind kind.Package name)
moves_layer (Section line name args items) = false

-- whether a field moves into a section
abbrev pub moves : Element → Bool
moves = fold-Element Bool moves_layer
