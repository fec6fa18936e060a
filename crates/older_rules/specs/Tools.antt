-- Tools of older files. Sources: Cabal 3.4.1, LegacyExeDependency and desugarBuildTool.
use Rattle.std.specs.Prelude.{ℕ, Bool, true, false, ◌||◌, ◌==◌, if◌then◌else◌, List, [], ◌∷◌, ◌++◌, take, drop, flat_map, codes, Option, Some, None}
use Rattle.std.specs.List.{prefix_len, slice_split}
use Rattle.plan_types.specs.Bytes.{same_text}
use Rattle.plan_types.specs.Name.{is_component_byte}
use Rattle.cabal_lexer.specs.Lines.{trim}
use Rattle.older_rules.specs.declared.change.Change.{Change}
use Rattle.older_rules.specs.declared.change.Change.TheVariants.{UnknownTool}
use Rattle.older_fields.specs.NameMaps.{Entry, text_for}

-- a byte of a tool's name
abbrev pub is_tool_byte : ℕ → Bool
is_tool_byte b = is_component_byte b || b == 43

-- the tools that come from the package of the same name
abbrev pub is_known : List ℕ → Bool
is_known name =
    if same_text name (codes "hscolour") then true
    else if same_text name (codes "haddock") then true
    else if same_text name (codes "happy") then true
    else if same_text name (codes "alex") then true
    else if same_text name (codes "hsc2hs") then true
    else if same_text name (codes "c2hs") then true
    else if same_text name (codes "cpphs") then true
    else if same_text name (codes "greencard") then true
    else if same_text name (codes "hspec-discover") then true
    else false

abbrev pub known : List ℕ → Option (List ℕ)
known name = if is_known name then Some (name ++ 58 ∷ name) else None

abbrev pub own_or_known : Option (List ℕ) → List ℕ → Option (List ℕ)
own_or_known (Some full) name = Some full
own_or_known None name = known name

-- the tool of a name, with its package; the package's own executables come first
abbrev pub full_name : List Entry → List ℕ → Option (List ℕ)
full_name own name = own_or_known (text_for own name) name

abbrev pub with_rest : Option (List ℕ) → List ℕ → Option (List ℕ)
with_rest None rest = None
with_rest (Some full) rest = Some (full ++ rest)

-- The entry of `build-tool-depends` for an entry of `build-tools`, a name and a range; none for a tool that Cabal
-- doesn't know.
abbrev pub depended : List Entry → List ℕ → Option (List ℕ)
depended own entry = with_rest (full_name own (take (prefix_len is_tool_byte entry) entry)) (drop (prefix_len is_tool_byte entry) entry)

abbrev pub some_text : Option (List ℕ) → List (List ℕ)
some_text None = []
some_text (Some text) = text ∷ []

abbrev pub unknown_told : ℕ → Option (List ℕ) → List Change
unknown_told line None = UnknownTool line ∷ []
unknown_told line (Some text) = []

-- an empty entry is none
abbrev pub entry_tool : List Entry → List ℕ → List (List ℕ)
entry_tool own [] = []
entry_tool own (b ∷ bs) = some_text (depended own (b ∷ bs))

abbrev pub entry_told : List Entry → ℕ → List ℕ → List Change
entry_told own line [] = []
entry_told own line (b ∷ bs) = unknown_told line (depended own (b ∷ bs))

abbrev pub tool_of : List Entry → List ℕ → List (List ℕ)
tool_of own piece = entry_tool own (trim piece)

abbrev pub tool_told : List Entry → ℕ → List ℕ → List Change
tool_told own line piece = entry_told own line (trim piece)

-- the entries for those of a text
abbrev pub tool_texts : List Entry → List ℕ → List (List ℕ)
tool_texts own text = flat_map (tool_of own) (slice_split (λ b. b == 44) text)

-- the tools that are left out
abbrev pub tools_told : List Entry → ℕ → List ℕ → List Change
tools_told own line text = flat_map (tool_told own line) (slice_split (λ b. b == 44) text)

-- texts joined by commas
abbrev pub commas : List (List ℕ) → List ℕ
commas [] = []
commas (text ∷ []) = text
commas (text ∷ next ∷ texts) = text ++ 44 ∷ 32 ∷ commas (next ∷ texts)
