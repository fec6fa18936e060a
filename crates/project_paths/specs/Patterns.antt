-- The pattern of an entry's text.
use Rattle.std.specs.Prelude.{ℕ, Bool, false, ◌||◌, ◌==◌, not, if◌then◌else◌, nat_eq, List, [], ◌∷◌, codes, filter, Option, Some, None}
use Rattle.std.specs.List.{list_any, slice_split, starts_with}
use Rattle.plan_types.specs.Bytes.{begins_with, same_text}
use Rattle.project_paths.specs.declared.pattern.Pattern.{Pattern}

-- whether the last byte is `/`
abbrev pub ends_in_slash : List ℕ → Bool
ends_in_slash [] = false
ends_in_slash (b ∷ []) = b == 47
ends_in_slash (b ∷ c ∷ bs) = ends_in_slash (c ∷ bs)

-- the text without one slash at its end
abbrev pub stem : List ℕ → List ℕ
stem [] = []
stem (b ∷ []) = if b == 47 then [] else b ∷ []
stem (b ∷ c ∷ bs) = b ∷ stem (c ∷ bs)

-- whether a piece between slashes is a name: `.` isn't one
abbrev pub is_name : List ℕ → Bool
is_name piece = not (same_text piece (codes "."))

-- the names between the slashes
abbrev pub names_in : List ℕ → List (List ℕ)
names_in stem = filter is_name (slice_split (λ b. b == 47) stem)

-- the names of a pattern
abbrev pub names_of : List ℕ → List (List ℕ)
names_of text = names_in (stem text)

-- whether the part occurs in the text
abbrev pub has : List ℕ → List ℕ → Bool
has part [] = starts_with nat_eq [] part
has part (b ∷ bs) = starts_with nat_eq (b ∷ bs) part || has part bs

-- whether there is a brace
abbrev pub has_brace : List ℕ → Bool
has_brace text = list_any (λ b. b == 123 || b == 125) text

-- whether a text begins with `/` or `~`, or has a brace, a `**` or a `://` in it
abbrev pub has_mark : List ℕ → Bool
has_mark text = (begins_with 47 text || begins_with 126 text) || has_brace text || has (codes "**") text || has (codes "://") text

-- whether a name is `..`, which leads out of a directory
abbrev pub leaves_root : List (List ℕ) → Bool
leaves_root names = list_any (λ name. same_text name (codes "..")) names

-- whether an entry's text isn't supported
abbrev pub is_unsupported : List ℕ → Bool
is_unsupported text = has_mark text || leaves_root (names_of text)

-- the pattern of an entry's text, or none if it isn't supported
abbrev pub pattern_of : List ℕ → Option Pattern
pattern_of text = if is_unsupported text then None else Some (record { names = names_of text; folders = ends_in_slash text })
