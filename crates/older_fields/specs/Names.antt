-- The names of components. This program reads letters, digits, `-` and `_`; Cabal reads any name.
use Rattle.std.specs.Prelude.{ℕ, zero, suc, Bool, not, ◌&&◌, ◌==◌, if◌then◌else◌, List, [], ◌∷◌, ◌++◌, map, filter, fold, find, Option, Some, None, unwrap_or}
use Rattle.std.specs.List.{list_all, list_any}
use Rattle.indexmap.specs.IndexSet.{insert_key}
use Rattle.plan_types.specs.Bytes.{same_text}
use Rattle.plan_types.specs.Name.{is_component_byte}
use Rattle.older_fields.specs.NameMaps.{Entry, is_named, text_for, with_first}

abbrev pub has : List (List ℕ) → List ℕ → Bool
has names name = list_any (same_text name) names

-- a name with other bytes
abbrev pub is_odd : List ℕ → Bool
is_odd name = not (list_all is_component_byte name)

abbrev pub is_quote : ℕ → Bool
is_quote b = b == 34

abbrev pub plain_byte : ℕ → ℕ
plain_byte b = if is_component_byte b then b else 95

abbrev pub plain_bytes : List ℕ → List ℕ
plain_bytes name = map plain_byte (filter (λ b. not (is_quote b)) name)

abbrev pub or_line : List ℕ → List ℕ
or_line [] = 95 ∷ []
or_line (b ∷ bs) = b ∷ bs

-- the name without quotes, with `_` for each other byte
abbrev pub plain_name : List ℕ → List ℕ
plain_name name = or_line (plain_bytes name)

-- this many names: the first, and each of the others with one more `_`
abbrev pub candidates : ℕ → List ℕ → List (List ℕ)
candidates zero name = []
candidates (suc n) name = name ∷ candidates n (name ++ 95 ∷ [])

-- the first of these names that is free
abbrev pub first_free : List (List ℕ) → List (List ℕ) → Option (List ℕ)
first_free taken names = find (λ name. not (has taken name)) names

-- the new name of a component: the first of 16 that is free
abbrev pub fresh : List (List ℕ) → List ℕ → Option (List ℕ)
fresh taken name = first_free taken (candidates 16 (plain_name name))

-- the set of names with one more
abbrev pub put : List (List ℕ) → List ℕ → List (List ℕ)
put = insert_key same_text

-- the names that are taken, and the new names
pub record Naming : Type 0 where
  pub taken : List (List ℕ)
  pub found : List Entry

abbrev pub so_far : List (List ℕ) → List Entry → Naming
so_far taken found = record { taken = taken; found = found }

abbrev pub with_new : Naming → List ℕ → Option (List ℕ) → Naming
with_new names name None = names
with_new names name (Some new) = so_far (put names.taken new) (with_first names.found (name, new))

-- a name that this program can't read, and that has no new one
abbrev pub lacks_name : List Entry → List ℕ → Bool
lacks_name found name = is_odd name && not (is_named found name)

abbrev pub with_name : Naming → List ℕ → Naming
with_name names name = if lacks_name names.found name then with_new names name (fresh names.taken name) else names

-- the new names of these components; all names are taken from the first
abbrev pub renamed : List (List ℕ) → List Entry
renamed names = (fold with_name (so_far (fold put [] names) []) names).found

-- the name under which a component is written
abbrev pub new_name : List Entry → List ℕ → List ℕ
new_name names name = unwrap_or (text_for names name) name
