-- Sets of names in the order of insertion.
use Rattle.std.specs.Prelude.{ℕ, Bool, if◌then◌else◌, List, [], ◌∷◌, ◌++◌, Option, position}
use Rattle.std.specs.List.{list_any}
use Rattle.plan_types.specs.Bytes.{same_text}

-- whether a name is among these
abbrev pub has : List (List ℕ) → List ℕ → Bool
has names name = list_any (same_text name) names

-- the place of a name
abbrev pub number_of : List (List ℕ) → List ℕ → Option ℕ
number_of names name = position (same_text name) names

-- the names with one inserted, if it is new
abbrev pub with_name : List (List ℕ) → List ℕ → List (List ℕ)
with_name names name = if has names name then names else names ++ name ∷ []
