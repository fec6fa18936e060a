-- Maps from keys to lists.
use Rattle.std.specs.Prelude.{Bool, List, [], ◌-◌, length, take, unwrap_or}
use Rattle.indexmap.specs.IndexMap.{IndexMap, get}

-- the list of a key; empty if it has none
abbrev pub items_at : {K T S : Type 0} → (K → K → Bool) → IndexMap K (List T) S → K → List T
items_at eq lists k = unwrap_or (get eq lists k) []

-- the list without its last item
abbrev pub all_but_last : {T : Type 0} → List T → List T
all_but_last xs = take (length xs - 1) xs
