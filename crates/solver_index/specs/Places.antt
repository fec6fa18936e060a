-- Packages, instances and flags by their numbers.
use Rattle.std.specs.Prelude.{ℕ, ◌-◌, zero, suc, Bool, List, [], ◌∷◌, ◌++◌, length, filter, slice_index_or, unwrap_or}
use Rattle.std.specs.List.{range_with_len}
use Rattle.plan_types.specs.declared.index.Body.{Body}
use Rattle.plan_types.specs.declared.index.Body.TheVariants.{Installed}
use Rattle.plan_types.specs.declared.index.Entry.{Entry}
use Rattle.plan_types.specs.declared.index.Package.{Package}
use Rattle.preferences.specs.Places.{no_instance}
use Rattle.qualified_goals.specs.Names.{Name, NameTable, number_of}

-- the numbers below n
abbrev pub rising : ℕ → List ℕ
rising zero = []
rising (suc n) = rising n ++ n ∷ []

-- the numbers from one up to another
abbrev pub between : ℕ → ℕ → List ℕ
between low high = range_with_len low (high - low)

-- the body that is read at a place beyond the last
abbrev pub no_body : Body
no_body = Installed (record { name = []; version = record { parts = [] }; id = []; depends = [] }) []

-- the entry that is read at a place beyond the last
abbrev pub no_entry : Entry
no_entry = record { instance = no_instance; body = no_body }

-- the entry at a place
abbrev pub entry_at : List Entry → ℕ → Entry
entry_at entries i = slice_index_or entries i no_entry

-- the places of the entries that pass a test
abbrev pub places : (Entry → Bool) → List Entry → List ℕ
places test entries = filter (λ i. test (entry_at entries i)) (rising (length entries))

-- the number of a package; one behind the last for an unknown name
abbrev pub number : List Package → NameTable → Name → ℕ
number packages names name = unwrap_or (number_of names.packages name) (length packages)

-- the number of a flag; 0 for a name that no package declares
abbrev pub flag_number : NameTable → Name → ℕ
flag_number names name = unwrap_or (number_of names.flags name) 0
