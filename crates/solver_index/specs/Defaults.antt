-- The defaults of flags, by their numbers.
use Rattle.std.specs.Prelude.{◌≡◌, ℕ, Bool, false, nat_eq, List, length, Option, Some, None, find, unwrap_or}
use Rattle.std.specs.declared.hash.FoldHasher.{FoldHasher}
use Rattle.std.specs.declared.hash.BuildHasherDefault.{BuildHasherDefault}
use Rattle.indexmap.specs.IndexMap.{IndexMap, get}
use Rattle.plan_types.specs.declared.description.FlagDecl.{FlagDecl}
use Rattle.plan_types.specs.declared.index.Body.{Body}
use Rattle.plan_types.specs.declared.index.Entry.{Entry}
use Rattle.plan_types.specs.declared.index.Package.{Package}
use Rattle.plan_types.specs.Packages.{declared_by, entries_of}
use Rattle.qualified_goals.specs.Names.{NameTable}
use Rattle.solver_index.specs.Places.{entry_at, flag_number}
use Rattle.solver_index.specs.Rows.{AreRows}

-- the default of a declaration; off without one
abbrev pub default_in : Option FlagDecl → Bool
default_in None = false
default_in (Some decl) = decl.default

-- whether a declared flag has this number; a name without a number counts as 0
abbrev pub has_number : NameTable → ℕ → FlagDecl → Bool
has_number names f decl = nat_eq (flag_number names decl.name) f

-- the default that an instance declares for a flag; off without a declaration
abbrev pub default_of : NameTable → ℕ → Body → Bool
default_of names f body = default_in (find (has_number names f) (declared_by body))

-- a table of defaults by the numbers of flags
abbrev pub DefaultTable : Type 0
DefaultTable = IndexMap ℕ Bool (BuildHasherDefault FoldHasher)

-- the default in the table; off for a flag that isn't in it
abbrev pub default_kept : DefaultTable → ℕ → Bool
default_kept table f = unwrap_or (get nat_eq table f) false

-- the table has the defaults that an instance declares
abbrev pub AreDefaultsOf : NameTable → Entry → DefaultTable → Type 0
AreDefaultsOf names e table = (f : ℕ) → default_kept table f ≡ default_of names f e.body

-- one such table for each instance of a package
abbrev pub AreDefaultsIn : List Entry → NameTable → List DefaultTable → Type 0
AreDefaultsIn entries names = AreRows (length entries) (λ i. AreDefaultsOf names (entry_at entries i))

-- one such table for each instance of each package
abbrev pub AreDefaults : List Package → NameTable → List (List DefaultTable) → Type 0
AreDefaults packages names = AreRows (length packages) (λ p. AreDefaultsIn (entries_of packages p) names)

-- the default that an instance at a place declares for a flag
abbrev pub declared_default : List Package → NameTable → ℕ → ℕ → ℕ → Bool
declared_default packages names p i f = default_of names f (entry_at (entries_of packages p) i).body
