-- The places of the units of each package, by their ids.
use Rattle.std.specs.Prelude.{◌≡◌, ℕ, List}
use Rattle.std.specs.declared.hash.FoldHasher.{FoldHasher}
use Rattle.std.specs.declared.hash.BuildHasherDefault.{BuildHasherDefault}
use Rattle.indexmap.specs.IndexMap.{IndexMap}
use Rattle.plan_types.specs.declared.index.Package.{Package}
use Rattle.qualified_goals.specs.Names.{Name}
use Rattle.keyed_lists.specs.Lists.{items_at}
use Rattle.solver_index.specs.Allowed.{allowed_unit}
use Rattle.solver_index.specs.Rows.{AreRows}
use Rattle.plan_types.specs.Bytes.{same_text}
use Rattle.plan_types.specs.Packages.{package_at}

-- the places of units, by their ids
abbrev pub UnitPlaces : Type 0
UnitPlaces = IndexMap Name (List ℕ) (BuildHasherDefault FoldHasher)

-- the places are those of the units of a package
abbrev pub AreUnitsOf : Package → UnitPlaces → Type 0
AreUnitsOf p units = (id : Name) → items_at same_text units id ≡ allowed_unit id p

-- the same for each of the first n packages
abbrev pub AreUnits : List Package → ℕ → List UnitPlaces → Type 0
AreUnits packages n = AreRows n (λ p. AreUnitsOf (package_at packages p))
