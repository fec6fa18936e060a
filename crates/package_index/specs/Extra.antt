-- The extra packages of a project.
use Rattle.std.specs.Prelude.{◌≡◌, true, List}
use Rattle.std.specs.List.{AllByRecursion, list_all}
use Rattle.plan_types.specs.Name.{is_package_name}
use Rattle.plan_types.specs.declared.dependency.Named.{Named}
use Rattle.plan_types.specs.declared.index.Index.{Index}
use Rattle.flatten.specs.Sound.{has_package}
use Rattle.index_assembly.specs.Index.{is_extra}

-- the names of the extra packages are well-formed
abbrev pub AreNamed : List Named → Type 0
AreNamed extra = list_all (λ named. is_package_name named.name) extra ≡ true

-- the index has each extra package
abbrev pub AreThere : List Named → Index → Type 0
AreThere extra index = list_all (λ named. has_package index named.name) extra ≡ true

-- a package of the index is marked iff it is an extra one
abbrev pub AreMarked : List Named → Index → Type 0
AreMarked extra index = AllByRecursion (λ p. p.extra ≡ is_extra extra p.name) index.packages
