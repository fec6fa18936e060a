-- A test for the lawfulness of the problem of an index and a project.
use Rattle.std.specs.Prelude.{ℕ, Bool, true, ◌&&◌, nat_eq, nat_lt, List, [], length, slice_index_or}
use Rattle.std.specs.List.{list_all}
use Rattle.plan_types.specs.declared.dependency.DepKind.{DepKind}
use Rattle.plan_types.specs.declared.dependency.DepKind.TheVariants as kind
use Rattle.plan_types.specs.declared.description.Description.{Description}
use Rattle.plan_types.specs.declared.index.Body.{Body}
use Rattle.plan_types.specs.declared.index.Body.TheVariants.{Source, Installed}
use Rattle.plan_types.specs.declared.index.FlatDep.{FlatDep}
use Rattle.plan_types.specs.declared.index.Package.{Package}
use Rattle.plan_types.specs.declared.project.Project.{Project}
use Rattle.qualified_goals.specs.declared.variable.Qual.TheVariants.{Top, Setup, Exe}
use Rattle.qualified_goals.specs.declared.variable.Part.TheVariants.{Flag}
use Rattle.qualified_goals.specs.Names.{Name, NameTable}
use Rattle.choice_problem.specs.Written.{is_order}
use Rattle.solver_index.specs.Places.{rising, number, flag_number}
use Rattle.cabal_problem.specs.Variables.{is_part, is_qual}
use Rattle.plan_types.specs.Packages.{entries_of, package_at}

-- a package has this name
abbrev pub is_found : List Package → NameTable → Name → Bool
is_found packages names name = nat_lt (number packages names name) (length packages)

-- the qualifier of such a dependency has variables
abbrev pub has_qual_for : List Package → NameTable → ℕ → DepKind → Name → Bool
has_qual_for packages names p kind.Library name = true
has_qual_for packages names p kind.Tool name = is_qual packages names (Exe p (number packages names name))
has_qual_for packages names p kind.Setup name = is_qual packages names (Setup p)

-- the package of a dependency exists, and its qualifier has variables
abbrev pub flat_finds : List Package → NameTable → ℕ → FlatDep → Bool
flat_finds packages names p flat = is_found packages names flat.dep.«package» && has_qual_for packages names p flat.dep.kind flat.dep.«package»

-- all flags and packages in a description are known
abbrev pub source_finds : List Package → NameTable → ℕ → Description → List FlatDep → Bool
source_finds packages names p d flats =
    list_all (λ decl. is_part names Top (package_at packages p) (Flag (flag_number names decl.name))) d.flags
    && (list_all (flat_finds packages names p) flats && list_all (λ dep. is_found packages names dep.«package») d.setup)

-- all flags and packages of an instance's demands are known
abbrev pub body_finds : List Package → NameTable → ℕ → Body → Bool
body_finds packages names p (Source source) = source_finds packages names p source.description source.flat
body_finds packages names p (Installed record_of needs) = list_all (is_found packages names) needs

-- the same for all instances of a package
abbrev pub package_finds : List Package → NameTable → ℕ → Bool
package_finds packages names p = list_all (λ e. body_finds packages names p e.body) (entries_of packages p)

-- the same for the instances of all packages
abbrev pub packages_find : List Package → NameTable → Bool
packages_find packages names = list_all (package_finds packages names) (rising (length packages))

-- each extra package exists
abbrev pub extras_are_found : List Package → Project → NameTable → Bool
extras_are_found packages project names = list_all (λ named. is_found packages names named.name) project.extra

-- each instance of a package is in its order once
abbrev pub is_order_at : List Package → List (List ℕ) → ℕ → Bool
is_order_at packages orders p = nat_eq (length (slice_index_or orders p [])) (length (entries_of packages p)) && is_order (slice_index_or orders p [])

-- the same for all packages
abbrev pub are_orders : List Package → List (List ℕ) → Bool
are_orders packages orders = list_all (is_order_at packages orders) (rising (length packages))

-- whether the problem of an index and a project is lawful
abbrev pub is_lawful : List Package → Project → NameTable → List (List ℕ) → Bool
is_lawful packages project names orders = (packages_find packages names && extras_are_found packages project names) && are_orders packages orders
