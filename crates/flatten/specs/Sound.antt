-- Sound indexes: those from which a plan can be made in an environment.
use Rattle.std.specs.Prelude.{◌≡◌, ℕ, Bool, true, false, not, ◌&&◌, ◌||◌, None, List, [], ◌∷◌, ◌++◌, length, map, filter, flat_map, if◌then◌else◌}
use Rattle.std.specs.List.{list_any, list_all, AllByRecursion, IsDistinct}
use Rattle.std.specs.List.Sorted.{IsStrictlySortedBy}
use Rattle.std.specs.declared.cmp.Ordering.{Ordering}
use Rattle.std.specs.Ordering.{nat_cmp, ordering_then}
use Rattle.std.specs.Cmp.Lexicographic.{slice_cmp}
use Rattle.plan_types.specs.declared.condition.Cond.{Cond}
use Rattle.plan_types.specs.declared.condition.Env.{Env}
use Rattle.plan_types.specs.declared.dependency.Dep.{Dep}
use Rattle.plan_types.specs.declared.dependency.DepKind.{DepKind}
use Rattle.plan_types.specs.declared.dependency.DepKind.TheVariants.{Library, Tool, Setup}
use Rattle.plan_types.specs.declared.description.Description.{Description}
use Rattle.plan_types.specs.declared.index.Body.{Body}
use Rattle.plan_types.specs.declared.index.Body.TheVariants.{Source as SourceBody, Installed}
use Rattle.plan_types.specs.declared.index.Entry.{Entry}
use Rattle.plan_types.specs.declared.index.Index.{Index}
use Rattle.plan_types.specs.declared.index.Instance.{Instance}
use Rattle.plan_types.specs.declared.index.Origin.{Origin}
use Rattle.plan_types.specs.declared.index.Origin.TheVariants as origin
use Rattle.plan_types.specs.declared.index.Package.{Package}
use Rattle.plan_types.specs.declared.index.Source.{Source}
use Rattle.plan_types.specs.Members.{order}
use Rattle.plan_types.specs.Name.{is_package_name, is_flag_name, is_lower}
use Rattle.version_range.specs.Version.{is_version, has_versions}
use Rattle.flatten.specs.Conditions.{is_well_formed}
use Rattle.flatten.specs.Demands.{outward, demands_of, first_with_too_many_paths}
use Rattle.flatten.specs.Exposure.{exposed}
use Rattle.qualified_goals.specs.Names.{AreInGoalOrder}
use Rattle.flatten.specs.OwnComponents.{finds_all, HasNoCycle}
use Rattle.plan_types.specs.Bytes.{same_text}
use Rattle.plan_types.specs.Packages.{is_library, is_installed}

-- ---- a description

-- all dependencies of the components, internal ones too
abbrev pub component_deps : Description → List Dep
component_deps d = flat_map (λ component. map (λ guarded. guarded.dep) component.build.deps) d.components

-- whether the dependency is of a component
abbrev pub is_of_components : DepKind → Bool
is_of_components kind = elim kind [ Library ↦ true | Tool ↦ true | Setup ↦ false ]

-- whether the dependency is of the setup script
abbrev pub is_of_setup : DepKind → Bool
is_of_setup kind = elim kind [ Library ↦ false | Tool ↦ false | Setup ↦ true ]

-- all conditions of a description
abbrev pub conditions : Description → List Cond
conditions d = flat_map (λ component. component.build.buildable ∷ map (λ guarded. guarded.when) component.build.deps) d.components

-- a flag of this name is declared
abbrev pub declares_flag : Description → List ℕ → Bool
declares_flag d name = list_any (λ flag. same_text flag.name name) d.flags

-- an internal dependency is on the package itself and on components that it has
abbrev pub is_own : Description → Dep → Bool
is_own d dep = if dep.internal then same_text dep.«package» d.name && finds_all dep.kind dep d.components else true

-- a description is sound
pub record IsDescription (d : Description) : Type 0 where
  -- flags sorted by name, each once
  pub flags_rise : IsStrictlySortedBy (slice_cmp nat_cmp) (map (λ flag. flag.name) d.flags)
  pub flag_names : list_all (λ flag. is_flag_name flag.name) d.flags ≡ true
  pub flags_lower : list_all (λ flag. is_lower flag.name) d.flags ≡ true
  -- component names are distinct whatever their kinds, and no library has the package's name
  pub components_once : IsDistinct same_text (map (λ component. component.name) d.components)
  pub libraries_apart : list_all (λ component. not (is_library component.kind && same_text component.name d.name)) d.components ≡ true
  pub component_kinds : list_all (λ dep. is_of_components dep.kind) (component_deps d) ≡ true
  pub setup_kinds : list_all (λ dep. is_of_setup dep.kind && not dep.internal) d.setup ≡ true
  pub conditions_ask_well : list_all (is_well_formed (declares_flag d)) (conditions d) ≡ true
  pub ranges_have_versions : list_all (λ dep. has_versions dep.range) (component_deps d ++ d.setup) ≡ true
  pub own_components : list_all (is_own d) (component_deps d) ≡ true
  pub no_cycle : HasNoCycle d.components

-- ---- lookups in an index

-- a package of this name is in the index
abbrev pub has_package : Index → List ℕ → Bool
has_package index name = list_any (λ p. same_text p.name name) index.packages

-- the packages on which a description depends: those of its components, and those of its setup script
abbrev pub asked_packages : Description → List (List ℕ)
asked_packages d = map (λ at. at.guarded.dep.«package») (outward d) ++ map (λ dep. dep.«package») d.setup

-- whether an entry is the unit of this id
abbrev pub is_unit : List ℕ → Entry → Bool
is_unit id entry = is_installed entry.body && same_text entry.instance.unit id

-- whether the index has the unit, or a local package of this name
abbrev pub has_unit : Index → List ℕ → List ℕ → Bool
has_unit index id name = list_any (λ p. same_text p.name name && (p.local || list_any (is_unit id) p.entries)) index.packages

-- whether the index has each unit of the first list, given their package names in the second
abbrev pub has_units : Index → List (List ℕ) → List (List ℕ) → Bool
has_units index [] [] = true
has_units index [] (name ∷ names) = false
has_units index (id ∷ ids) [] = false
has_units index (id ∷ ids) (name ∷ names) = has_unit index id name && has_units index ids names

-- ---- an entry

-- a sound source: a sound description, all its packages in the index, its demands and exposed components kept right
pub record IsSource (env : Env) (index : Index) (source : Source) : Type 0 where
  pub description : IsDescription source.description
  pub packages : list_all (has_package index) (asked_packages source.description) ≡ true
  pub none_beyond : first_with_too_many_paths env source.description ≡ None
  pub demands : source.flat ≡ demands_of env source.description
  pub offers : source.exposed ≡ exposed env source.description

-- a sound body of an entry
abbrev pub IsBody : Env → Index → Body → Type 0
IsBody env index (SourceBody source) = IsSource env index source
IsBody env index (Installed unit needs) = has_units index unit.depends needs ≡ true

-- the origin of a source, by whether it is local
abbrev pub source_origin : Bool → Origin
source_origin true = origin.Local
source_origin false = origin.Source

-- the instance of a body, by whether its package is local
abbrev pub instance_of : Bool → Body → Instance
instance_of local (SourceBody source) = record { name = source.description.name; version = source.description.version; origin = source_origin local; unit = [] }
instance_of local (Installed unit needs) = record { name = unit.name; version = unit.version; origin = origin.Installed; unit = unit.id }

-- a sound entry of a package
pub record IsEntry (env : Env) (index : Index) (p : Package) (entry : Entry) : Type 0 where
  pub instance_is : entry.instance ≡ instance_of p.local entry.body
  pub named : entry.instance.name ≡ p.name
  pub version : is_version entry.instance.version.parts ≡ true
  pub body : IsBody env index entry.body

-- ---- a package

-- the entries of sources
abbrev pub releases : Package → List Entry
releases p = filter (λ entry. not (is_installed entry.body)) p.entries

-- the installed entries
abbrev pub units : Package → List Entry
units p = filter (λ entry. is_installed entry.body) p.entries

-- ordered by version, then by the bytes of the id
abbrev pub unit_order : Entry → Entry → Ordering
unit_order a b = ordering_then (order a.instance.version.parts b.instance.version.parts) (slice_cmp nat_cmp a.instance.unit b.instance.unit)

-- Releases come first, strictly rising by version. Then come the units, strictly rising by `unit_order`, ids distinct.
pub record IsInOrder (p : Package) : Type 0 where
  pub releases_first : p.entries ≡ releases p ++ units p
  pub versions_rise : IsStrictlySortedBy order (map (λ entry. entry.instance.version.parts) (releases p))
  pub units_rise : IsStrictlySortedBy unit_order (units p)
  pub units_once : IsDistinct same_text (map (λ entry. entry.instance.unit) (units p))

-- the package has one release and no unit
pub record IsOneRelease (p : Package) : Type 0 where
  pub one : length p.entries ≡ 1
  pub no_units : units p ≡ []

-- a sound package
pub record IsPackage (env : Env) (index : Index) (p : Package) : Type 0 where
  pub name : is_package_name p.name ≡ true
  pub in_order : IsInOrder p
  pub local_is_one : p.local ≡ true → IsOneRelease p
  pub entries : AllByRecursion (IsEntry env index p) p.entries

-- ---- the index

-- a sound index
pub record IsSound (env : Env) (index : Index) : Type 0 where
  pub in_goal_order : AreInGoalOrder index.packages
  pub packages : AllByRecursion (IsPackage env index) index.packages
