-- Names and their numbers, and the goal order by names.
use Rattle.std.specs.Prelude.{◌≡◌, ℕ, ◌<◌, ⊤, Bool, false, List, [], length, map, flat_map, position, codes, Option, get_or, if◌then◌else◌}
use Rattle.std.specs.List.{list_any, IsDistinct}
use Rattle.std.specs.List.Sorted.{IsStrictlySortedBy}
use Rattle.std.specs.Ordering.{nat_cmp, ordering_then}
use Rattle.std.specs.declared.cmp.Ordering.{Ordering}
use Rattle.std.specs.declared.cmp.Ordering.TheVariants.{Less, Equal, Greater}
use Rattle.std.specs.Cmp.Lexicographic.{slice_cmp}
use Rattle.plan_types.specs.declared.description.FlagDecl.{FlagDecl}
use Rattle.plan_types.specs.declared.index.Body.{Body}
use Rattle.plan_types.specs.declared.index.Body.TheVariants.{Source, Installed}
use Rattle.plan_types.specs.declared.index.Package.{Package}
use Rattle.qualified_goals.specs.declared.variable.Qual.{Qual}
use Rattle.qualified_goals.specs.declared.variable.Qual.TheVariants.{Top, Setup, Exe}
use Rattle.qualified_goals.specs.declared.variable.Part.{Part}
use Rattle.qualified_goals.specs.declared.variable.Part.TheVariants.{Package as ThePackage, Flag, Tests, Benches}
use Rattle.qualified_goals.specs.declared.variable.Var.{Var}
use Rattle.qualified_goals.specs.Variable.{var_cmp}
use Rattle.plan_types.specs.Bytes.{same_text}
use Rattle.plan_types.specs.Packages.{declared_by, no_package}

-- the bytes of a name
abbrev pub Name : Type 0
Name = List ℕ

-- whether a name is in the list
abbrev pub is_listed : List Name → Name → Bool
is_listed names name = list_any (same_text name) names

-- the names of packages and of flags; a name's number is its place among its kind
pub record NameTable : Type 0 where
  pub packages : List Name
  pub flags : List Name

-- the number of a name is its place
abbrev pub number_of : List Name → Name → Option ℕ
number_of names name = position (same_text name) names

-- the name with this number
abbrev pub name_of : List Name → ℕ → Name
name_of names number = get_or names number []

-- the names of an index

-- the names of packages
abbrev pub package_names : List Package → List Name
package_names packages = map (λ p. p.name) packages

-- the flags that the instances of a package declare
abbrev pub flags_in : Package → List FlagDecl
flags_in p = flat_map (λ e. declared_by e.body) p.entries

-- the names of all declared flags, with repetitions
abbrev pub flag_names : List Package → List Name
flag_names packages = map (λ f. f.name) (flat_map flags_in packages)

-- `base`, then the local packages, then all others
abbrev pub class_of : Package → ℕ
class_of p = if same_text p.name (codes "base") then 0 else if p.local then 1 else 2

-- the order of packages: by class, and then by name
abbrev pub package_cmp : Package → Package → Ordering
package_cmp p q = ordering_then (nat_cmp (class_of p) (class_of q)) (slice_cmp nat_cmp p.name q.name)

-- packages are in goal order, with distinct names
pub record AreInGoalOrder (packages : List Package) : Type 0 where
  pub rising : IsStrictlySortedBy package_cmp packages
  pub once : IsDistinct same_text (package_names packages)

-- packages are numbered by place in the index, and flags in byte order
pub record AreNumbers (packages : List Package) (names : NameTable) : Type 0 where
  pub packages_are : names.packages ≡ package_names packages
  pub flags_rise : IsStrictlySortedBy (slice_cmp nat_cmp) names.flags
  pub flags_are : (name : Name) → is_listed names.flags name ≡ is_listed (flag_names packages) name

-- variables whose numbers have names

-- the packages that a qualifier names have numbers
abbrev pub HasQual : NameTable → Qual → Type 0
HasQual names Top = ⊤
HasQual names (Setup p) = p < length names.packages
HasQual names (Exe p t) = (p < length names.packages) × (t < length names.packages)

-- the flag that a part names has a number
abbrev pub HasPart : NameTable → Part → Type 0
HasPart names ThePackage = ⊤
HasPart names (Flag f) = f < length names.flags
HasPart names Tests = ⊤
HasPart names Benches = ⊤

-- all that a variable names has a number
pub record HasNumbers (names : NameTable) (v : Var) : Type 0 where
  pub qual_is : HasQual names v.qual
  pub package_is : v.«package» < length names.packages
  pub part_is : HasPart names v.part

-- the goal order, by names

-- the order of the packages with these numbers
abbrev pub by_package : List Package → ℕ → ℕ → Ordering
by_package packages p q = package_cmp (get_or packages p no_package) (get_or packages q no_package)

-- the order of the flags with these numbers
abbrev pub by_flag : List Name → ℕ → ℕ → Ordering
by_flag flags f g = slice_cmp nat_cmp (name_of flags f) (name_of flags g)

-- top level, then setups by package, then tools by package and tool
abbrev pub qual_order : List Package → Qual → Qual → Ordering
qual_order packages Top Top = Equal
qual_order packages Top (Setup q) = Less
qual_order packages Top (Exe q u) = Less
qual_order packages (Setup p) Top = Greater
qual_order packages (Setup p) (Setup q) = by_package packages p q
qual_order packages (Setup p) (Exe q u) = Less
qual_order packages (Exe p t) Top = Greater
qual_order packages (Exe p t) (Setup q) = Greater
qual_order packages (Exe p t) (Exe q u) = ordering_then (by_package packages p q) (by_package packages t u)

-- the package, then flags by their names, then tests, then benchmarks
abbrev pub part_order : List Name → Part → Part → Ordering
part_order flags ThePackage ThePackage = Equal
part_order flags ThePackage (Flag g) = Less
part_order flags ThePackage Tests = Less
part_order flags ThePackage Benches = Less
part_order flags (Flag f) ThePackage = Greater
part_order flags (Flag f) (Flag g) = by_flag flags f g
part_order flags (Flag f) Tests = Less
part_order flags (Flag f) Benches = Less
part_order flags Tests ThePackage = Greater
part_order flags Tests (Flag g) = Greater
part_order flags Tests Tests = Equal
part_order flags Tests Benches = Less
part_order flags Benches ThePackage = Greater
part_order flags Benches (Flag g) = Greater
part_order flags Benches Tests = Greater
part_order flags Benches Benches = Equal

-- the qualifier, then the package, then the part
abbrev pub goal_order : List Package → List Name → Var → Var → Ordering
goal_order packages flags v w = ordering_then (qual_order packages v.qual w.qual) (ordering_then (by_package packages v.«package» w.«package») (part_order flags v.part w.part))

-- the order of variables by numbers is the goal order by names
abbrev pub IsGoalOrder : List Package → NameTable → Type 0
IsGoalOrder packages names = (v w : Var) → HasNumbers names v → HasNumbers names w → var_cmp v w ≡ goal_order packages names.flags v w
