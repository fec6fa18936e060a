-- The definitions on small descriptions and indexes.
use Rattle.std.specs.Prelude.{◌≡◌, ℕ, Bool, true, false, List, [], ◌∷◌, refl, codes}
use Rattle.std.proofs.Common.{arith}
use Rattle.std.specs.declared.cmp.Ordering.TheVariants.{Less}
use Rattle.plan_types.specs.declared.condition.Cond.{Cond}
use Rattle.plan_types.specs.declared.condition.Cond.TheVariants.{Always, Never, Flag, And, Or}
use Rattle.plan_types.specs.declared.condition.Env.{Env}
use Rattle.plan_types.specs.declared.dependency.Dep.{Dep}
use Rattle.plan_types.specs.declared.dependency.DepKind.TheVariants as dep_kind
use Rattle.plan_types.specs.declared.dependency.LibName.TheVariants.{Main, Named}
use Rattle.plan_types.specs.declared.description.CompKind.{CompKind}
use Rattle.plan_types.specs.declared.description.CompKind.TheVariants.{Library, Executable, Test}
use Rattle.plan_types.specs.declared.description.Component.{Component}
use Rattle.plan_types.specs.Guarded.{GuardedDep}
use Rattle.plan_types.specs.declared.index.Index.{Index}
use Rattle.plan_types.specs.declared.index.Literal.{Literal}
use Rattle.plan_types.specs.declared.index.Package.{Package}
use Rattle.plan_types.specs.declared.index.PartName.TheVariants as part
use Rattle.plan_types.specs.declared.range.Range.TheVariants.{Any}
use Rattle.conditionals.specs.Layers.{value-Never, value-Flag, value-And, paths-Flag, paths-And, paths-Or}
use Rattle.flatten.specs.Demands.{demands_at, outward_in, outward_of}
use Rattle.flatten.specs.Exposure.{is_unbuildable, libs_of}
use Rattle.qualified_goals.specs.Names.{package_cmp}
use Rattle.flatten.specs.OwnComponents.{Leads, at_once, by_way_of, needs}
use Rattle.flatten.specs.Sound.{has_package, has_units}

ruleset by_kind = (paths-Flag, paths-And, paths-Or)

-- an environment
abbrev pub linux : Env
linux = record { os = codes "linux"; arch = codes "x86_64"; compiler = codes "ghc"; compiler_version = record { parts = 9 ∷ 4 ∷ 7 ∷ [] } }

-- the condition on the flag `a`
abbrev pub a : Cond
a = Flag (codes "a")

abbrev b : Cond
b = Flag (codes "b")

-- a dependency on the main library of a package, and one on an executable of the package itself
abbrev pub on : List ℕ → Dep
on name = record { line = 1; kind = dep_kind.Library; «package» = name; libs = Main ∷ []; exe = []; range = Any; internal = false }

abbrev on_own_exe : List ℕ → Dep
on_own_exe name = record { line = 1; kind = dep_kind.Tool; «package» = codes "main"; libs = []; exe = name; range = Any; internal = true }

-- a component with these dependencies
abbrev pub component : CompKind → List ℕ → Cond → List GuardedDep → Component
component kind name buildable deps = record { line = 1; kind = kind; name = name; public = false; build = record { buildable = buildable; deps = deps } }

-- a dependency under a condition
abbrev pub under : Cond → Dep → GuardedDep
under when dep = record { when = when; dep = dep }

abbrev flag_is : List ℕ → Bool → Literal
flag_is name value = record { part = part.Flag name; on = value }

abbrev tests_on : Literal
tests_on = record { part = part.Tests; on = true }

-- a test suite that is buildable while `b` is on, with a dependency under `flag(a) || flag(b)`
abbrev spec : Component
spec = component Test (codes "spec") b (under (Or a b) (on (codes "x")) ∷ [])

twice : demands_at linux (outward_of spec (under (Or a b) (on (codes "x")))) ≡
    record { when = tests_on ∷ flag_is (codes "b") true ∷ flag_is (codes "a") true ∷ []; dep = on (codes "x") }
    ∷ record { when = tests_on ∷ flag_is (codes "b") true ∷ flag_is (codes "a") false ∷ []; dep = on (codes "x") } ∷ []
twice = simp by_kind refl

-- an internal dependency is on no other package
nothing_else : outward_in (component Library [] Always (under Always (on_own_exe (codes "e")) ∷ [])) ≡ []
nothing_else = refl

-- `false` is known without any flag; after a flag it isn't
known : is_unbuildable linux (component Library [] Never []) ≡ true
known = rw value-Never refl

unknown : is_unbuildable linux (component Library [] (And a Never) []) ≡ false
unknown = rw value-And (rw value-Flag refl)

private_one : libs_of Library (codes "in") false ≡ []
private_one = refl

public_one : libs_of Library (codes "out") true ≡ Named (codes "out") ∷ []
public_one = refl

-- ---- the order of packages

abbrev empty : List ℕ → Bool → Package
empty name local = record { name = name; local = local; extra = false; entries = [] }

base_first : package_cmp (empty (codes "base") false) (empty (codes "a") true) ≡ Less
base_first = refl

local_before_others : package_cmp (empty (codes "z") true) (empty (codes "a") false) ≡ Less
local_before_others = refl

by_bytes : package_cmp (empty (codes "Z") false) (empty (codes "a") false) ≡ Less
by_bytes = refl

-- ---- components that need each other

abbrev one : Component
one = component Executable (codes "one") Always (under a (on_own_exe (codes "two")) ∷ [])

abbrev two : Component
two = component Executable (codes "two") Always (under b (on_own_exe (codes "one")) ∷ [])

-- conditions don't matter for needs
there : needs one two ≡ true
there = refl

not_to_itself : needs one one ≡ false
not_to_itself = refl

a_cycle : Leads (one ∷ two ∷ []) one one
a_cycle = by_way_of one two one (1, omega arith, refl) refl (at_once two one (0, omega arith, refl) refl)

-- ---- lookups in an index

abbrev of_foo : Index
of_foo = record { packages = empty (codes "foo") true ∷ empty (codes "bar") false ∷ []; skipped = []; warnings = [] }

is_there : has_package of_foo (codes "bar") ≡ true
is_there = refl

is_missing : has_package of_foo (codes "baz") ≡ false
is_missing = refl

-- a local package hides the unit
hidden : has_units of_foo (codes "foo-1-x" ∷ []) (codes "foo" ∷ []) ≡ true
hidden = refl

-- a package that isn't local lacks the unit
lacking : has_units of_foo (codes "bar-1-x" ∷ []) (codes "bar" ∷ []) ≡ false
lacking = refl

without_a_name : has_units of_foo (codes "foo-1-x" ∷ []) [] ≡ false
without_a_name = refl
