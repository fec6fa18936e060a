-- The order in which the values of a variable are tried.
use Rattle.std.specs.Prelude.{ℕ, Bool, true, false, not, nat_eq, List, [], ◌∷◌, ◌++◌, map, filter, Option, Some, None, slice_index_or}
use Rattle.plan_types.specs.declared.description.FlagDecl.{FlagDecl}
use Rattle.plan_types.specs.declared.index.Entry.{Entry}
use Rattle.plan_types.specs.declared.index.Package.{Package}
use Rattle.qualified_goals.specs.declared.variable.Qual.{Qual}
use Rattle.qualified_goals.specs.declared.variable.Part.{Part}
use Rattle.qualified_goals.specs.declared.variable.Part.TheVariants.{Package as ThePackage, Flag, Tests, Benches}
use Rattle.qualified_goals.specs.declared.variable.Var.{Var}
use Rattle.qualified_goals.specs.Names.{NameTable, number_of}
use Rattle.choice_problem.specs.declared.problem.Choice.{Choice}
use Rattle.qualified_goals.specs.Variable.{same_var}
use Rattle.choice_problem.specs.Assignment.{is_one_of}
use Rattle.choice_problem.specs.Trail.{value_in}
use Rattle.choice_problem.specs.Twins.{is_of_package}
use Rattle.constraint_set.specs.Bars.{is_number}
use Rattle.solver_index.specs.Defaults.{default_of}
use Rattle.solver_index.specs.Places.{entry_at}
use Rattle.plan_types.specs.Packages.{entries_of}

-- both values, the better one first
abbrev pub better_first : Bool → List ℕ
better_first true = 1 ∷ 0 ∷ []
better_first false = 0 ∷ 1 ∷ []

-- whether a flag has this number
abbrev pub is_flag : NameTable → ℕ → FlagDecl → Bool
is_flag names f decl = is_number (number_of names.flags decl.name) f

-- the default that the chosen instance declares for a flag; off without an instance or a declaration
abbrev pub chosen_default : NameTable → ℕ → List Entry → Option ℕ → Bool
chosen_default names f entries None = false
chosen_default names f entries (Some i) = default_of names f (entry_at entries i).body

-- the variable of a package under a qualifier
abbrev pub package_var : Qual → ℕ → Var
package_var q p = record { qual = q; «package» = p; part = ThePackage }

-- the instance of a package that is chosen under a qualifier
abbrev pub chosen : List Choice → Qual → ℕ → Option ℕ
chosen trail q p = value_in trail (package_var q p)

-- ---- instances chosen under other qualifiers

-- the numbers, each once, at its first place
abbrev pub each_once : List ℕ → List ℕ
each_once [] = []
each_once (n ∷ ns) = n ∷ filter (λ m. not (nat_eq n m)) (each_once ns)

-- the choices of other variables
abbrev pub elsewhere : Var → List Choice → List Choice
elsewhere v choices = filter (λ c. not (same_var c.var v)) choices

-- the values chosen for other variables, each once
abbrev pub values_elsewhere : Var → List Choice → List ℕ
values_elsewhere v choices = each_once (map (λ c. c.val) (elsewhere v choices))

-- the instances chosen for a package under other qualifiers, in the order of the trail
abbrev pub reused : List Choice → Var → List ℕ
reused trail v = values_elsewhere v (filter (is_of_package v.«package») trail)

-- the numbers of an order that aren't among the first ones
abbrev pub others : List ℕ → List ℕ → List ℕ
others first order = filter (λ n. not (is_one_of (Some n) first)) order

-- some numbers, then the others of an order
abbrev pub with_others : List ℕ → List ℕ → List ℕ
with_others first order = first ++ others first order

-- ---- a variable

-- The values, the best first. For a package: the instances chosen for it under other qualifiers, then the others by
-- preference, where orders has those of each package.
abbrev pub order_of : List Package → NameTable → List (List ℕ) → Qual → ℕ → Part → List Choice → List ℕ
order_of packages names orders q p ThePackage trail = with_others (reused trail (package_var q p)) (slice_index_or orders p [])
order_of packages names orders q p (Flag f) trail = better_first (chosen_default names f (entries_of packages p) (chosen trail q p))
order_of packages names orders q p Tests trail = better_first true
order_of packages names orders q p Benches trail = better_first true
