-- The chosen instances, flags and stanzas of an index.
use Rattle.std.specs.Prelude.{ℕ, Bool, true, false, List, map, slice_get, Option, Some, None, option_map, option_and_then}
use Rattle.plan_types.specs.declared.condition.Cond.{Cond}
use Rattle.plan_types.specs.declared.condition.Env.{Env}
use Rattle.plan_types.specs.declared.condition.FlagSet.{FlagSet}
use Rattle.plan_types.specs.declared.description.Description.{Description}
use Rattle.plan_types.specs.declared.description.FlagDecl.{FlagDecl}
use Rattle.plan_types.specs.declared.index.Body.{Body}
use Rattle.plan_types.specs.declared.index.Index.{Index}
use Rattle.plan_types.specs.declared.index.Package.{Package}
use Rattle.plan_types.specs.Packages.{entries_of}
use Rattle.conditionals.specs.Paths.{is_wanted}
use Rattle.conditionals.specs.Value.{flag_in, value}
use Rattle.qualified_goals.specs.declared.variable.Part.{Part}
use Rattle.qualified_goals.specs.declared.variable.Part.TheVariants.{Flag}
use Rattle.qualified_goals.specs.declared.variable.Qual.{Qual}
use Rattle.qualified_goals.specs.declared.variable.Var.{Var}
use Rattle.qualified_goals.specs.Names.{NameTable}
use Rattle.choice_problem.specs.Assignment.{Assignment}
use Rattle.choice_problem.specs.Table.{entry}
use Rattle.solver_index.specs.Places.{flag_number}
use Rattle.cabal_problem.specs.Values.{package_var}
use Rattle.cabal_problem.specs.Variables.{is_on}
use Rattle.plan_components.specs.declared.chosen.Chosen.{Chosen}

-- the packages, the numbers of their names, the environment, and the chosen values
pub record Selection : Type 0 where
  pub packages : List Package
  pub names : NameTable
  pub env : Env
  pub value_of : Assignment

-- the selection of an index
abbrev pub selection_from : Index → NameTable → Env → Assignment → Selection
selection_from index names env values = record { packages = index.packages; names = names; env = env; value_of = values }

-- the selection that the code has
abbrev pub selection_of : Chosen → Selection
selection_of chosen = selection_from chosen.index.now chosen.names.now chosen.env.now (entry chosen.values.now)

-- a part of a package under a qualifier
abbrev pub part_var : Qual → ℕ → Part → Var
part_var q p part = record { qual = q; «package» = p; part = part }

-- whether a flag or stanza has a value, and it is on
abbrev pub is_value_on : Option ℕ → Bool
is_value_on None = false
is_value_on (Some n) = is_on n

-- whether a flag or stanza has a chosen value, and it is on
abbrev pub is_turned_on : Selection → Qual → ℕ → Part → Bool
is_turned_on selection q p part = is_value_on (selection.value_of (part_var q p part))

-- a declared flag, with its chosen value
abbrev pub chosen_flag : Selection → Qual → ℕ → FlagDecl → FlagSet
chosen_flag selection q p decl = record { name = decl.name; on = is_turned_on selection q p (Flag (flag_number selection.names decl.name)) }

-- the flags of a description with their chosen values, in the order of their names
abbrev pub chosen_flags : Selection → Qual → ℕ → Description → List FlagSet
chosen_flags selection q p d = map (chosen_flag selection q p) d.flags

-- whether a condition is Yes under some flags
abbrev pub condition_holds : Env → List FlagSet → Cond → Bool
condition_holds env flags cond = is_wanted true (value env (flag_in flags) cond)

-- the description or record of the instance that is chosen for a package under a qualifier
abbrev pub body_at : Selection → Qual → ℕ → Option Body
body_at selection q p =
    let place = selection.value_of (package_var q p) in
    option_map (λ e. e.body) (option_and_then (slice_get (entries_of selection.packages p)) place)
