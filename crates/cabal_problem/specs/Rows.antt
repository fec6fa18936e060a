-- The demands of a choice, from the rows of the tables.
use Rattle.std.specs.Prelude.{ℕ, Bool, true, ◌&&◌, List, [], ◌∷◌, ◌++◌, flat_map, map, if◌then◌else◌}
use Rattle.std.specs.List.{list_all}
use Rattle.plan_types.specs.declared.dependency.DepKind.{DepKind}
use Rattle.plan_types.specs.declared.dependency.DepKind.TheVariants as kind
use Rattle.plan_types.specs.declared.description.Description.{Description}
use Rattle.plan_types.specs.declared.description.FlagDecl.{FlagDecl}
use Rattle.plan_types.specs.declared.index.Package.{Package as ThePackage}
use Rattle.plan_types.specs.declared.project.Project.{Project}
use Rattle.qualified_goals.specs.declared.variable.Part.{Part}
use Rattle.qualified_goals.specs.declared.variable.Part.TheVariants.{Package, Flag, Tests, Benches}
use Rattle.qualified_goals.specs.Names.{NameTable}
use Rattle.choice_problem.specs.declared.problem.Choice.{Choice}
use Rattle.choice_problem.specs.declared.problem.Demand.{Demand}
use Rattle.solver_index.specs.declared.dependencies.Dependencies.{Dependencies}
use Rattle.solver_index.specs.declared.dependencies.ConditionalDep.{ConditionalDep}
use Rattle.solver_index.specs.declared.dependencies.UnitNeed.{UnitNeed}
use Rattle.solver_index.specs.declared.dependencies.Setting.{Setting}
use Rattle.solver_index.specs.declared.dependencies.Target.{Target}
use Rattle.cabal_problem.specs.Variables.{has_kind, is_benchmark, is_suite}
use Rattle.cabal_problem.specs.Values.{package_var}
use Rattle.cabal_problem.specs.ListedDemands.{flag_values, has_stanzas, part_beside, qual_for, setup_if, stanza_if}

-- what each item makes with the row at its index
abbrev pub in_pairs : {X Y Z : Type 0} → (X → Y → List Z) → List X → List Y → List Z
in_pairs make [] rows = []
in_pairs make (x ∷ xs) [] = []
in_pairs make (x ∷ xs) (y ∷ rows) = make x y ++ in_pairs make xs rows

-- the demand on a flag with this number
abbrev pub flag_row : Project → NameTable → Choice → FlagDecl → ℕ → List Demand
flag_row project names owner decl f = record { when = owner ∷ []; target = part_beside owner (Flag f); allowed = flag_values project names (part_beside owner (Flag f)) decl } ∷ []

-- a setting as a choice beside the owner
abbrev pub choice_at : Choice → Setting → Choice
choice_at owner setting = record { var = part_beside owner setting.part; val = setting.val }

-- the demand on a target under this condition
abbrev pub target_demand : Choice → List Choice → DepKind → Target → Demand
target_demand owner when kind target = record {
  when = when;
  target = package_var (qual_for kind owner.var target.«package») target.«package»;
  allowed = target.allowed;
}

-- the demand of a dependency, if it can count
abbrev pub has_variable : Bool → Part → Bool
has_variable stanzas Package = true
has_variable stanzas (Flag f) = true
has_variable stanzas Tests = stanzas
has_variable stanzas Benches = stanzas

-- whether all these parts have variables
abbrev pub can_be_set : Bool → List Setting → Bool
can_be_set stanzas settings = list_all (λ setting. has_variable stanzas setting.part) settings

-- the demand of a dependency that can count
abbrev pub dep_row : Bool → Choice → ConditionalDep → List Demand
dep_row stanzas owner dep =
    if can_be_set stanzas dep.when then target_demand owner (owner ∷ map (choice_at owner) dep.when) dep.kind dep.target ∷ [] else []

-- the demand of a setup dependency
abbrev pub setup_demand_to : Choice → Target → Demand
setup_demand_to owner target = target_demand owner (owner ∷ []) kind.Setup target

-- the demand on a unit
abbrev pub need_demand : Choice → UnitNeed → Demand
need_demand owner need = record { when = owner ∷ []; target = package_var owner.var.qual need.«package»; allowed = need.allowed }

-- the demands of a source instance
abbrev pub source_rows : List ThePackage → Project → NameTable → Choice → Dependencies → Description → List Demand
source_rows packages project names owner dependencies d =
    in_pairs (flag_row project names owner) d.flags dependencies.flags
    ++ stanza_if (has_stanzas packages owner.var && has_kind is_suite d) owner Tests
    ++ stanza_if (has_stanzas packages owner.var && has_kind is_benchmark d) owner Benches
    ++ flat_map (dep_row (has_stanzas packages owner.var) owner) dependencies.deps
    ++ setup_if d.custom (map (setup_demand_to owner) dependencies.setup)
