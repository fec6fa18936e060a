-- Dependencies under conditions.
use Rattle.std.specs.Prelude.{◌≡◌, List, All, Some, map, flat_map, slice_get}
use Rattle.plan_types.specs.declared.condition.Cond.{Cond}
use Rattle.plan_types.specs.declared.dependency.Dep.{Dep}
use Rattle.plan_types.specs.declared.description.DepGroup.{DepGroup}

-- a dependency, and the condition of the branches around it
pub record GuardedDep : Type 0 where
  pub when : Cond
  pub dep : Dep

-- a dependency under a condition
abbrev pub under : Cond → Dep → GuardedDep
under when dep = record { when = when; dep = dep }

-- the dependencies of a group, each under the group's condition
abbrev pub of_group : DepGroup → List GuardedDep
of_group group = map (under group.when) group.deps

abbrev pub in_groups : List DepGroup → List GuardedDep
in_groups = flat_map of_group

-- the condition under which a component is buildable, and its dependencies
pub record Build : Type 0 where
  pub buildable : Cond
  pub deps : List GuardedDep

-- the dependencies of these groups, and the condition of being buildable
abbrev pub build : Cond → List DepGroup → Build
build buildable groups = record { buildable = buildable; deps = in_groups groups }

-- each group's number gives its condition in this table
abbrev pub AreTabled : List Cond → List DepGroup → Type 0
AreTabled conds = All (λ group. slice_get conds group.number ≡ Some group.when)
