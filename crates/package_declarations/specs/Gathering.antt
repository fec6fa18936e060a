-- The state gathered from the parts of a component.
use Rattle.std.specs.Prelude.{◌≡◌, if◌then◌else◌, length, List, [], ◌∷◌, ◌++◌, map, take, slice_get, Option, None, Some, IfSome}
use Rattle.plan_types.specs.Guarded.{AreTabled, GuardedDep, in_groups, of_group}
use Rattle.plan_types.specs.declared.condition.Cond.{Cond}
use Rattle.plan_types.specs.declared.condition.Cond.TheVariants.{Always, Not}
use Rattle.plan_types.specs.declared.description.DepGroup.{DepGroup}
use Rattle.section_syntax.specs.Branch.{all_of, condition}
use Rattle.section_syntax.specs.declared.branch.Branch.{Branch}
use Rattle.section_syntax.specs.declared.part.Said.{Said}
use Rattle.section_syntax.specs.declared.part.SectionPart.{SectionPart}
use Rattle.package_declarations.specs.Components.{unbuildable_said}
use Rattle.package_declarations.specs.Levels.{AreLevels, IsNumbered}
use Rattle.package_declarations.specs.declared.gathered.Gathered.{Gathered}
use Rattle.package_declarations.specs.declared.gathered.Groups.{Groups}

-- the dependencies of an optional group
abbrev pub in_group : Option DepGroup → List GuardedDep
in_group None = []
in_group (Some group) = of_group group

-- the dependencies gathered so far
abbrev pub deps_in : Groups → List GuardedDep
deps_in groups = in_groups groups.closed ++ in_group groups.current

-- each group has the number of its condition in the table
pub record GroupsTabled (conds : List Cond) (groups : Groups) : Type 0 where
  pub closed : AreTabled conds groups.closed
  pub current : IfSome groups.current (λ group. slice_get conds group.number ≡ Some group.when)

-- the conjunction of some conditions; none if there are none
abbrev pub joined_some : List Cond → Option Cond
joined_some [] = None
joined_some (cond ∷ conds) = Some (all_of (cond ∷ conds))

-- the negated place of a part that is `buildable: False`
abbrev pub bars : Said → Cond → List Cond
bars said place = if unbuildable_said said then Not place ∷ [] else []

-- the condition under which a part counts: its branches, the outermost of the open ones, are taken
abbrev pub place_in : List Branch → SectionPart → Cond
place_in opened part = all_of (map condition (take (length part.branches) opened))

-- the state represents these branches, open or closed last, and these bars
pub record RepresentsState (gathered : Gathered) (opened : List Branch) (barred : List Cond) : Type 0 where
  pub root : slice_get gathered.conds 0 ≡ Some Always
  pub levels : AreLevels gathered.conds [] gathered.levels opened
  pub groups : GroupsTabled gathered.conds gathered.groups
  pub free : IsNumbered gathered.conds gathered.barred (joined_some barred)
