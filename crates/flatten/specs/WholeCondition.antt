-- The condition under which a dependency counts.
use Rattle.plan_types.specs.declared.condition.Cond.{Cond}
use Rattle.plan_types.specs.declared.condition.Cond.TheVariants.{And}
use Rattle.plan_types.specs.declared.description.Component.{Component}
use Rattle.plan_types.specs.Guarded.{GuardedDep}

-- its component is buildable, and its branches are taken
abbrev pub whole_condition : Component → GuardedDep → Cond
whole_condition component guarded = And component.build.buildable guarded.when
