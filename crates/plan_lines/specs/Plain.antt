-- Nodes that are buildable under all flags.
use Rattle.std.specs.Prelude.{◌≡◌, List, Option, false}
use Rattle.plan_types.specs.declared.condition.Env.{Env}
use Rattle.plan_types.specs.declared.condition.FlagSet.{FlagSet}
use Rattle.plan_types.specs.declared.description.Component.{Component}
use Rattle.plan_components.specs.declared.node.Piece.{Piece}
use Rattle.plan_lines.specs.Line.{is_unbuildable_one, is_unbuildable}

-- a component is buildable under all flags
abbrev pub IsAlwaysBuildable : Option Component → Type 0
IsAlwaysBuildable component = (env : Env) (flags : List FlagSet) → is_unbuildable_one env flags component ≡ false

-- a piece of a package is buildable under all flags
abbrev pub AreAlwaysBuildable : List Component → Piece → Type 0
AreAlwaysBuildable components piece = (env : Env) (flags : List FlagSet) → is_unbuildable env flags components piece ≡ false
