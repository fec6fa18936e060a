-- What a part gives to its section, apart from dependencies and branches.
use Rattle.std.specs.Prelude.{Bool, true, false, not, Option, Some, None}
use Rattle.section_syntax.specs.declared.part.Said.{Said}
use Rattle.section_syntax.specs.declared.part.Said.TheVariants as said

-- the value of each field, none for other fields and bad values
pub record Given : Type 0 where
  pub visibility : Option Bool
  pub default : Option Bool
  pub manual : Option Bool
  pub unbuildable : Bool
  pub dependency : Bool

-- what a part gives that has none of these fields
abbrev pub nothing : Given
nothing = record { visibility = None; default = None; manual = None; unbuildable = false; dependency = false }

-- what a part gives
abbrev pub given : Said → Given
given (said.Import names fits) = nothing
given (said.Depends deps) = record nothing { dependency = true }
given (said.Buildable None) = nothing
given (said.Buildable (Some value)) = record nothing { unbuildable = not value }
given (said.Visibility value) = record nothing { visibility = value }
given (said.Default value) = record nothing { default = value }
given (said.Manual value) = record nothing { manual = value }
given said.BuildTools = nothing
given (said.Branch word condition fits) = nothing
given said.Misplaced = nothing
