-- When a demand counts.
use Rattle.std.specs.Prelude.{Bool, Option, List}
use Rattle.std.specs.List.{list_all}
use Rattle.plan_types.specs.declared.index.Literal.{Literal}
use Rattle.plan_types.specs.declared.index.PartName.{PartName}
use Rattle.plan_types.specs.declared.index.PartName.TheVariants.{Flag}
use Rattle.conditionals.specs.Value.{Flags}
use Rattle.conditionals.specs.Paths.{has_setting}

-- flags and stanzas with their values, as far as they are known
abbrev pub Parts : Type 0
Parts = PartName → Option Bool

-- the flags among them
abbrev pub flags_of : Parts → Flags
flags_of parts name = parts (Flag name)

-- all literals have their values
abbrev pub are_met : Parts → List Literal → Bool
are_met parts = list_all (λ literal. has_setting (parts literal.part) literal.on)
