-- The value of a condition.
use Rattle.std.specs.Prelude.{ℕ, Bool, true, false, ◌&&◌, if◌then◌else◌, Option, None, Some, is_none, List, [], ◌∷◌}
use Rattle.plan_types.specs.declared.condition.Cond.{Cond}
use Rattle.plan_types.specs.declared.condition.Cond.TheOpen.{Cond-F, Always, Never, Flag, Os, Arch, Impl, Not, And, Or}
use Rattle.plan_types.specs.declared.condition.Cond.TheFolds.{fold-Cond}
use Rattle.plan_types.specs.declared.condition.Env.{Env}
use Rattle.plan_types.specs.declared.condition.FlagSet.{FlagSet}
use Rattle.conditionals.specs.declared.value.Tri.{Tri}
use Rattle.conditionals.specs.declared.value.Tri.TheVariants.{Yes, No, Unknown}
use Rattle.conditionals.specs.Environment.{is_system, is_processor, is_compiler}
use Rattle.plan_types.specs.Bytes.{same_text}

-- a partial assignment of flags, by their names
abbrev pub Flags : Type 0
Flags = List ℕ → Option Bool

-- the value of a boolean
abbrev pub tri_of : Bool → Tri
tri_of true = Yes
tri_of false = No

-- the value of a flag under its assignment
abbrev pub flag_value : Option Bool → Tri
flag_value None = Unknown
flag_value (Some on) = tri_of on

-- a choice by a value: `if_yes`, `if_no` or Unknown
abbrev pub answer : Tri → Tri → Tri → Tri
answer if_yes if_no Yes = if_yes
answer if_yes if_no No = if_no
answer if_yes if_no Unknown = Unknown

-- the value of `!`
abbrev pub negated : Tri → Tri
negated Yes = No
negated No = Yes
negated Unknown = Unknown

-- the value of `&&`; the right side counts only if the left side is Yes
abbrev pub and_then : Tri → Tri → Tri
and_then Yes right = right
and_then No right = No
and_then Unknown right = Unknown

-- the value of `||`; the right side counts only if the left side is No
abbrev pub or_else : Tri → Tri → Tri
or_else Yes right = Yes
or_else No right = right
or_else Unknown right = Unknown

-- the value of one layer of a condition, from those of its parts
abbrev pub value_step : Env → Flags → Cond-F Tri → Tri
value_step env flags Always = Yes
value_step env flags Never = No
value_step env flags (Flag name) = flag_value (flags name)
value_step env flags (Os name) = tri_of (is_system env name)
value_step env flags (Arch name) = tri_of (is_processor env name)
value_step env flags (Impl name range) = tri_of (is_compiler env name range)
value_step env flags (Not inner) = negated inner
value_step env flags (And left right) = and_then left right
value_step env flags (Or left right) = or_else left right

-- the value of a condition under a partial assignment of flags
abbrev pub value : Env → Flags → Cond → Tri
value env flags = fold-Cond Tri (value_step env flags)

-- the partial assignment of a list of settings
abbrev pub flag_in : List FlagSet → Flags
flag_in [] name = None
flag_in (flag ∷ flags) name = if same_text flag.name name then Some flag.on else flag_in flags name

-- no flag is twice in the list
abbrev pub each_once : List FlagSet → Bool
each_once [] = true
each_once (flag ∷ flags) = is_none (flag_in flags flag.name) && each_once flags
