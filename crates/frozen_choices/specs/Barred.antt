-- Choices that constraints bar.
use Rattle.std.specs.Prelude.{◌≡◌, Bool, false, not, ◌&&◌, List, Contains}
use Rattle.std.specs.List.{list_any}
use Rattle.plan_types.specs.declared.constraint.Constraint.{Constraint}
use Rattle.plan_types.specs.declared.index.Package.{Package}
use Rattle.qualified_goals.specs.declared.variable.Part.{Part}
use Rattle.qualified_goals.specs.declared.variable.Part.TheVariants.{Package as ThePackage, Flag, Tests, Benches}
use Rattle.qualified_goals.specs.Names.{NameTable}
use Rattle.choice_problem.specs.declared.problem.Choice.{Choice}
use Rattle.constraint_set.specs.Bars.{requires_value, excludes, applies}
use Rattle.cabal_problem.specs.Variables.{is_on}
use Rattle.frozen_choices.specs.Frozen.{entry_of}

-- whether a constraint in scope excludes the instance of a choice
abbrev pub excludes_choice : List Package → NameTable → List Constraint → Choice → Bool
excludes_choice packages names constraints c = list_any (λ k. applies names k c.var && excludes k.what (entry_of packages c).instance) constraints

-- whether a constraint in scope asks for the other value of a flag or stanza
abbrev pub asks_for_other : NameTable → List Constraint → Choice → Bool
asks_for_other names constraints c = list_any (λ k. applies names k c.var && requires_value names k.what c.var.part (not (is_on c.val))) constraints

-- whether these constraints bar a choice
abbrev pub bars_choice : List Package → NameTable → List Constraint → Choice → Part → Bool
bars_choice packages names constraints c ThePackage = excludes_choice packages names constraints c
bars_choice packages names constraints c (Flag f) = asks_for_other names constraints c
bars_choice packages names constraints c Tests = asks_for_other names constraints c
bars_choice packages names constraints c Benches = asks_for_other names constraints c

-- constraints bar no choice of a trail
abbrev pub BarsNone : List Package → NameTable → List Constraint → List Choice → Type 0
BarsNone packages names constraints trail = (c : Choice) → Contains trail c → bars_choice packages names constraints c c.var.part ≡ false
