-- Twins: which demands must give their targets the same value.
use Rattle.std.specs.Prelude.{ℕ, Bool, true, false, not, ◌&&◌, nat_eq, Option, Some, None}
use Rattle.qualified_goals.specs.declared.variable.Part.{Part}
use Rattle.qualified_goals.specs.declared.variable.Part.TheVariants.{Package, Flag, Tests, Benches}
use Rattle.qualified_goals.specs.declared.variable.Var.{Var}
use Rattle.qualified_goals.specs.Variable.{same_var}
use Rattle.choice_problem.specs.declared.problem.Choice.{Choice}

-- whether a part is the package itself
abbrev pub is_whole : Part → Bool
is_whole Package = true
is_whole (Flag n) = false
is_whole Tests = false
is_whole Benches = false

-- whether a choice is of the instance of a package, under any qualifier
abbrev pub is_of_package : ℕ → Choice → Bool
is_of_package n c = is_whole c.var.part && nat_eq c.var.«package» n

-- a variable under the qualifier of a choice
abbrev pub under : Choice → Var → Var
under c v = record v { qual = c.var.qual }

-- whether two choices take the same instance of one package, under different qualifiers
abbrev pub are_twins : Choice → Choice → Bool
are_twins c d = is_whole c.var.part && (same_var (under d c.var) d.var && (not (same_var c.var d.var) && nat_eq c.val d.val))

-- whether the choices are twins, and both targets are one part of one package, each under its own choice's qualifier
abbrev pub ask_alike : Choice → Var → Choice → Var → Bool
ask_alike c v d w = are_twins c d && (same_var (under c v) v && same_var (under d v) w)

-- Whether two demands must agree, by their owners and targets. A root has no owner.
abbrev pub must_agree : Option Choice → Var → Option Choice → Var → Bool
must_agree None v other w = false
must_agree (Some c) v None w = false
must_agree (Some c) v (Some d) w = ask_alike c v d w

-- whether two variables have values that differ
abbrev pub differ : Option ℕ → Option ℕ → Bool
differ None n = false
differ (Some m) None = false
differ (Some m) (Some n) = not (nat_eq m n)
