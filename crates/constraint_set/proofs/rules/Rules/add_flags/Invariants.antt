-- what the flags so far are set to
use Rattle.std.proofs.Common.{◌≡◌, ℕ, ◌++◌, nat_eq, take, [], if◌then◌else◌}
use Rattle.qualified_goals.specs.declared.variable.Part.{Part}
use Rattle.constraint_set.specs.Bars.{set_values}
use Rattle.constraint_set.specs.Rules.{settings_as, settings_at}
use Rattle.constraint_set.proofs.rules.Rules.add_flags.Given as goal

abbrev pub invariant-loop-set : goal.invariant-loop-set
invariant-loop-set l = (l.self.packages ≡ l.fn.self.packages)
    × ((p : ℕ) (part : Part) → settings_at l.self.parts p part ≡ settings_at l.fn.self.parts p part ++ (if nat_eq l.«package» p then settings_as l.scope (set_values l.fn.names (take l.set-index l.sets) part) else []))
