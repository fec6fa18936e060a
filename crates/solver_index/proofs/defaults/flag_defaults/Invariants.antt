-- the flags so far
use Rattle.std.proofs.Common.{◌≡◌, ℕ, nat_eq, take}
use Rattle.std.specs.Prelude.{find}
use Rattle.std.specs.Option.{option_map}
use Rattle.indexmap.specs.IndexMap.{get}
use Rattle.plan_types.specs.declared.description.FlagDecl.{FlagDecl}
use Rattle.solver_index.specs.Defaults.{has_number}
use Rattle.solver_index.proofs.defaults.flag_defaults.Given as goal

abbrev pub invariant-loop-decl : goal.invariant-loop-decl
invariant-loop-decl l = (f : ℕ) → get nat_eq l.defaults f ≡ option_map (λ (decl : FlagDecl). decl.default) (find (has_number l.names f) (take l.decl-index l.flags))
