-- the flags so far
use Rattle.std.proofs.Common.{◌≡◌, map, take}
use Rattle.plan_types.specs.declared.description.FlagDecl.{FlagDecl}
use Rattle.solver_index.specs.Places.{flag_number}
use Rattle.solver_index.proofs.sources.flag_numbers.Given as goal

abbrev pub invariant-loop-decl : goal.invariant-loop-decl
invariant-loop-decl l = l.numbers ≡ map (λ (decl : FlagDecl). flag_number l.names decl.name) (take l.decl-index l.flags)
