-- the instances so far
use Rattle.std.proofs.Common.{◌≡◌, map, take}
use Rattle.plan_types.specs.declared.index.Entry.{Entry}
use Rattle.solver_index.proofs.orders.instances_of.Given as goal

abbrev pub invariant-loop-entry : goal.invariant-loop-entry
invariant-loop-entry l = l.instances ≡ map (λ (e : Entry). e.instance) (take l.entry-index l.entries)
