use Rattle.std.proofs.Common.{◌≡◌, ◌+◌, ◌*◌, drop}
use Rattle.cabal_lexer.specs.Tree.{tree_of}
use Rattle.older_fields.specs.Refused.{first_fault}
use Rattle.older_fields.proofs.refused.+faults.Given as goal

-- an item's depth, and who calls whom with the same item
abbrev pub decreases-first_fault : goal.decreases-first_fault
decreases-first_fault l = 2 * goal.size-first_fault l + 1

abbrev pub decreases-fault_in : goal.decreases-fault_in
decreases-fault_in l = 2 * goal.size-fault_in l

-- the items so far have no fault
abbrev pub invariant-first_fault-loop-item : goal.invariant-first_fault-loop-item
invariant-first_fault-loop-item l = first_fault l.edition (tree_of (drop l.item-index l.items)) ≡ first_fault l.edition (tree_of l.items)
