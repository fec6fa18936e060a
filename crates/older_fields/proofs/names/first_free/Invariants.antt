use Rattle.std.proofs.Common.{◌≡◌}
use Rattle.older_fields.specs.Names.{candidates, first_free}
use Rattle.older_fields.proofs.names.first_free.Given as goal

-- the rest of the tries gives the name
abbrev pub invariant-loop-left : goal.invariant-loop-left
invariant-loop-left l = first_free l.taken.keys (candidates l.left l.name) ≡ first_free l.taken.keys (candidates 16 l.fn.name)

abbrev pub decreases-loop-left : goal.decreases-loop-left
decreases-loop-left l = l.left
