use Rattle.std.proofs.Common.{◌≡◌, ◌++◌, flat_map, take}
use Rattle.older_rules.specs.Heads.{head_kept, head_told}
use Rattle.older_rules.proofs.heads.push_heads.Given as goal

abbrev pub invariant-loop-item : goal.invariant-loop-item
invariant-loop-item l =
    (l.out ≡ l.initial.out ++ flat_map (head_kept l.edition) (take l.item-index l.heads))
    × (l.changes ≡ l.initial.changes ++ flat_map (head_told l.edition) (take l.item-index l.heads))
