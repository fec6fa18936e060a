use Rattle.std.proofs.Common.{◌≡◌, ◌++◌, ◌+◌, ◌*◌, drop}
use Rattle.std.specs.Prelude.{false}
use Rattle.cabal_lexer.specs.Tree.{tree_of}
use Rattle.older_rules.specs.Bodies.{kept, told}
use Rattle.older_rules.proofs.body.+body.Given as goal

-- an item's depth, and who calls whom with the same item
abbrev pub decreases-rewritten : goal.decreases-rewritten
decreases-rewritten l = 2 * goal.size-rewritten l + 1

abbrev pub decreases-rewrite : goal.decreases-rewrite
decreases-rewrite l = 2 * goal.size-rewrite l

-- the items so far, followed by those of the rest, are those of all
abbrev pub invariant-rewritten-loop-item : goal.invariant-rewritten-loop-item
invariant-rewritten-loop-item l =
    (l.out ++ kept l.inside.edition l.inside.tools.now.entries l.chained (tree_of (drop l.item-index l.items)) ≡ kept l.inside.edition l.inside.tools.now.entries false (tree_of l.items))
    × (l.changes ++ told l.inside.edition l.inside.tools.now.entries l.chained (tree_of (drop l.item-index l.items)) ≡ l.initial.changes ++ told l.inside.edition l.inside.tools.now.entries false (tree_of l.items))
