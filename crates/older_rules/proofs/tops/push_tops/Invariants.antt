use Rattle.std.proofs.Common.{◌≡◌, ◌++◌, drop}
use Rattle.cabal_lexer.specs.Tree.{tree_of}
use Rattle.older_rules.specs.Tops.{tops, tops_told}
use Rattle.older_rules.proofs.tops.push_tops.Given as goal

-- the items so far, followed by those of the rest, are those of all
abbrev pub invariant-loop-item : goal.invariant-loop-item
invariant-loop-item l =
    (l.out ++ tops l.rewriting.edition l.rewriting.tools.now.entries l.rewriting.names.now.entries (tree_of (drop l.item-index l.items))
    ≡ l.initial.out ++ tops l.rewriting.edition l.rewriting.tools.now.entries l.rewriting.names.now.entries (tree_of l.items))
    × (l.changes ++ tops_told l.rewriting.edition l.rewriting.tools.now.entries (tree_of (drop l.item-index l.items))
    ≡ l.initial.changes ++ tops_told l.rewriting.edition l.rewriting.tools.now.entries (tree_of l.items))
