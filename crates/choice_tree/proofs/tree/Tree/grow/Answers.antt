-- a new node is appended to nodes that have given a value
use Rattle.std.proofs.Common.{sym, subst, arith}
use Rattle.choice_tree.specs.Tree.{fresh, IsGrown, HasGiven}
use Rattle.choice_tree.proofs.NodePaths.{grown-push}
use Rattle.choice_tree.proofs.tree.Tree.grow.Goals as goal

pub invariant_of-self-2 : goal.invariant_of-self-2
invariant_of-self-2 c =
    subst IsGrown (sym c.in_ok-push.ensures.items)
    (grown-push c.self.inside.nodes.items (fresh c.args.var c.args.values) c.self.invariant (subst HasGiven (sym c.self.view_is) c.requires) (omega arith))
