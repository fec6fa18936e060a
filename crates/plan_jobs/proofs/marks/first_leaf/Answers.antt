use Rattle.plan_jobs.proofs.Tree.{none_marked, to_left, to_right, arrives}
use Rattle.plan_jobs.proofs.marks.first_leaf.Goals as goal

pub returns-then-not-tree : goal.returns-then-not-tree
returns-then-not-tree c = none_marked c.args.width c.args.tree.now c.requires c.if-not-tree.true

pub loop-at-preserved-then-tree-at : goal.loop-at-preserved-then-tree-at
loop-at-preserved-then-tree-at c = to_left c.args.width c.args.tree.now c.requires c.loop-at.at c.loop-at-test.true c.loop-at.invariant c.if-tree-at.true

pub loop-at-preserved : goal.loop-at-preserved
loop-at-preserved c = to_right c.args.width c.args.tree.now c.requires c.loop-at.at c.loop-at-test.true c.loop-at.invariant c.if-tree-at.false

pub returns : goal.returns
returns c = arrives c.args.width c.args.tree.now c.requires c.loop-at.at c.loop-at-test.false c.loop-at.invariant
