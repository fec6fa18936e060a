use Rattle.older_layout.proofs.OneOlderTree.{tree_found, fault_found}
use Rattle.older_layout.proofs.read.read_older.Goals as goal

pub returns-clause-exactly_trees : goal.returns-clause-exactly_trees
returns-clause-exactly_trees c = tree_found c.args.bytes.now c.read_tree.result c.read_tree.ensures.tree c.read_tree.ensures.fault

pub returns-clause-exactly_faults : goal.returns-clause-exactly_faults
returns-clause-exactly_faults c = fault_found c.args.bytes.now c.read_tree.result c.read_tree.ensures.tree c.read_tree.ensures.fault
