use Rattle.goal_links.proofs.Chained.{next-told, next-tells}
use Rattle.goal_links.proofs.chains.Chains.next.Goals as goal

pub returns-clause-next : goal.returns-clause-next
returns-clause-next c = next-told c.self.inside.ends.items c.self.inside.nodes.items c.self.inside.cells.items c.self.invariant c.args.self.now c.self.view_is c.args.cell c.requires.cell c.requires.linked c.index.result.now c.index.ensures

pub returns-clause-within : goal.returns-clause-within
returns-clause-within c = (next-tells c.self.inside.ends.items c.self.inside.nodes.items c.self.inside.cells.items c.self.invariant c.args.self.now c.self.view_is c.args.cell c.requires.cell c.requires.linked c.index.result.now c.index.ensures).within

pub returns-clause-linked : goal.returns-clause-linked
returns-clause-linked c = (next-tells c.self.inside.ends.items c.self.inside.nodes.items c.self.inside.cells.items c.self.invariant c.args.self.now c.self.view_is c.args.cell c.requires.cell c.requires.linked c.index.result.now c.index.ensures).linked

pub returns-clause-owner : goal.returns-clause-owner
returns-clause-owner c = (next-tells c.self.inside.ends.items c.self.inside.nodes.items c.self.inside.cells.items c.self.invariant c.args.self.now c.self.view_is c.args.cell c.requires.cell c.requires.linked c.index.result.now c.index.ensures).owner
