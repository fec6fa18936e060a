use Rattle.goal_links.proofs.Nodes.{stands-without}
use Rattle.goal_links.proofs.links.in_front.Goals as goal

pub returns-in-Some : goal.returns-in-Some
returns-in-Some c = stands-without c.in-Some.n c.args.row.now.linked c.prev.result c.prev.ensures
