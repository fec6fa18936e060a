use Rattle.std.proofs.Common.{sym, ◌∙◌}
use Rattle.plan_nodes.proofs.Kept.{new_id}
use Rattle.plan_nodes.proofs.once.told_by_id.Goals as goal

pub returns-in-None-clause-line : goal.returns-in-None-clause-line
returns-in-None-clause-line c = sym (new_id c.args.node.now c.args.ids.now.keys c.args.kept.now c.requires (sym c.is_plain.ensures ∙ c.if-not-is_plain.false) (sym c.in-None.ensures.found))
