use Rattle.std.proofs.Common.{[], ◌∷◌, ◌++◌, ap, ◌∙◌}
use Rattle.goal_links.specs.declared.ring.RingNode.{RingNode}
use Rattle.goal_links.specs.Row.{with_node}
use Rattle.goal_links.proofs.Rows.{row-pushed, row-line}
use Rattle.goal_links.proofs.row.LinkRow.add.Goals as goal

pub invariant_of-self-2 : goal.invariant_of-self-2
invariant_of-self-2 c =
    let items = c.in_ok-push.ensures.items ∙ ap (λ (n : RingNode). c.self.inside.nodes.items ++ n ∷ []) c.alone.ensures in
    (row-pushed c.self.inside.ends c.self.inside.nodes.items c.push.new.self.items items c.self.invariant).0

pub returns-clause-ok : goal.returns-clause-ok
returns-clause-ok c =
    let items = c.in_ok-push.ensures.items ∙ ap (λ (n : RingNode). c.self.inside.nodes.items ++ n ∷ []) c.alone.ensures in
    let row = row-pushed c.self.inside.ends c.self.inside.nodes.items c.push.new.self.items items c.self.invariant in
    row-line c.self.inside.ends c.push.new.self.items _ _ row ∙ ap with_node c.self.view_is
