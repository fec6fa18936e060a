use Rattle.std.proofs.Common.{[], get_or, sym, subst, ap, ◌∙◌, length, not, ◌<◌, ◌+◌}
use Rattle.std.specs.Prelude.{count_by}
use Rattle.broken_units.proofs.Marked.{Marks}
use Rattle.broken_units.proofs.Search.{Search, search_begins, search_goes, search_less, search_ends}
use Rattle.broken_units.proofs.marks.leading.Goals as goal

pub loop-node-init : goal.loop-node-init
loop-node-init c =
    let copied = c.from_vec-led.ensures ∙ c.in_ok-to_vec.ensures.items_if_clones_equal (λ x y e. e) in
    subst (λ led. Search c.args.needs.now c.args.marked.now led c.in_ok-waiting.waiting) (sym copied)
    (search_begins c.args.needs.now c.args.marked.now c.in_ok-waiting.waiting c.requires c.in_ok-waiting.ensures)

pub loop-node-preserved : goal.loop-node-preserved
loop-node-preserved c =
    let users = c.in_ok-users in
    let mark = c.in_ok-mark_all.ensures in
    let marks = subst (λ g. Marks g c.loop-node.led c.mark_all.new.led c.pop.new.self c.mark_all.new.waiting) (c.users_at.ensures ∙ ap (λ us. get_or us c.in-Some.node []) c.as_slice.ensures.value)
    (record { same = mark.length; marked = mark.marked; waiting = mark.waiting; less = mark.less }) in
    search_goes c.args.needs.now c.args.marked.now users.users.items users.ensures.1 c.loop-node.led c.mark_all.new.led c.pop.new.self c.mark_all.new.waiting c.in-Some.node
    (subst (λ w. Search c.args.needs.now c.args.marked.now c.loop-node.led w) c.in-Some.ensures c.loop-node.invariant) marks

pub loop-node-smaller : goal.loop-node-smaller
loop-node-smaller c =
    let mark = c.in_ok-mark_all.ensures in
    subst (λ w. count_by not c.mark_all.new.led + length c.mark_all.new.waiting < count_by not c.loop-node.led + length w) (sym c.in-Some.ensures)
    (search_less c.loop-node.led c.mark_all.new.led c.pop.new.self c.mark_all.new.waiting c.in-Some.node mark.less)

pub returns : goal.returns
returns c =
    let all = search_ends c.args.needs.now c.args.marked.now c.loop-node.led (subst (λ w. Search c.args.needs.now c.args.marked.now c.loop-node.led w) c.in_default.ensures.0 c.loop-node.invariant) in
    record { length = all.0; leads = all.1 }
