use Rattle.std.proofs.Common.{◌++◌, flat_map, sym, ap, ◌∙◌}
use Rattle.std.specs.Prelude.{filter}
use Rattle.plan_components.specs.Chosen.{selection_of}
use Rattle.plan_components.specs.Needs.{dep_needs, is_asked}
use Rattle.plan_components.proofs.Turns.{turn_yes, turn_no}
use Rattle.plan_components.proofs.needs.push_asked.Goals.{then-is_asked+in_ok-push_dep, else-is_asked}
use Rattle.plan_components.proofs.needs.push_asked.Goals as goal

pub loop-dep-preserved : goal.loop-dep-preserved
loop-dep-preserved c =
    let of_one = dep_needs (selection_of c.args.chosen.now) c.args.owner.now.node in
    let items = c.args.deps.now in
    let test = is_asked c.args.own in
    let total = c.args.needs.now ++ flat_map of_one (filter test items) in
    elim c.if-is_asked.branch [
      | then-is_asked+in_ok-push_dep w ↦
          turn_yes of_one items c.loop-dep.dep-index c.dep-item.result c.loop-dep-test.true c.dep-item.is test
          c.loop-dep.needs c.if-is_asked.needs total c.loop-dep.invariant (ap test (sym c.get.ensures) ∙ sym c.is_asked.ensures ∙ w.if-is_asked.true)
          (w.needs-is ∙ w.in_ok-push_dep.ensures ∙ ap (λ dep. c.loop-dep.needs ++ of_one dep) w.get-then-is_asked.ensures)
      | else-is_asked w ↦
          turn_no of_one items c.loop-dep.dep-index c.dep-item.result c.loop-dep-test.true c.dep-item.is test
          c.loop-dep.needs c.if-is_asked.needs total c.loop-dep.invariant (ap test (sym c.get.ensures) ∙ sym c.is_asked.ensures ∙ w.if-is_asked.false) w.needs-is
    ]
