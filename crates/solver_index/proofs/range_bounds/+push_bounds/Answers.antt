use Rattle.std.proofs.Common.{◌++◌, ◌∷◌, [], append_assoc, ap, ◌∙◌, sym, subst, arith}
use Rattle.plan_types.specs.Members.{members}
use Rattle.solver_index.specs.RangeBounds.{AreBounds}
use Rattle.solver_index.proofs.Calm.{bounds-end, bounds-step}
use Rattle.solver_index.proofs.range_bounds.+push_bounds.Goals as goal
use Rattle.std.proofs.lemmas.Result.{on_ok_weaker}

pub loop-left-preserved : goal.loop-left-preserved
loop-left-preserved t c =
    let inv = c.loop-left.invariant in
    let joint = c.in-Some.ensures.0 in
    let split = c.in-Some.ensures.1 in
    let smaller = split.left_smaller in
    record {
      bounded =
          bounds-step (members c.args.range.now) c.args.entries.now c.args.from c.args.to joint c.loop-left.rest.now c.in-Some.left.now c.in-Some.right.now c.args.bounds.now c.loop-left.bounds c.push_bounds.new.bounds
          split inv.bounded c.in_ok-push_bounds.ensures;
      versions = (split.versions_are inv.versions).0;
      size = omega (arith, smaller, inv.size);
    }

pub returns : goal.returns
returns t c =
    let old = c.loop-left.bounds in
    let found = c.operator_places-first.result in
    let members_of_rest = members c.loop-left.rest.now in
    on_ok_weaker c.push-2.result (λ pushed.
    let new_is = pushed ∙ ap (λ l. l ++ found.1 ∷ []) c.in_ok-push.ensures.ok ∙ append_assoc old (found.0 ∷ []) (found.1 ∷ []) in
    bounds-end (members c.args.range.now) c.args.entries.now c.args.from c.args.to members_of_rest c.args.bounds.now old c.push-2.new.self c.loop-left.invariant.bounded
    (subst (AreBounds members_of_rest c.args.entries.now c.args.from c.args.to old) (sym new_is) (c.operator_places-first.ensures old)))
    c.push-2.ensures.ok
