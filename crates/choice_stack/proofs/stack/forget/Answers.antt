use Rattle.std.proofs.Common.{◌<◌, ◌≤◌, ◌∷◌, [], ◌∙◌, sym, ap, take, length, arith, length-append}
use Rattle.std.proofs.lemmas.List.{take-append-le}
use Rattle.goal_links.proofs.LastItems.{last-split}
use Rattle.choice_stack.proofs.stack.forget.Goals as goal

pub loop-goals-smaller : goal.loop-goals-smaller
loop-goals-smaller c =
    let some : 0 < length c.loop-goals.goals.said = omega (arith, c.loop-goals-test.true, c.len.ensures) in
    let split = last-split c.loop-goals.goals.said some in
    let less = c.forget_last.ensures.active split.0 split.1 split.2 in
    omega (arith, ap length less, ap length split.2, length-append split.0 (split.1 ∷ []))

pub loop-goals-preserved : goal.loop-goals-preserved
loop-goals-preserved c =
    let some : 0 < length c.loop-goals.goals.said = omega (arith, c.loop-goals-test.true, c.len.ensures) in
    let split = last-split c.loop-goals.goals.said some in
    let less = c.forget_last.ensures.active split.0 split.1 split.2 in
    let within : c.args.len ≤ length split.0 = omega (arith, c.loop-goals-test.true, c.len.ensures, ap length split.2, length-append split.0 (split.1 ∷ [])) in
    record {
      first =
          ap (take c.args.len) less ∙ sym (take-append-le c.args.len split.0 (split.1 ∷ []) within) ∙ ap (take c.args.len) (sym split.2)
          ∙ c.loop-goals.invariant.first;
      opened = c.forget_last.ensures.opened;
      kept = λ n v sides chosen k. c.forget_last.ensures.kept n v sides chosen (c.loop-goals.invariant.kept n v sides chosen k);
    }
