use Rattle.std.proofs.Common.{◌≡◌, ◌+◌, ◌-◌, ◌<◌, ◌∙◌, drop, false, length, subst, sym, ap, arith}
use Rattle.std.proofs.lemmas.Bool.{not-true}
use Rattle.choice_problem.specs.ConflictSet.{has}
use Rattle.goal_links.proofs.VariableKeys.{added, found-has}
use Rattle.choice_stack.specs.Stack.{are_once}
use Rattle.choice_stack.proofs.OnceNamed.{HasVars, once-more, vars-more}
use Rattle.choice_stack.proofs.growth.are_surely_once.Goals as goal

pub loop-place-preserved : goal.loop-place-preserved
loop-place-preserved c =
    let when = c.args.when.now in
    let keys = c.loop-place.behind.keys in
    let before = c.loop-place.place in
    let kept = c.loop-place.invariant in
    let test = c.loop-place-test.true in
    let place = before - 1 in
    let back : before ≡ place + 1 = omega (arith, test) in
    let within : place < length when = omega (arith, kept.within, test) in
    let once = ap (λ n. are_once (drop n when)) (sym back) ∙ kept.once in
    let vars = subst (λ n. HasVars keys (drop n when)) back kept.vars in
    let new : has keys _ ≡ false = sym (found-has keys _) ∙ not-true _ (sym c.in_ok-insert.ensures.added ∙ c.if-not-branch.false) in
    record {
      within = omega (arith, kept.within);
      once = once-more when place _ within keys vars once new;
      vars = vars-more when place _ within keys _ vars (added keys _ _ new c.in_ok-insert.ensures.keys);
    }
