-- the variables lose their next ranks one after another
use Rattle.std.proofs.Common.{◌≡◌, ◌<◌, ◌∙◌, ◌+◌, ◌-◌, length, take, ap, sym, subst, arith}
use Rattle.count_search.specs.Ranks.{AreBetween, raised_all}
use Rattle.count_search.proofs.Scores.{none-between, next-one, not-yet}
use Rattle.count_search.proofs.counting.Counting.withdraw_first.Goals as goal

pub loop-left-preserved : goal.loop-left-preserved
loop-left-preserved c =
    let vars = c.args.vars.now in
    let i = c.loop-left.left - 1 in
    let within : i < length vars = omega (arith, c.loop-left-test.true, c.loop-left.invariant.within, c.requires.within) in
    let on : i + 1 ≡ c.loop-left.left = omega (arith, c.loop-left-test.true) in
    let old = c.loop-left.self in
    record {
      within = omega (arith, c.loop-left.invariant.within);
      back = λ scores trail are.
          c.withdraw.ensures scores (raised_all (take i vars) scores) trail (not-yet vars c.requires.rising scores i _ within)
          (subst (λ f. AreBetween old.records old.ranks scores f trail)
          (ap (λ n. raised_all (take n vars) scores) (sym on) ∙ next-one vars c.requires.rising scores i _ within)
          (c.loop-left.invariant.back scores trail are));
    }

pub returns : goal.returns
returns c scores trail are =
    let self = c.loop-left.self in
    let none : c.loop-left.left ≡ 0 = omega (arith, c.loop-left-test.false) in
    none-between self.records self.ranks scores trail
    (subst (λ n. AreBetween self.records self.ranks scores (raised_all (take n c.args.vars.now) scores) trail) none (c.loop-left.invariant.back scores trail are))
