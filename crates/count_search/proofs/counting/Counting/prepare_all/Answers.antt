-- the variables get their next ranks one after another, or none does
use Rattle.std.proofs.Common.{◌<◌, ◌∙◌, length, take, sym, subst, arith}
use Rattle.std.proofs.lemmas.List.{take_all}
use Rattle.choice_problem.proofs.InfallibleCalls.{ok-where}
use Rattle.count_search.specs.Ranks.{AreBetween, raised_all}
use Rattle.count_search.proofs.Scores.{between-none, err-where, next-one, not-yet}
use Rattle.count_search.proofs.counting.Counting.prepare_all.Goals as goal

pub loop-place-init : goal.loop-place-init
loop-place-init c scores are = between-none c.args.self.now.records c.args.self.now.ranks scores c.args.trail.now are

pub returns-then-is_err-clause-err : goal.returns-then-is_err-clause-err
returns-then-is_err-clause-err c scores are =
    c.withdraw_first.ensures scores c.args.trail.now
    (err-where c.prepare.result c.prepare.ensures.err (sym c.is_err.ensures.value ∙ c.if-is_err.true) scores (raised_all (take c.loop-place.place c.args.vars.now) scores)
    (c.loop-place.invariant scores are))

pub loop-place-preserved : goal.loop-place-preserved
loop-place-preserved c scores are =
    let vars = c.args.vars.now in
    let i = c.loop-place.place in
    let within : i < length vars = omega (arith, c.loop-place-test.true) in
    let new = c.prepare.new.self in
    subst (λ f. AreBetween new.records new.ranks scores f c.args.trail.now) (sym (next-one vars c.requires scores i _ within))
    (ok-where c.prepare.result c.prepare.ensures.ok (sym c.is_err.ensures.value ∙ c.if-is_err.false) scores (raised_all (take i vars) scores)
    (not-yet vars c.requires scores i _ within) (c.loop-place.invariant scores are))

pub returns-clause-ok : goal.returns-clause-ok
returns-clause-ok c scores are =
    let vars = c.args.vars.now in
    let self = c.loop-place.self in
    subst (λ l. AreBetween self.records self.ranks scores (raised_all l scores) c.args.trail.now) (take_all c.loop-place.place vars (omega (arith, c.loop-place-test.false))) (c.loop-place.invariant scores are)
