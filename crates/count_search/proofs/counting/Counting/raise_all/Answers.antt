-- the variables get their next scores one after another
use Rattle.std.proofs.Common.{◌<◌, length, take, sym, subst, arith}
use Rattle.std.proofs.lemmas.List.{take_all}
use Rattle.count_search.specs.Ranks.{AreBetween, raised_all}
use Rattle.count_search.proofs.Scores.{none-between, next-one, next-score}
use Rattle.count_search.proofs.counting.Counting.raise_all.Goals as goal

pub loop-place-preserved : goal.loop-place-preserved
loop-place-preserved c scores trail are =
    let vars = c.args.vars.now in
    let i = c.loop-place.place in
    let within : i < length vars = omega (arith, c.loop-place-test.true) in
    let new = c.raise.new.self in
    subst (λ f. AreBetween new.records new.ranks f (raised_all vars scores) trail) (sym (next-one vars c.requires scores i _ within))
    (c.raise.ensures (raised_all (take i vars) scores) (raised_all vars scores) trail (next-score vars c.requires scores i _ within) (c.loop-place.invariant scores trail are))

pub returns : goal.returns
returns c scores trail are =
    let vars = c.args.vars.now in
    let self = c.loop-place.self in
    none-between self.records self.ranks (raised_all vars scores) trail
    (subst (λ l. AreBetween self.records self.ranks (raised_all l scores) (raised_all vars scores) trail) (take_all c.loop-place.place vars (omega (arith, c.loop-place-test.false)))
    (c.loop-place.invariant scores trail are))
