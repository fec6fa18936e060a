-- the set left is tight, and without a budget the shrinking doesn't end over it
use Rattle.std.proofs.Common.{◌≡◌, ◌∙◌, sym, ap, rules}
use Rattle.std.specs.Prelude.{IsTrue, Err}
use Rattle.choice_problem.specs.ConflictSet.{is_rising}
use Rattle.conflict_shrink.specs.declared.shrinking.ShrinkFault.TheVariants.{TooLong}
use Rattle.conflict_shrink.specs.Shrinking.{Tight, shrinking, untried_stage}
use Rattle.conflict_shrink.proofs.Tightens.{shrinking-tight, never-over, ended-at, over-at}
use Rattle.conflict_shrink.proofs.shrinking.shrink.Goals as goal

pub returns-clause-tight : goal.returns-clause-tight
returns-clause-tight g c =
    let p = g.C.Choices.problem c.args.choices.now in
    let set = c.args.set.now in
    let budget = c.args.budget in
    let rising : IsTrue (is_rising set) = search rules in
    let ended = ended-at p budget _ _ c.loop-v.stage (shrinking p set budget).ended c.loop-v-test.false c.loop-v.invariant.ended in
    shrinking-tight p set budget (g.met.C.Choices.lawful c.args.choices.now) rising c.requires.known c.requires.none c.in_ok-shrunk.field-0 (ended ∙ ap Tight (sym c.in_ok-shrunk.ensures))

pub returns-in_err-try_without-clause-unlimited : goal.returns-in_err-try_without-clause-unlimited
returns-in_err-try_without-clause-unlimited g c spent unlimited failed =
    let p = g.C.Choices.problem c.args.choices.now in
    let set = c.args.set.now in
    let budget = c.args.budget in
    let same : Err c.in_err-try_without.field-0.0 ≡ Err (TooLong spent) = search rules in
    let gives = c.in_err-try_without.ensures.too_long spent same in
    let ended = over-at p budget _ _ _ c.loop-v.stage (shrinking p set budget).ended spent c.loop-v-test.true gives c.loop-v.invariant.ended in
    never-over p (g.met.C.Choices.lawful c.args.choices.now) set (untried_stage set) c.requires.known spent (ap (λ b. (shrinking p set b).ended) (sym unlimited) ∙ ended)
