-- each variable of the set has one more in its score
use Rattle.std.proofs.Common.{◌≡◌, true, List, ◌∷◌, subst}
use Rattle.common_laws.specs.Small.{on-err}
use Rattle.qualified_goals.specs.declared.variable.Var.{Var}
use Rattle.choice_problem.specs.ConflictSet.{is_rising}
use Rattle.choice_problem.specs.Guide.{score}
use Rattle.count_search.specs.Ranks.{AreScored, raised_all}
use Rattle.count_search.proofs.Scores.{raised-set, scored-alike}
use Rattle.count_search.proofs.counting.CountingGuide.learn.Goals as goal

pub returns-clause-ok : goal.returns-clause-ok
returns-clause-ok c met are =
    let set = c.args.set.now in
    let new = c.raise_all.new.self in
    scored-alike new.records new.ranks (raised_all set (score met)) (score (set ∷ met)) c.args.trail.now
    (λ u. raised-set set met u (subst (λ l. is_rising l ≡ true) c.vars-vars.ensures.set c.vars-vars.ensures.rising))
    (subst (λ l. AreScored new.records new.ranks (raised_all l (score met)) c.args.trail.now) c.vars-vars.ensures.set
    (c.raise_all.ensures (score met) c.args.trail.now (c.in_ok-prepare_all.ensures.ok (score met) are)))

pub returns-in_err-prepare_all-clause-err : goal.returns-in_err-prepare_all-clause-err
returns-in_err-prepare_all-clause-err c =
    let old = c.args.self.now in
    let new = c.prepare_all.new.self in
    on-err c.from_residual.result
    ((met : List (List Var)) → AreScored old.records old.ranks (score met) c.args.trail.now → AreScored new.records new.ranks (score met) c.args.trail.now)
    (λ met are. c.in_err-prepare_all.ensures.err (score met) are)
