-- the outcome means what the guided answer means
use Rattle.std.proofs.Common.{sym, subst}
use Rattle.std.proofs.lemmas.Result.{IfOk-weaker}
use Rattle.count_search.specs.Meaning.{MeansCounted}
use Rattle.count_search.proofs.Ends.{means-counted}
use Rattle.count_search.proofs.search.count_search.Goals as goal

pub returns-clause-means : goal.returns-clause-means
returns-clause-means g c =
    let p = g.C.Choices.problem c.args.choices.now in
    IfOk-weaker c.guided_search.result _ (MeansCounted p c.args.limit)
    (λ outcome h. subst (MeansCounted p c.args.limit) (sym h) (means-counted p (g.met.C.Choices.lawful c.args.choices.now) c.args.limit))
    c.guided_search.ensures.outcome
