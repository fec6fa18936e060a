-- the set has the held rank, and its old members
use Rattle.std.proofs.Common.{◌||◌, ap, ◌∙◌}
use Rattle.std.proofs.lemmas.Result.{on_ok_weaker}
use Rattle.count_search.specs.Ranks.{has_rank}
use Rattle.count_search.proofs.Parts.{held-one}
use Rattle.count_search.proofs.ranks.put_held.Goals as goal

pub returns-in-Some-clause-ok : goal.returns-in-Some-clause-ok
returns-in-Some-clause-ok c =
    on_ok_weaker c.put.result
    (λ more r. more r ∙ ap (λ b. b || has_rank c.args.tree.now.keys r) (held-one c.args.held c.in-Some.rank r c.in-Some.is))
    c.put.ensures.ok
