-- the rank is the last one, and the second goes into the tree
use Rattle.std.proofs.Common.{sym, ap, ◌∙◌, ◌||◌}
use Rattle.count_search.specs.Ranks.{has_rank, same_rank}
use Rattle.count_search.proofs.Parts.{added, added-apart}
use Rattle.count_search.proofs.ranks.Ranks.add.Goals as goal

pub invariant_of-self-2 : goal.invariant_of-self-2
invariant_of-self-2 c =
    let s = c.self.inside in
    added-apart s.last s.second s.tree.keys c.self.invariant c.args.rank c.put_held.new.tree.keys c.in_ok-put_held.ensures.ok
    (ap (λ l. has_rank l c.args.rank) c.self.view_is ∙ sym c.has.ensures ∙ c.if-has.false)

pub returns-clause-ok : goal.returns-clause-ok
returns-clause-ok c r =
    let s = c.self.inside in
    added s.last s.second s.tree.keys c.self.invariant c.args.rank c.put_held.new.tree.keys c.in_ok-put_held.ensures.ok r
    ∙ ap (λ l. same_rank c.args.rank r || has_rank l r) c.self.view_is
