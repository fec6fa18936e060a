-- the least of the first open ranks of the parts
use Rattle.std.proofs.Common.{◌∙◌, sym, ap, subst}
use Rattle.choice_problem.specs.Active.{is_open}
use Rattle.count_search.specs.Ranks.{has_rank, lesser, passing, IsFirst}
use Rattle.count_search.proofs.Orders.{first-found}
use Rattle.count_search.proofs.Parts.{first-joined, joined}
use Rattle.count_search.proofs.ranks.Ranks.first_open.Goals as goal

pub returns : goal.returns
returns c p lawful stands =
    let s = c.self.inside in
    let test = is_open p c.args.state.now.trail in
    let first = c.first_in.result in
    let is = first-found test s.tree.keys first c.first_in.ensures.sorted (c.first_in.ensures.first p lawful stands) in
    let all = c.lesser-2.ensures ∙ ap (λ o. lesser o c.lesser.result) (c.only_open-last.ensures p lawful stands)
    ∙ ap (lesser (passing test s.last)) (c.lesser.ensures ∙ ap (λ o. lesser o first) (c.only_open-second.ensures p lawful stands)) in
    subst (λ l. IsFirst test (has_rank l) c.lesser-2.result) c.self.view_is
    (subst (IsFirst test (has_rank (joined s.last s.second s.tree.keys))) (sym all) (first-joined test s.last s.second s.tree.keys first is))
