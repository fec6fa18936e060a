-- the first ranked variable that is open, or the least open one
use Rattle.std.proofs.Common.{sym, ◌∙◌, subst}
use Rattle.choice_problem.specs.Active.{is_open}
use Rattle.count_search.specs.Ranks.{has_rank, IsFirst}
use Rattle.count_search.proofs.Picks.{picked-ranked, picked-least}
use Rattle.count_search.proofs.counting.CountingGuide.pick.Goals as goal

pub returns-in-Some : goal.returns-in-Some
returns-in-Some c p met lawful stands are =
    let trail = c.args.state.now.trail in
    let ranks = c.args.self.now.ranks in
    sym (picked-ranked p met trail c.args.self.now.records ranks are c.in-Some.rank
    (subst (IsFirst (is_open p trail) (has_rank ranks)) c.in-Some.is (c.first_open.ensures p lawful stands)))

pub returns-in-None : goal.returns-in-None
returns-in-None c p met lawful stands are =
    let trail = c.args.state.now.trail in
    let ranks = c.args.self.now.ranks in
    c.least.ensures p lawful stands
    ∙ sym (picked-least p met trail c.args.self.now.records ranks are
    (subst (IsFirst (is_open p trail) (has_rank ranks)) c.in-None.is (c.first_open.ensures p lawful stands)))
