-- the record of the variable says so, and its rank is removed
use Rattle.std.proofs.Common.{◌≡◌, true, Some, None, cond, not, ◌&&◌, refl, sym, ap, ◌∙◌}
use Rattle.std.specs.Option.{option_map}
use Rattle.qualified_goals.specs.Variable.{same_var}
use Rattle.choice_problem.specs.Guide.{score}
use Rattle.count_search.specs.Records.{record_in, marked}
use Rattle.count_search.specs.Ranks.{has_rank, same_rank, rank_of}
use Rattle.count_search.proofs.Found.{absent}
use Rattle.count_search.proofs.Scores.{met-of, scored-chosen, scored-new}
use Rattle.count_search.proofs.counting.CountingGuide.chosen.Goals as goal

pub returns-in_default : goal.returns-in_default
returns-in_default c met trail choice e are =
    let records = c.args.self.now.records in
    let none : record_in records c.args.v ≡ None = sym c.mark.ensures.was ∙ c.in_default.is in
    scored-new records c.args.self.now.ranks (score met) trail are choice (ap (record_in records) e ∙ none) c.mark.new.self
    (λ u. c.mark.ensures.is u ∙ sym (absent records (marked true) c.args.v u none))

pub returns : goal.returns
returns c met trail choice e are =
    let s = c.args.self.now in
    let records = s.records in
    let v = c.args.v in
    let own = c.in-Some.met in
    let there : record_in records v ≡ Some own = sym c.mark.ensures.was ∙ c.in-Some.is in
    let sets = sym (met-of records v (Some own) there) in
    scored-chosen records s.ranks (score met) trail are v c.remove.new.self
    (λ r. c.remove.ensures r
    ∙ ap (λ x. not (same_rank x r) && has_rank s.ranks r) (c.rank_of.ensures ∙ ap (λ n. rank_of n v) (sets ∙ are.counted v)))
    choice e c.mark.new.self (marked true own) sets refl
    (λ u. c.mark.ensures.is u ∙ ap (λ o. cond (same_var v u) (option_map (marked true) o) (record_in records u)) there)
