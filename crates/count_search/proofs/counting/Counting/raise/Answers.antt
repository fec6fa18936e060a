-- the variable has its next score, and its old rank is removed
use Rattle.std.proofs.Common.{◌≡◌, Some, cond, not, ◌&&◌, sym, ap, ◌∙◌, arith}
use Rattle.std.specs.Option.{option_map}
use Rattle.qualified_goals.specs.declared.variable.Var.{Var}
use Rattle.qualified_goals.specs.Variable.{same_var}
use Rattle.count_search.specs.Records.{record_in, with_one_more}
use Rattle.count_search.specs.Ranks.{has_rank, same_rank}
use Rattle.count_search.proofs.Scores.{has-record, raised-at-cap, raised-chosen, raised-more}
use Rattle.count_search.proofs.counting.Counting.raise.Goals as goal

pub returns-in_default : goal.returns-in_default
returns-in_default c scores next trail rises are =
    let s = c.args.self.now in
    absurd (has-record s.records s.ranks scores next trail are c.args.v rises (sym c.count_one.ensures.was ∙ c.in_default.is))

pub returns-then-met : goal.returns-then-met
returns-then-met c scores next trail rises are =
    let s = c.args.self.now in
    let v = c.args.v in
    let there : record_in s.records v ≡ Some c.in-Some.met = sym c.count_one.ensures.was ∙ c.in-Some.is in
    raised-chosen s.records s.ranks scores next trail are v c.in-Some.met there rises c.count_one.new.self
    (λ (u : Var). c.count_one.ensures.is u ∙ ap (λ o. cond (same_var v u) (option_map with_one_more o) (record_in s.records u)) there)
    c.if-met.true

pub returns-then-met-2 : goal.returns-then-met-2
returns-then-met-2 c scores next trail rises are =
    let s = c.args.self.now in
    let v = c.args.v in
    let there : record_in s.records v ≡ Some c.in-Some.met = sym c.count_one.ensures.was ∙ c.in-Some.is in
    raised-at-cap s.records s.ranks scores next trail are v c.in-Some.met there rises c.count_one.new.self
    (λ (u : Var). c.count_one.ensures.is u ∙ ap (λ o. cond (same_var v u) (option_map with_one_more o) (record_in s.records u)) there)
    c.if-met-2.true

pub returns : goal.returns
returns c scores next trail rises are =
    let s = c.args.self.now in
    let v = c.args.v in
    let there : record_in s.records v ≡ Some c.in-Some.met = sym c.count_one.ensures.was ∙ c.in-Some.is in
    raised-more s.records s.ranks scores next trail are v c.in-Some.met there rises c.count_one.new.self
    (λ (u : Var). c.count_one.ensures.is u ∙ ap (λ o. cond (same_var v u) (option_map with_one_more o) (record_in s.records u)) there)
    c.remove.new.self (omega (arith, c.if-met-2.false))
    (λ r. c.remove.ensures r ∙ ap (λ x. not (same_rank x r) && has_rank s.ranks r) c.rank_of.ensures)
