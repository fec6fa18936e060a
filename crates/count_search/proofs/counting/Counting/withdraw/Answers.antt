-- the next rank of the variable is removed
use Rattle.std.proofs.Common.{Some, not, ◌&&◌, refl, sym, ap, ◌∙◌, arith}
use Rattle.count_search.specs.Ranks.{has_rank, same_rank}
use Rattle.count_search.proofs.Scores.{between-alike, met-of, raised-full, withdrawn}
use Rattle.count_search.proofs.counting.Counting.withdraw.Goals as goal

pub returns-then-met : goal.returns-then-met
returns-then-met c scores next trail same are =
    let s = c.args.self.now in
    let counted = met-of s.records c.args.v (Some c.in-Some.met) (sym c.get.ensures ∙ c.in-Some.is) in
    let full = same ∙ sym (are.counted c.args.v) ∙ counted ∙ c.if-met.true in
    between-alike s.records s.ranks scores scores _ next trail (λ u. refl) (λ u. sym (raised-full c.args.v next full u)) are

pub returns : goal.returns
returns c scores next trail same are =
    let s = c.args.self.now in
    let counted = met-of s.records c.args.v (Some c.in-Some.met) (sym c.get.ensures ∙ c.in-Some.is) in
    withdrawn s.records s.ranks scores next trail c.args.v same are c.in-Some.met.sets c.remove.new.self (sym counted) (omega (arith, c.if-met.false))
    (λ r. c.remove.ensures r ∙ ap (λ x. not (same_rank x r) && has_rank s.ranks r) c.rank_of.ensures)
