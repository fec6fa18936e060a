-- the set lacks the rank, and has the others
use Rattle.std.proofs.Common.{◌≡◌, Bool, true, false, cond, not, ◌&&◌, refl, sym, ap, ◌∙◌}
use Rattle.std.specs.Ordering.{is_eq}
use Rattle.count_search.specs.Ranks.{same_rank, has_rank}
use Rattle.count_search.proofs.Orders.{derived, found_in, stored}
use Rattle.count_search.proofs.ranks.take_out.Goals as goal

and-as : (a b : Bool) → cond a false b ≡ not a && b
and-as true b = refl
and-as false b = refl

pub returns : goal.returns
returns c r =
    let old = c.args.tree.now.keys in
    sym (stored c.remove.new.self.keys r) ∙ c.remove.ensures.updates.0 r
    ∙ ap (λ b. cond b false (found_in old r)) (ap is_eq (derived c.args.rank r))
    ∙ ap (λ b. cond (same_rank c.args.rank r) false b) (stored old r)
    ∙ and-as (same_rank c.args.rank r) (has_rank old r)
