-- the set has the rank, and its old members
use Rattle.std.proofs.Common.{◌≡◌, Bool, true, false, cond, ◌||◌, refl, sym, ap, ◌∙◌}
use Rattle.std.specs.Ordering.{is_eq}
use Rattle.count_search.specs.Ranks.{same_rank, has_rank}
use Rattle.count_search.proofs.Orders.{derived, found_in, stored}
use Rattle.count_search.proofs.ranks.put.Goals as goal

or-as : (a b : Bool) → cond a true b ≡ a || b
or-as true b = refl
or-as false b = refl

pub returns-in-Ok-clause-ok : goal.returns-in-Ok-clause-ok
returns-in-Ok-clause-ok c r =
    let old = c.args.tree.now.keys in
    sym (stored c.insert.new.self.keys r) ∙ c.in-Ok.ensures.updates.0 r
    ∙ ap (λ b. cond b true (found_in old r)) (ap is_eq (derived c.args.rank r))
    ∙ ap (λ b. cond (same_rank c.args.rank r) true b) (stored old r)
    ∙ or-as (same_rank c.args.rank r) (has_rank old r)
