use Rattle.std.proofs.Common.{◌∙◌, ℕ, List, length, sym, subst, arith}
use Rattle.demand_agreement.specs.Places.{AllBelow}
use Rattle.demand_agreement.proofs.NumberBounds.{places-below}
use Rattle.demand_agreement.proofs.agreement.push_apart.Goals as goal

pub push_owned-requires : goal.push_owned-requires
push_owned-requires g c =
    let demands = g.A.Asked.demands c.args.asked.now in
    subst (λ (ps : List ℕ). AllBelow (length demands) ps) (sym (c.as_slice.ensures.value ∙ c.in_ok-places.ensures))
    (places-below 0 (length demands) c.under-moved.result demands (omega arith))
