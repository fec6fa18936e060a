use Rattle.std.proofs.Common.{ℕ, ◌∙◌, ◌++◌, List, sym, ap}
use Rattle.validation.specs.Pending.{place_if}
use Rattle.validation.proofs.Disagreeing.{places-next}
use Rattle.validation.proofs.pending.PendingAsked.places_on.Goals as goal

pub loop-place-preserved : goal.loop-place-preserved
loop-place-preserved c =
    let active = c.args.self.now.active in
    c.in_ok-push_on.ensures ∙ ap (λ (l : List ℕ). l ++ place_if c.loop-place.place c.args.v c.demand.result.now) c.loop-place.invariant
    ∙ sym (places-next c.args.v active c.loop-place.place c.demand.result.now c.demand.ensures)
