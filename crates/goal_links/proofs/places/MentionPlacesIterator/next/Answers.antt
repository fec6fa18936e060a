use Rattle.std.proofs.Common.{◌≡◌, ◌∷◌, ◌∙◌, ℕ, List, Option, Some, map, length, sym, ap, subst, arith}
use Rattle.std.specs.ControlFlow.{continue_value}
use Rattle.std.specs.Option.{IfSome}
use Rattle.goal_links.specs.Mentions.{place_at}
use Rattle.goal_links.specs.Places.{IsInChain, places_from}
use Rattle.goal_links.proofs.ChainWalks.{more-from}
use Rattle.goal_links.proofs.places.MentionPlacesIterator.next.Goals as goal

pub returns-clause-steps : goal.returns-clause-steps
returns-clause-steps c =
    let s = c.self.inside.links.now in
    let k = c.in_ok-cell.cell in
    let next = c.chain_next-self-inside.result in
    let at : c.self.inside.at ≡ Some k = c.branch-cell.ensures ∙ ap continue_value c.in_ok-cell.is in
    let among : IsInChain s k = subst (λ (o : Option ℕ). IfSome o (IsInChain s)) at c.self.invariant in
    sym c.self.view_is ∙ ap (places_from s) at
    ∙ ap (map (place_at s.cells)) (more-from s k next among c.chain_next-self-inside.ensures.next c.chain_next-self-inside.ensures.owner)
    ∙ ap (λ n. n ∷ places_from s next) (sym c.place_of.ensures)

pub returns-clause-goes : goal.returns-clause-goes
returns-clause-goes c =
    let shorter = ap (λ (l : List ℕ). length l) (returns-clause-steps c) in
    record { on = λ _. (tt, tt, omega (arith, shorter)); keeps = tt; rests = λ _. tt }
