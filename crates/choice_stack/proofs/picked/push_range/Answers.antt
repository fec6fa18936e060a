use Rattle.std.proofs.Common.{◌≡◌, ℕ, suc, ◌+◌, ◌-◌, ◌∙◌, ◌∷◌, [], ◌++◌, List, append_assoc, arith, sym, ap}
use Rattle.choice_stack.specs.Stack.{rising_from}
use Rattle.choice_stack.proofs.picked.push_range.Goals as goal

pub loop-place-preserved : goal.loop-place-preserved
loop-place-preserved c =
    let n = c.args.to - (c.loop-place.place + 1) in
    let place = c.loop-place.place in
    let items = c.loop-place.places.items in
    let count : c.args.to - place ≡ suc n = omega (arith, c.loop-place-test.true) in
    let next : place + 1 ≡ suc place = omega arith in
    ap (λ (l : List ℕ). l ++ rising_from (place + 1) n) c.in_ok-push.ensures.items
    ∙ append_assoc items (place ∷ []) (rising_from (place + 1) n)
    ∙ ap (λ (k : ℕ). items ++ place ∷ rising_from k n) next
    ∙ ap (λ (k : ℕ). items ++ rising_from place k) (sym count)
    ∙ c.loop-place.invariant
