-- Items processed one after another, up to the first refusal.
use Rattle.std.specs.Prelude.{◌≡◌, List, [], ◌∷◌, Result, Ok, Err}

-- after a refusal no more items are processed
abbrev pub GoesOn : {S T R : Type 0} → Result S R → (S → Type 0) → Result T R → Type 0
GoesOn (Ok taken) Rest outcome = Rest taken
GoesOn (Err refusal) Rest outcome = outcome ≡ Err refusal

-- Each item has an outcome of its own. A step takes the state and this outcome to the next state or to a refusal, which
-- ends it all.
abbrev pub InTurn : {X O S R : Type 0} → (X → O → Type 0) → (S → X → O → Result S R) → S → List X → Result S R → Type 0
InTurn Comes step taken [] outcome = outcome ≡ Ok taken
InTurn {O = O} Comes step taken (x ∷ xs) outcome =
    (o : O) × Comes x o × GoesOn (step taken x o) (λ next. InTurn Comes step next xs outcome) outcome

-- a property of outcomes, applied to a part of the value
abbrev pub OnPart : {A B R : Type 0} → (A → B) → (Result B R → Type 0) → Result A R → Type 0
OnPart part Is (Ok a) = Is (Ok (part a))
OnPart part Is (Err refusal) = Is (Err refusal)

-- one step: the outcome of an item takes the state to the next one or to a refusal
abbrev pub Steps : {X O S R : Type 0} → (X → O → Type 0) → (S → X → O → Result S R) → S → X → Result S R → Type 0
Steps {O = O} Comes step taken x outcome = (o : O) × Comes x o × (step taken x o ≡ outcome)
