-- How the copy of a range is rebuilt.
use Rattle.std.proofs.Common.{◌≡◌, ◌<◌, ◌≤◌, List, [], ◌∷◌, ◌++◌, refl, sym, ap, ◌∙◌, arith, Bor}
use Rattle.plan_types.specs.declared.range.Range.{Range, size-Range}
use Rattle.plan_types.specs.declared.range.Range.TheViews.{sized-Both, sized-Either}
use Rattle.plan_types.specs.declared.range.Joined.{Joined}
use Rattle.plan_types.specs.declared.range.Joined.TheVariants as joined
use Rattle.plan_types.specs.Range.{joined_to, rebuilt}

pub rebuilt_push : (waiting : List Joined) (joined : Joined) (first : Range) → rebuilt (waiting ++ joined ∷ []) first ≡ rebuilt waiting (joined_to first joined)
rebuilt_push [] joined first = refl
rebuilt_push (w ∷ ws) joined first = ap (λ r. joined_to r w) (rebuilt_push ws joined first)

below_joined : (left : Range) (joined : Joined) → size-Range left ≤ size-Range (joined_to left joined)
below_joined left (joined.Both right) = let size = sized-Both left right.now in omega (arith, size)
below_joined left (joined.Either right) = let size = sized-Either left right.now in omega (arith, size)

below_rebuilt : (waiting : List Joined) (first : Range) → size-Range first ≤ size-Range (rebuilt waiting first)
below_rebuilt [] first = omega arith
below_rebuilt (w ∷ ws) first = let le = below_rebuilt ws first in let more = below_joined (rebuilt ws first) w in omega (arith, le, more)

-- the invariant holds after a right operand is pushed
pub put_aside : (waiting new : List Joined) (joined : Joined) (left part whole : Range) → new ≡ waiting ++ joined ∷ [] → left ≡ joined_to part joined → rebuilt waiting left ≡ whole → rebuilt new part ≡ whole
put_aside waiting new joined left part whole n is h = ap (λ w. rebuilt w part) n ∙ rebuilt_push waiting joined part ∙ ap (rebuilt waiting) (sym is) ∙ h

-- the invariant holds after a right operand is popped and joined
pub taken_up : (waiting left : List Joined) (seen joined : Joined) (part new whole : Range) → waiting ≡ left ++ seen ∷ [] → seen ≡ joined → new ≡ joined_to part joined → rebuilt waiting part ≡ whole → rebuilt left new ≡ whole
taken_up waiting left seen joined part new whole w s n h = ap (rebuilt left) (n ∙ ap (joined_to part) (sym s)) ∙ sym (rebuilt_push left seen part) ∙ ap (λ l. rebuilt l part) (sym w) ∙ h

-- a pending operand, with its left side, is no larger than the whole
waits_below : (waiting left : List Joined) (seen joined : Joined) (part whole : Range) → waiting ≡ left ++ seen ∷ [] → seen ≡ joined → rebuilt waiting part ≡ whole → size-Range (joined_to part joined) ≤ size-Range whole
waits_below waiting left seen joined part whole w s h =
    let same = ap size-Range (taken_up waiting left seen joined part (joined_to part joined) whole w s refl h) in
    let le = below_rebuilt left (joined_to part joined) in
    omega (arith, le, same)

pub both_waits : (waiting left : List Joined) (seen : Joined) (right : Bor Range) (part whole : Range) → waiting ≡ left ++ seen ∷ [] → seen ≡ joined.Both right → rebuilt waiting part ≡ whole → size-Range right.now < size-Range whole
both_waits waiting left seen right part whole w s h =
    let le = waits_below waiting left seen (joined.Both right) part whole w s h in
    let size = sized-Both part right.now in
    omega (arith, le, size)

pub either_waits : (waiting left : List Joined) (seen : Joined) (right : Bor Range) (part whole : Range) → waiting ≡ left ++ seen ∷ [] → seen ≡ joined.Either right → rebuilt waiting part ≡ whole → size-Range right.now < size-Range whole
either_waits waiting left seen right part whole w s h =
    let le = waits_below waiting left seen (joined.Either right) part whole w s h in
    let size = sized-Either part right.now in
    omega (arith, le, size)
