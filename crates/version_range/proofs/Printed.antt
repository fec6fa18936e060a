-- The pending texts while a range is printed.
use Rattle.std.proofs.Common.{◌≡◌, ℕ, ◌<◌, codes, List, [], ◌∷◌, ◌++◌, sym, ap, ◌∙◌, append_assoc, subst, arith}
use Rattle.std.specs.List.{All}
use Rattle.std.proofs.lemmas.List.{append-nil}
use Rattle.std.proofs.lemmas.List.Elements.{All-push}
use Rattle.plan_types.specs.declared.range.Range.{Range, size-Range}
use Rattle.plan_types.specs.declared.range.Range.TheOpen as layer
use Rattle.plan_types.specs.declared.range.Range.TheFolds.{fold-roll-Range}
use Rattle.plan_types.specs.declared.range.Range.TheVariants.{Both, Either, rolls-Both, rolls-Either}
use Rattle.plan_types.specs.declared.range.Range.TheViews.{sized-Both, sized-Either}
use Rattle.version_range.specs.declared.print.RangePlace.{RangePlace}
use Rattle.version_range.specs.declared.print.RangePlace.TheVariants.{Whole, Term, Factor}
use Rattle.version_range.specs.declared.print.Rest.{Rest}
use Rattle.version_range.specs.declared.print.Rest.TheVariants.{Close}
use Rattle.version_range.specs.Print.{text_in, text_step, as_term, as_whole, rest_text, rests_text, IsSmaller, Opens, enclosed}

rests_push : (rests : List Rest) (rest : Rest) → rests_text (rests ++ rest ∷ []) ≡ rest_text rest ++ rests_text rests
rests_push [] rest = sym (append-nil (rest_text rest))
rests_push (r ∷ rs) rest = ap (λ t. t ++ rest_text r) (rests_push rs rest) ∙ append_assoc (rest_text rest) (rests_text rs) (rest_text r)

-- the last pending text is written next
pub put_aside : (text left : List ℕ) (rests new : List Rest) (rest : Rest) → new ≡ rests ++ rest ∷ [] → (text ++ left) ++ rests_text new ≡ (text ++ (left ++ rest_text rest)) ++ rests_text rests
put_aside text left rests new rest e =
    ap (λ n. (text ++ left) ++ rests_text n) e
    ∙ ap (λ t. (text ++ left) ++ t) (rests_push rests rest)
    ∙ sym (append_assoc (text ++ left) (rest_text rest) (rests_text rests))
    ∙ ap (λ t. t ++ rests_text rests) (append_assoc text left (rest_text rest))

pub taken_up : (whole text new : List ℕ) (rests left : List Rest) (rest : Rest) → rests ≡ left ++ rest ∷ [] → text ++ rests_text rests ≡ whole → new ≡ text ++ rest_text rest → new ++ rests_text left ≡ whole
taken_up whole text new rests left rest e h n =
    ap (λ t. t ++ rests_text left) n
    ∙ append_assoc text (rest_text rest) (rests_text left)
    ∙ ap (λ t. text ++ t) (sym (rests_push left rest) ∙ ap rests_text (sym e))
    ∙ h

pub opened : (text new : List ℕ) (rests new-rests : List Rest) → new ≡ text ++ 40 ∷ [] → new-rests ≡ rests ++ Close ∷ [] → Opens enclosed text rests new new-rests
opened text new rests new-rests e f body =
    ap (λ t. (t ++ body) ++ rests_text new-rests) e
    ∙ put_aside (text ++ 40 ∷ []) body rests new-rests Close f
    ∙ ap (λ t. t ++ rests_text rests) (append_assoc text (40 ∷ []) (body ++ 41 ∷ []))

pub smaller_push : (range : Range) (rests new : List Rest) (rest : Rest) → new ≡ rests ++ rest ∷ [] → IsSmaller range rest → All (IsSmaller range) rests → All (IsSmaller range) new
smaller_push range rests new rest e s all = subst (All (IsSmaller range)) (sym e) (All-push (IsSmaller range) rests rest all s)

pub text_Both : (s l r : Range) (place : RangePlace) → s ≡ Both l r → text_in s place ≡ as_term place (text_in l Term ++ (codes " && " ++ text_in r Factor))
text_Both s l r place e = ap (λ x. text_in x place) (e ∙ sym (rolls-Both l r)) ∙ ap (λ f. f place) (fold-roll-Range (RangePlace → List ℕ) text_step (layer.Both l r)) ∙ ap (as_term place) (append_assoc (text_in l Term) (codes " && ") (text_in r Factor))

pub text_Either : (s l r : Range) (place : RangePlace) → s ≡ Either l r → text_in s place ≡ as_whole place (text_in l Whole ++ (codes " || " ++ text_in r Term))
text_Either s l r place e = ap (λ x. text_in x place) (e ∙ sym (rolls-Either l r)) ∙ ap (λ f. f place) (fold-roll-Range (RangePlace → List ℕ) text_step (layer.Either l r)) ∙ ap (as_whole place) (append_assoc (text_in l Whole) (codes " || ") (text_in r Term))

-- the left side is written next, after the right side is pushed
pub then_left : (placed : List ℕ → List ℕ) (whole joined left text new : List ℕ) (rests mid new-rests : List Rest) (rest : Rest)
    → joined ≡ placed (left ++ rest_text rest) → (text ++ joined) ++ rests_text rests ≡ whole → Opens placed text rests new mid → new-rests ≡ mid ++ rest ∷ []
    → (new ++ left) ++ rests_text new-rests ≡ whole
then_left placed whole joined left text new rests mid new-rests rest j h o p =
    put_aside new left mid new-rests rest p
    ∙ o (left ++ rest_text rest)
    ∙ ap (λ t. (text ++ t) ++ rests_text rests) (sym j)
    ∙ h

pub popped : (rests new : List Rest) (seen rest : Rest) → rests ≡ new ++ seen ∷ [] → seen ≡ rest → rests ≡ new ++ rest ∷ []
popped rests new seen rest e s = e ∙ ap (λ x. new ++ x ∷ []) s

pub below_Both : (s l r : Range) → s ≡ Both l r → (size-Range l < size-Range s) × (size-Range r < size-Range s)
below_Both s l r e = let size = ap size-Range e ∙ sized-Both l r in (omega (arith, size), omega (arith, size))

pub below_Either : (s l r : Range) → s ≡ Either l r → (size-Range l < size-Range s) × (size-Range r < size-Range s)
below_Either s l r e = let size = ap size-Range e ∙ sized-Either l r in (omega (arith, size), omega (arith, size))
