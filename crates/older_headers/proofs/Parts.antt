-- Equal elements have equal parts.
use Rattle.std.proofs.Common.{◌≡◌, ℕ, Bool, true, false, List, [], sym, ◌∙◌, ap}
use Rattle.plan_types.specs.declared.element.Element.{Element, Element-F, fold-Element, out-Element, out-roll-Element}
use Rattle.plan_types.specs.declared.element.Element.TheOpen as open'
use Rattle.plan_types.specs.declared.element.Element.TheVariants.{Field, Section, rolls-Field, rolls-Section}
use Rattle.cabal_lexer.specs.RoundTrip.{zero_layer, unnumbered}
use Rattle.cabal_lexer.specs.Folds.{zero-field, zero-section}

field-out : (line : ℕ) (name : List ℕ) (values : List (List ℕ)) → out-Element (Field line name values) ≡ open'.Field line name values
field-out line name values = ap out-Element (sym (rolls-Field line name values)) ∙ out-roll-Element (open'.Field line name values)

section-out : (line : ℕ) (name args : List ℕ) (items : List Element) → out-Element (Section line name args items) ≡ open'.Section line name args items
section-out line name args items = ap out-Element (sym (rolls-Section line name args items)) ∙ out-roll-Element (open'.Section line name args items)

is_open_field : Element-F Element → Bool
is_open_field (open'.Field line name values) = true
is_open_field (open'.Section line name args items) = false

open_name : Element-F Element → List ℕ
open_name (open'.Field line name values) = name
open_name (open'.Section line name args items) = name

open_values : Element-F Element → List (List ℕ)
open_values (open'.Field line name values) = values
open_values (open'.Section line name args items) = []

open_args : Element-F Element → List ℕ
open_args (open'.Field line name values) = []
open_args (open'.Section line name args items) = args

open_items : Element-F Element → List Element
open_items (open'.Field line name values) = []
open_items (open'.Section line name args items) = items

abbrev pub zero : Element → Element
zero item = fold-Element Element zero_layer item

pub field-parts : (m n : ℕ) (a b : List ℕ) (u v : List (List ℕ)) → zero (Field m a u) ≡ zero (Field n b v) → (a ≡ b) × (u ≡ v)
unfolding open_name open_values
field-parts m n a b u v h =
    let e = sym (field-out 0 a u) ∙ ap out-Element (sym (zero-field m a u) ∙ h ∙ zero-field n b v) ∙ field-out 0 b v in
    (ap open_name e, ap open_values e)

pub field-section : (m n : ℕ) (a b args : List ℕ) (u : List (List ℕ)) (items : List Element) → zero (Field m a u) ≡ zero (Section n b args items) → true ≡ false
unfolding is_open_field
field-section m n a b args u items h =
    ap is_open_field (sym (field-out 0 a u) ∙ ap out-Element (sym (zero-field m a u) ∙ h ∙ zero-section n b args items) ∙ section-out 0 b args (unnumbered items))

pub section-parts : (m n : ℕ) (a b p q : List ℕ) (xs ys : List Element) → zero (Section m a p xs) ≡ zero (Section n b q ys) → (a ≡ b) × (p ≡ q) × (unnumbered xs ≡ unnumbered ys)
unfolding open_name open_args open_items
section-parts m n a b p q xs ys h =
    let e = sym (section-out 0 a p (unnumbered xs)) ∙ ap out-Element (sym (zero-section m a p xs) ∙ h ∙ zero-section n b q ys) ∙ section-out 0 b q (unnumbered ys) in
    (ap open_name e, ap open_args e, ap open_items e)

pub same-fields : (m n : ℕ) (a b : List ℕ) (u v : List (List ℕ)) → a ≡ b → u ≡ v → zero (Field m a u) ≡ zero (Field n b v)
same-fields m n a b u v g h = zero-field m a u ∙ ap (λ x. Field 0 x u) g ∙ ap (λ x. Field 0 b x) h ∙ sym (zero-field n b v)

pub same-sections : (m n : ℕ) (a b p q : List ℕ) (xs ys : List Element) → a ≡ b → p ≡ q → unnumbered xs ≡ unnumbered ys → zero (Section m a p xs) ≡ zero (Section n b q ys)
same-sections m n a b p q xs ys g h k =
    zero-section m a p xs ∙ ap (λ x. Section 0 x p (unnumbered xs)) g ∙ ap (λ x. Section 0 b x (unnumbered xs)) h
    ∙ ap (λ x. Section 0 b q x) k ∙ sym (zero-section n b q ys)
