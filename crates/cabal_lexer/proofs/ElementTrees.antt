-- Shared: the tree of a file, element by element.
use Rattle.std.proofs.Common.{◌≡◌, ℕ, suc, ◌+◌, ◌<◌, length, List, ◌∷◌, ◌++◌, get_or, drop, sym, ap, ◌∙◌, add-one, append_assoc}
use Rattle.std.proofs.Math.Seq.{drop-cons}
use Rattle.plan_types.specs.declared.element.Element.{Element, fold-roll-Element}
use Rattle.plan_types.specs.declared.element.Element.TheOpen as open'
use Rattle.plan_types.specs.declared.element.Element.TheVariants.{Field, Section, rolls-Field, rolls-Section}
use Rattle.cabal_lexer.specs.Tree.{Tree, field, section, layer, in_front, tree_of}

pub field_in_front : (line : ℕ) (name : List ℕ) (values : List (List ℕ)) (behind : Tree) → in_front (Field line name values) behind ≡ field line name values behind
field_in_front line name values behind =
    ap (λ v. in_front v behind) (sym (rolls-Field line name values)) ∙ ap (λ f. f behind) (fold-roll-Element (Tree → Tree) layer (open'.Field line name values))

pub section_in_front : (line : ℕ) (name args : List ℕ) (items : List Element) (behind : Tree) →
    in_front (Section line name args items) behind ≡ section line name args (tree_of items) behind
section_in_front line name args items behind =
    ap (λ v. in_front v behind) (sym (rolls-Section line name args items)) ∙ ap (λ f. f behind) (fold-roll-Element (Tree → Tree) layer (open'.Section line name args items))

-- the tree of the remaining elements begins with the next one
pub tree_from : (items : List Element) (n : ℕ) (item : Element) → n < length items → get_or items n item ≡ item →
    tree_of (drop n items) ≡ in_front item (tree_of (drop (n + 1) items))
tree_from items n item lt is =
    ap tree_of (drop-cons items n item lt ∙ ap (λ v. v ∷ drop (suc n) items) is) ∙ ap (λ m. in_front item (tree_of (drop m items))) (sym (add-one n))

pub added : {A : Type 0} (old part more : List A) {new : List A} → new ≡ old ++ part → new ++ more ≡ old ++ (part ++ more)
added old part more is = ap (λ v. v ++ more) is ∙ append_assoc old part more
