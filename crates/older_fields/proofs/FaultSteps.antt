-- One item, before the items after it.
use Rattle.std.proofs.Common.{◌≡◌, ℕ, List, sym, ap, ◌∙◌}
use Rattle.std.specs.Prelude.{Option}
use Rattle.plan_types.specs.declared.element.Element.{Element}
use Rattle.plan_types.specs.declared.element.Element.TheVariants.{Field, Section}
use Rattle.cabal_lexer.specs.Tree.{Tree, in_front, tree_of}
use Rattle.cabal_lexer.proofs.ElementTrees.{field_in_front, section_in_front}
use Rattle.older_fields.specs.declared.edition.Edition.{Edition}
use Rattle.older_fields.specs.declared.refused.At.{At}
use Rattle.older_fields.specs.Refused.{field_fault, first_fault, or_else}

pub in_field : (edition : Edition) (item : Element) (line : ℕ) (name : List ℕ) (values : List (List ℕ)) (found : Option At) →
    item ≡ Field line name values → found ≡ field_fault edition line name values →
    (behind : Tree) → first_fault edition (in_front item behind) ≡ or_else found (first_fault edition behind)
unfolding first_fault
in_field edition item line name values found is found-is behind =
    ap (λ i. first_fault edition (in_front i behind)) is
    ∙ ap (first_fault edition) (field_in_front line name values behind)
    ∙ ap (λ f. or_else f (first_fault edition behind)) (sym found-is)

pub in_section : (edition : Edition) (item : Element) (line : ℕ) (name args : List ℕ) (items : List Element) (found : Option At) →
    item ≡ Section line name args items → found ≡ first_fault edition (tree_of items) →
    (behind : Tree) → first_fault edition (in_front item behind) ≡ or_else found (first_fault edition behind)
unfolding first_fault
in_section edition item line name args items found is found-is behind =
    ap (λ i. first_fault edition (in_front i behind)) is
    ∙ ap (first_fault edition) (section_in_front line name args items behind)
    ∙ ap (λ f. or_else f (first_fault edition behind)) (sym found-is)
