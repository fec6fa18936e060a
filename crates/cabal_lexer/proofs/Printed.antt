-- The canonical text of an element, by its kind.
use Rattle.std.proofs.Common.{◌≡◌, ℕ, List, [], ◌∷◌, ◌++◌, sym, ◌∙◌, ap, append_assoc}
use Rattle.plan_types.specs.declared.element.Element.{Element}
use Rattle.plan_types.specs.declared.element.Element.TheVariants.{Section}
use Rattle.cabal_lexer.specs.Canonical.{section_line, element_text, items_text}
use Rattle.cabal_lexer.specs.Folds.{text-section}

-- a section's line, and then its items
pub section_printed : (text mid new indent inner name n args a : List ℕ) (items is : List Element) (element : Element) (line : ℕ) →
    element ≡ Section line n a is → name ≡ n → args ≡ a → items ≡ is → inner ≡ indent ++ 32 ∷ 32 ∷ [] → mid ≡ text ++ section_line indent name args →
    new ≡ mid ++ items_text items inner → new ≡ text ++ element_text element indent
section_printed text mid new indent inner name n args a items is element line el nm ar it inn m f =
    f ∙ ap (λ v. v ++ items_text items inner) m ∙ append_assoc text (section_line indent name args) (items_text items inner)
    ∙ ap (λ v. text ++ (section_line indent v args ++ items_text items inner)) nm
    ∙ ap (λ v. text ++ (section_line indent n v ++ items_text items inner)) ar
    ∙ ap (λ v. text ++ (section_line indent n a ++ items_text v inner)) it
    ∙ ap (λ v. text ++ (section_line indent n a ++ items_text is v)) inn
    ∙ ap (λ v. text ++ v) (sym (text-section line n a is indent) ∙ ap (λ v. element_text v indent) (sym el))
