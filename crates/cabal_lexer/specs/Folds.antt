-- The folds of an element, by its kind.
use Rattle.std.specs.Prelude.{ℕ, ◌≡◌, Bool, not, ◌&&◌, List, [], ◌∷◌, ◌++◌}
use Rattle.std.proofs.Common.{sym, ◌∙◌, ap}
use Rattle.std.specs.List.{list_all}
use Rattle.std.proofs.lemmas.List.Folds.{flat_map-map, list_all-map}
use Rattle.plan_types.specs.declared.element.Element.{Element, fold-Element, fold-roll-Element}
use Rattle.plan_types.specs.declared.element.Element.TheOpen as open'
use Rattle.plan_types.specs.declared.element.Element.TheVariants.{Field, Section, rolls-Field, rolls-Section}
use Rattle.cabal_lexer.specs.Canonical.{field_text, section_line, layer, element_text, items_text}
use Rattle.cabal_lexer.specs.RoundTrip.{zero_layer, unnumbered, ends_with_return, return_layer, without_returns}

-- the text of a field
pub text-field : (line : ℕ) (name : List ℕ) (values : List (List ℕ)) (indent : List ℕ) → element_text (Field line name values) indent ≡ field_text indent name values
text-field line name values indent =
    ap (λ v. element_text v indent) (sym (rolls-Field line name values)) ∙ ap (λ f. f indent) (fold-roll-Element (List ℕ → List ℕ) layer (open'.Field line name values))

-- the text of a section
pub text-section : (line : ℕ) (name args : List ℕ) (items : List Element) (indent : List ℕ) →
    element_text (Section line name args items) indent ≡ section_line indent name args ++ items_text items (indent ++ 32 ∷ 32 ∷ [])
text-section line name args items indent =
    ap (λ v. element_text v indent) (sym (rolls-Section line name args items))
    ∙ ap (λ f. f indent) (fold-roll-Element (List ℕ → List ℕ) layer (open'.Section line name args items))
    ∙ ap (λ v. section_line indent name args ++ v) (flat_map-map (λ f. f (indent ++ 32 ∷ 32 ∷ [])) (fold-Element (List ℕ → List ℕ) layer) items)

-- a field without its line number
pub zero-field : (line : ℕ) (name : List ℕ) (values : List (List ℕ)) → fold-Element Element zero_layer (Field line name values) ≡ Field 0 name values
zero-field line name values =
    ap (fold-Element Element zero_layer) (sym (rolls-Field line name values)) ∙ fold-roll-Element Element zero_layer (open'.Field line name values)

-- a section without its line number
pub zero-section : (line : ℕ) (name args : List ℕ) (items : List Element) → fold-Element Element zero_layer (Section line name args items) ≡ Section 0 name args (unnumbered items)
zero-section line name args items =
    ap (fold-Element Element zero_layer) (sym (rolls-Section line name args items)) ∙ fold-roll-Element Element zero_layer (open'.Section line name args items)

-- whether no value of a field ends with a carriage return
pub return-field : (line : ℕ) (name : List ℕ) (values : List (List ℕ)) → fold-Element Bool return_layer (Field line name values) ≡ list_all (λ value. not (ends_with_return value)) values
return-field line name values =
    ap (fold-Element Bool return_layer) (sym (rolls-Field line name values)) ∙ fold-roll-Element Bool return_layer (open'.Field line name values)

-- whether no text of a section ends with a carriage return
pub return-section : (line : ℕ) (name args : List ℕ) (items : List Element) →
    fold-Element Bool return_layer (Section line name args items) ≡ (not (ends_with_return args) && without_returns items)
return-section line name args items =
    ap (fold-Element Bool return_layer) (sym (rolls-Section line name args items)) ∙ fold-roll-Element Bool return_layer (open'.Section line name args items)
    ∙ ap (λ b. not (ends_with_return args) && b) (list_all-map (λ b. b) (fold-Element Bool return_layer) items)
