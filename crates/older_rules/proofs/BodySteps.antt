-- One item inside a section, before the items after it.
use Rattle.std.proofs.Common.{◌≡◌, ℕ, List, ◌++◌, Bool, false, sym, ap, ◌∙◌}
use Rattle.plan_types.specs.declared.element.Element.{Element}
use Rattle.plan_types.specs.declared.element.Element.TheVariants.{Field, Section}
use Rattle.cabal_lexer.specs.Tree.{in_front, tree_of}
use Rattle.cabal_lexer.proofs.ElementTrees.{field_in_front, section_in_front, added}
use Rattle.older_rules.specs.declared.change.Change.{Change}
use Rattle.older_fields.specs.declared.edition.Edition.{Edition}
use Rattle.older_rules.specs.declared.body.FieldRule.{FieldRule}
use Rattle.older_rules.specs.declared.body.Place.{Place}
use Rattle.older_fields.specs.NameMaps.{Entry}
use Rattle.older_rules.specs.Bodies.{field_rule, place_of, chained_after, is_opening, field_kept, field_told, section_kept, section_told, kept, told, Keeps, Tells}

module _ (edition : Edition) (tools : List Entry) (chained : Bool) where
  pub field_keeps : {item : Element} (line : ℕ) (name : List ℕ) (values : List (List ℕ)) {rule : FieldRule} {after : Bool} (old new : List Element) →
      item ≡ Field line name values → rule ≡ field_rule edition name → after ≡ chained_after rule chained → new ≡ old ++ field_kept tools rule line name values →
      Keeps edition tools item chained after old new
  unfolding kept
  field_keeps line name values {rule = rule} old new is rule-is after-is new-is behind =
      ap (λ a. new ++ kept edition tools a behind) after-is
      ∙ added old (field_kept tools rule line name values) (kept edition tools (chained_after rule chained) behind) new-is
      ∙ ap (λ r. old ++ (field_kept tools r line name values ++ kept edition tools (chained_after r chained) behind)) rule-is
      ∙ ap (λ t. old ++ kept edition tools chained t) (sym (field_in_front line name values behind))
      ∙ ap (λ i. old ++ kept edition tools chained (in_front i behind)) (sym is)

  pub field_tells : {item : Element} (line : ℕ) (name : List ℕ) (values : List (List ℕ)) {rule : FieldRule} {after : Bool} (old new : List Change) →
      item ≡ Field line name values → rule ≡ field_rule edition name → after ≡ chained_after rule chained → new ≡ old ++ field_told tools rule line values →
      Tells edition tools item chained after old new
  unfolding told
  field_tells line name values {rule = rule} old new is rule-is after-is new-is behind =
      ap (λ a. new ++ told edition tools a behind) after-is
      ∙ added old (field_told tools rule line values) (told edition tools (chained_after rule chained) behind) new-is
      ∙ ap (λ r. old ++ (field_told tools r line values ++ told edition tools (chained_after r chained) behind)) rule-is
      ∙ ap (λ t. old ++ told edition tools chained t) (sym (field_in_front line name values behind))
      ∙ ap (λ i. old ++ told edition tools chained (in_front i behind)) (sym is)

  pub section_keeps : {item : Element} (line : ℕ) (name args : List ℕ) (items : List Element) (place : Place) (old new : List Element) →
      item ≡ Section line name args items → place_of edition chained name ≡ place →
      new ≡ old ++ section_kept place line name args (kept edition tools false (tree_of items)) →
      Keeps edition tools item chained (is_opening place) old new
  unfolding kept
  section_keeps line name args items place old new is place-is new-is behind =
      added old (section_kept place line name args (kept edition tools false (tree_of items))) (kept edition tools (is_opening place) behind) new-is
      ∙ ap (λ p. old ++ (section_kept p line name args (kept edition tools false (tree_of items)) ++ kept edition tools (is_opening p) behind)) (sym place-is)
      ∙ ap (λ t. old ++ kept edition tools chained t) (sym (section_in_front line name args items behind))
      ∙ ap (λ i. old ++ kept edition tools chained (in_front i behind)) (sym is)

  pub section_tells : {item : Element} (line : ℕ) (name args : List ℕ) (items : List Element) (place : Place) (old new : List Change) →
      item ≡ Section line name args items → place_of edition chained name ≡ place →
      new ≡ old ++ section_told place line (told edition tools false (tree_of items)) →
      Tells edition tools item chained (is_opening place) old new
  unfolding told
  section_tells line name args items place old new is place-is new-is behind =
      added old (section_told place line (told edition tools false (tree_of items))) (told edition tools (is_opening place) behind) new-is
      ∙ ap (λ p. old ++ (section_told p line (told edition tools false (tree_of items)) ++ told edition tools (is_opening p) behind)) (sym place-is)
      ∙ ap (λ t. old ++ told edition tools chained t) (sym (section_in_front line name args items behind))
      ∙ ap (λ i. old ++ told edition tools chained (in_front i behind)) (sym is)
