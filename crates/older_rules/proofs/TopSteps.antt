-- One item of a file, before the items after it.
use Rattle.std.proofs.Common.{◌≡◌, ℕ, List, [], ◌∷◌, ◌++◌, sym, ap, ◌∙◌}
use Rattle.plan_types.specs.declared.element.Element.{Element}
use Rattle.plan_types.specs.declared.element.Element.TheVariants.{Field, Section}
use Rattle.cabal_lexer.specs.Tree.{in_front, tree_of}
use Rattle.cabal_lexer.proofs.ElementTrees.{field_in_front, section_in_front, added}
use Rattle.older_rules.specs.declared.change.Change.{Change}
use Rattle.older_rules.specs.declared.change.Change.TheVariants.{Dropped}
use Rattle.older_fields.specs.declared.edition.Edition.{Edition}
use Rattle.older_rules.specs.declared.tops.TopRule.{TopRule}
use Rattle.older_fields.specs.NameMaps.{Entry}
use Rattle.older_rules.specs.Tops.{top_rule, top_kept, top_told, tops, tops_told, KeepsTop, TellsTop}

module _ (edition : Edition) (tools : List Entry) (names : List Entry) where
  pub field_keeps : {item : Element} (line : ℕ) (name : List ℕ) (values : List (List ℕ)) (old : List Element) → item ≡ Field line name values →
      KeepsTop edition tools names item old old
  unfolding tops
  field_keeps line name values old is behind =
      ap (λ t. old ++ tops edition tools names t) (sym (field_in_front line name values behind))
      ∙ ap (λ i. old ++ tops edition tools names (in_front i behind)) (sym is)

  pub section_keeps : {item : Element} (line : ℕ) (name args : List ℕ) (items : List Element) (rule : TopRule) (old new : List Element) →
      item ≡ Section line name args items → rule ≡ top_rule edition name →
      new ≡ old ++ top_kept edition tools names rule line name args (tree_of items) → KeepsTop edition tools names item old new
  unfolding tops
  section_keeps line name args items rule old new is rule-is new-is behind =
      added old (top_kept edition tools names rule line name args (tree_of items)) (tops edition tools names behind) new-is
      ∙ ap (λ r. old ++ (top_kept edition tools names r line name args (tree_of items) ++ tops edition tools names behind)) rule-is
      ∙ ap (λ t. old ++ tops edition tools names t) (sym (section_in_front line name args items behind))
      ∙ ap (λ i. old ++ tops edition tools names (in_front i behind)) (sym is)

module _ (edition : Edition) (tools : List Entry) where
  pub field_tells : {item : Element} (line : ℕ) (name : List ℕ) (values : List (List ℕ)) (old new : List Change) → item ≡ Field line name values →
      new ≡ old ++ Dropped line ∷ [] → TellsTop edition tools item old new
  unfolding tops_told
  field_tells line name values old new is new-is behind =
      added old (Dropped line ∷ []) (tops_told edition tools behind) new-is
      ∙ ap (λ t. old ++ tops_told edition tools t) (sym (field_in_front line name values behind))
      ∙ ap (λ i. old ++ tops_told edition tools (in_front i behind)) (sym is)

  pub section_tells : {item : Element} (line : ℕ) (name args : List ℕ) (items : List Element) (rule : TopRule) (old new : List Change) →
      item ≡ Section line name args items → rule ≡ top_rule edition name →
      new ≡ old ++ top_told edition tools rule line args (tree_of items) → TellsTop edition tools item old new
  unfolding tops_told
  section_tells line name args items rule old new is rule-is new-is behind =
      added old (top_told edition tools rule line args (tree_of items)) (tops_told edition tools behind) new-is
      ∙ ap (λ r. old ++ (top_told edition tools r line args (tree_of items) ++ tops_told edition tools behind)) rule-is
      ∙ ap (λ t. old ++ tops_told edition tools t) (sym (section_in_front line name args items behind))
      ∙ ap (λ i. old ++ tops_told edition tools (in_front i behind)) (sym is)
