-- The first element of a tree, and the parts that it becomes.
use Rattle.std.proofs.Common.{ℕ, List, ◌++◌, sym, subst, refl}
use Rattle.std.specs.Prelude.{Option, None}
use Rattle.plan_types.specs.Bytes.{joined_text}
use Rattle.plan_types.specs.declared.condition.Cond.{Cond}
use Rattle.plan_types.specs.declared.element.Element.{Element}
use Rattle.plan_types.specs.declared.element.Element.TheVariants.{Field, Section}
use Rattle.plan_types.specs.declared.range.Spec.{Spec}
use Rattle.section_syntax.specs.Items.{Items, FieldSays, SectionSays, import_fits, placed}
use Rattle.cabal_lexer.specs.Tree.{Tree, end, in_front, tree_of}
use Rattle.section_syntax.specs.Words.{field_word, inner_word}
use Rattle.section_syntax.specs.declared.part.SectionPart.{SectionPart}
use Rattle.section_syntax.specs.declared.part.Said.{Said}
use Rattle.section_syntax.specs.declared.part.SectionKind.{SectionKind}
use Rattle.cabal_lexer.proofs.ElementTrees.{field_in_front, section_in_front}

module _ (spec : Spec) (kind : SectionKind) where
  pub field_step : (line : ℕ) (name : List ℕ) (values : List (List ℕ)) (front behind : Tree) (branches : List Cond) (chain : Option Cond)
      (found : Option Said) (more : List SectionPart) → FieldSays spec (field_word kind name) line (joined_text values) (import_fits spec kind front branches) found →
      Items spec kind (in_front (Field line name values) front) behind branches None more →
      Items spec kind front (in_front (Field line name values) behind) branches chain (placed line branches found ++ more)
  unfolding Items
  field_step line name values front behind branches chain found more says rest =
      subst (λ t. Items spec kind front t branches chain (placed line branches found ++ more)) (sym (field_in_front line name values behind))
      (found, more, says, subst (λ t. Items spec kind t behind branches None more) (field_in_front line name values front) rest, refl)

  pub section_step : (line : ℕ) (name args : List ℕ) (items : List Element) (front behind : Tree) (branches : List Cond) (chain : Option Cond) (found : List SectionPart) →
      SectionSays spec (inner_word kind name) line args branches chain
      (λ within said. Items spec kind end (tree_of items) within None said)
      (λ left said. Items spec kind (in_front (Section line name args items) front) behind branches left said) found →
      Items spec kind front (in_front (Section line name args items) behind) branches chain found
  unfolding Items
  section_step line name args items front behind branches chain found says =
      subst (λ t. Items spec kind front t branches chain found) (sym (section_in_front line name args items behind))
      (subst (λ t. SectionSays spec (inner_word kind name) line args branches chain
      (λ within said. Items spec kind end (tree_of items) within None said)
      (λ left said. Items spec kind t behind branches left said) found) (section_in_front line name args items front) says)
