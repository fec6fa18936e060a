-- The parts with one more element.
use Rattle.std.proofs.Common.{◌≡◌, ℕ, Bool, ◌&&◌, false, ◌+◌, ◌<◌, length, List, [], ◌∷◌, ◌++◌, map, get_or, drop, sym, subst, ap, ◌∙◌, refl, append_assoc}
use Rattle.std.specs.Prelude.{Option, None, Some}
use Rattle.std.specs.declared.result.Result.{Result}
use Rattle.std.proofs.lemmas.List.{map-append}
use Rattle.std.proofs.Math.Bool.{and_assoc}
use Rattle.plan_types.specs.Bytes.{joined_text}
use Rattle.plan_types.specs.declared.condition.Cond.{Cond}
use Rattle.plan_types.specs.declared.element.Element.{Element}
use Rattle.plan_types.specs.declared.element.Element.TheVariants.{Field, Section}
use Rattle.plan_types.specs.declared.range.Spec.{Spec}
use Rattle.plan_types.specs.declared.refusal.Cause.{Cause}
use Rattle.section_syntax.specs.Branch.{condition, branch_of, chain_of, OwnCondition}
use Rattle.section_syntax.specs.Items.{Items, FieldSays, SectionSays, are_imports, branch_fits, import_fits, is_import, may_import, placed}
use Rattle.cabal_lexer.specs.Tree.{Tree, end, in_front, tree_of, Goes}
use Rattle.section_syntax.specs.Words.{field_word, inner_word}
use Rattle.section_syntax.specs.declared.branch.Branch.{Branch}
use Rattle.section_syntax.specs.declared.part.SectionPart.{SectionPart}
use Rattle.section_syntax.specs.declared.part.Said.{Said}
use Rattle.section_syntax.specs.declared.part.Said.TheVariants as said
use Rattle.section_syntax.specs.declared.part.SectionKind.{SectionKind}
use Rattle.section_syntax.specs.declared.words.BranchWord.{BranchWord}
use Rattle.section_syntax.specs.declared.words.FieldWord.{FieldWord}
use Rattle.section_syntax.specs.declared.words.InnerWord.{InnerWord}
use Rattle.section_syntax.specs.declared.words.InnerWord.TheVariants as inner
use Rattle.section_syntax.proofs.Trees.{field_step, section_step}
use Rattle.cabal_lexer.proofs.ElementTrees.{added, field_in_front, section_in_front, tree_from}

pub begins-under : (spec : Spec) (branches : List Branch) → may_import spec branches ≡ may_import spec (map condition branches)
begins-under spec [] = refl
begins-under spec (outer ∷ branches) = refl

module _ (spec : Spec) (kind : SectionKind) where
  pub field_goes : {item : Element} (line : ℕ) (name : List ℕ) (values : List (List ℕ)) {word : FieldWord} {fits : Bool} (front : Tree) (chain : Option Cond) (branches : List Cond) (found : Option Said) (old : List SectionPart) {new : List SectionPart} →
      item ≡ Field line name values → word ≡ field_word kind name → fits ≡ import_fits spec kind front branches → FieldSays spec word line (joined_text values) fits found →
      new ≡ old ++ placed line branches found →
      (behind : Tree) (more : List SectionPart) → Items spec kind (in_front item front) behind branches None more →
      Goes (λ x. Items spec kind front (in_front item behind) branches chain x) old new more
  field_goes line name values {word = word} front chain branches found old is word-is fits-is says new-is behind more rest = (
    placed line branches found ++ more,
    subst (λ i. Items spec kind front (in_front i behind) branches chain (placed line branches found ++ more)) (sym is)
        (field_step spec kind line name values front behind branches chain found more
        (subst (λ w. FieldSays spec w line (joined_text values) (import_fits spec kind front branches) found) word-is
        (subst (λ b. FieldSays spec word line (joined_text values) b found) fits-is says))
        (subst (λ i. Items spec kind (in_front i front) behind branches None more) is rest)),
    added old (placed line branches found) more new-is,
  )

  pub field_tells : {item : Element} (line : ℕ) (name : List ℕ) (values : List (List ℕ)) {word : FieldWord} {fits after : Bool} (front : Tree) (branches : List Cond) →
      item ≡ Field line name values → word ≡ field_word kind name → after ≡ (is_import word && fits) → fits ≡ import_fits spec kind front branches →
      after ≡ import_fits spec kind (in_front item front) branches
  field_tells line name values {fits = fits} front branches is word-is after-is fits-is =
      after-is ∙ ap (λ w. is_import w && fits) word-is ∙ ap (λ b. is_import (field_word kind name) && b) fits-is
      ∙ sym (and_assoc (is_import (field_word kind name)) (are_imports kind front) (may_import spec branches))
      ∙ ap (λ t. import_fits spec kind t branches) (sym (ap (λ i. in_front i front) is ∙ field_in_front line name values front))

  pub section_tells : {item : Element} (line : ℕ) (name args : List ℕ) (items : List Element) (front : Tree) (branches : List Cond) →
      item ≡ Section line name args items → false ≡ import_fits spec kind (in_front item front) branches
  section_tells line name args items front branches is =
      ap (λ t. import_fits spec kind t branches) (sym (ap (λ i. in_front i front) is ∙ section_in_front line name args items front))

  pub section_goes : {item : Element} (line : ℕ) (name args : List ℕ) (items : List Element) {word : InnerWord} (front : Tree) (chain : Option Cond) (branches : List Cond) (old new : List SectionPart) (behind : Tree) (more : List SectionPart) →
      item ≡ Section line name args items → word ≡ inner_word kind name →
      Goes (λ x. SectionSays spec word line args branches chain
      (λ within said. Items spec kind end (tree_of items) within None said)
      (λ left said. Items spec kind (in_front item front) behind branches left said) x) old new more →
      Goes (λ x. Items spec kind front (in_front item behind) branches chain x) old new more
  section_goes line name args items {word = word} front chain branches old new behind more is word-is goes = (
    goes.0,
    subst (λ i. Items spec kind front (in_front i behind) branches chain goes.0) (sym is)
        (section_step spec kind line name args items front behind branches chain goes.0
        (subst (λ w. SectionSays spec w line args branches chain
        (λ within said. Items spec kind end (tree_of items) within None said)
        (λ left said. Items spec kind (in_front (Section line name args items) front) behind branches left said) goes.0) word-is
        (subst (λ i. SectionSays spec word line args branches chain
        (λ within said. Items spec kind end (tree_of items) within None said)
        (λ left said. Items spec kind (in_front i front) behind branches left said) goes.0) is goes.1))),
    goes.2,
  )

  -- one more element
  pub loop_tells : (item : Element) {outer inner : List Branch} {fits after : Bool} (front : Tree) → inner ≡ outer → fits ≡ import_fits spec kind front (map condition inner) →
      ((front : Tree) → fits ≡ import_fits spec kind front (map condition inner) → after ≡ import_fits spec kind (in_front item front) (map condition inner)) →
      after ≡ import_fits spec kind (in_front item front) (map condition outer)
  loop_tells item {after = after} front same tells step = subst (λ b. after ≡ import_fits spec kind (in_front item front) (map condition b)) same (step front tells)

  pub loop_goes : (items : List Element) (n : ℕ) (item : Element) {outer inner : List Branch} (front : Tree) (chain left : Option Cond) (Are : List SectionPart → Type 0) (first old new : List SectionPart) →
      n < length items → get_or items n item ≡ item → inner ≡ outer →
      ((more : List SectionPart) → Items spec kind front (tree_of (drop n items)) (map condition outer) chain more → Goes Are first old more) →
      ((behind : Tree) (more : List SectionPart) → Items spec kind (in_front item front) behind (map condition inner) left more →
      Goes (λ x. Items spec kind front (in_front item behind) (map condition inner) chain x) old new more) →
      (more : List SectionPart) → Items spec kind (in_front item front) (tree_of (drop (n + 1) items)) (map condition outer) left more → Goes Are first new more
  loop_goes items n item {outer = outer} {inner = inner} front chain left Are first old new lt is same before step more rest =
      let here = step (tree_of (drop (n + 1) items)) more (subst (λ b. Items spec kind (in_front item front) (tree_of (drop (n + 1) items)) (map condition b) left more) (sym same) rest) in
      let there = before here.0 (subst (λ t. Items spec kind front t (map condition outer) chain here.0) (sym (tree_from items n item lt is))
      (subst (λ b. Items spec kind front (in_front item (tree_of (drop (n + 1) items))) (map condition b) chain here.0) same here.1)) in
      (there.0, there.1, here.2 ∙ there.2)

  pub unread_goes : {word : InnerWord} (line : ℕ) (args : List ℕ) (branches : List Cond) (chain : Option Cond) (Within : List Cond → List SectionPart → Type 0) (Behind : Option Cond → List SectionPart → Type 0) (old more : List SectionPart) →
      word ≡ inner.Unread → Behind None more → Goes (λ x. SectionSays spec word line args branches chain Within Behind x) old old more
  unread_goes line args branches chain Within Behind old more is rest =
      (more, subst (λ w. SectionSays spec w line args branches chain Within Behind more) (sym is) rest, refl)

  pub misplaced_goes : {word : InnerWord} (line : ℕ) (args : List ℕ) (branches : List Cond) (chain : Option Cond) (Within : List Cond → List SectionPart → Type 0) (Behind : Option Cond → List SectionPart → Type 0) (old more : List SectionPart) {new : List SectionPart} →
      word ≡ inner.Misplaced → new ≡ old ++ placed line branches (Some said.Misplaced) → Behind None more → Goes (λ x. SectionSays spec word line args branches chain Within Behind x) old new more
  misplaced_goes line args branches chain Within Behind old more is new-is rest =
      let all = placed line branches (Some said.Misplaced) ++ more in
      (all, subst (λ w. SectionSays spec w line args branches chain Within Behind all) (sym is) (more, rest, refl), added old (placed line branches (Some said.Misplaced)) more new-is)

  pub branch_goes : {word : InnerWord} (branch-word : BranchWord) (line : ℕ) (args : List ℕ) (outer : List Branch) {pushed : List Branch} (chain : Option Cond) (items : Tree) (Behind : Option Cond → List SectionPart → Type 0)
      (old more within : List SectionPart) {opened new : List SectionPart} (own : Result Cond Cause) {branch : Branch} {left : Option Cond} →
      word ≡ inner.Branch branch-word → OwnCondition spec branch-word args own → branch ≡ branch_of branch-word chain own →
      opened ≡ old ++ placed line (map condition outer) (Some (said.Branch branch-word own (branch_fits branch-word chain))) →
      pushed ≡ outer ++ branch ∷ [] → Items spec kind end items (map condition pushed) None within → new ≡ opened ++ within →
      left ≡ chain_of branch → Behind left more →
      Goes (λ x. SectionSays spec word line args (map condition outer) chain (λ inside said. Items spec kind end items inside None said) Behind x) old new more
  branch_goes branch-word line args outer {pushed = pushed} chain items Behind old more within {opened = opened} own {branch = branch} is reads branch-is opened-is pushed-is inside new-is left-is rest =
      let head = placed line (map condition outer) (Some (said.Branch branch-word own (branch_fits branch-word chain))) in
      let all = head ++ within ++ more in
      let under : map condition pushed ≡ map condition outer ++ condition (branch_of branch-word chain own) ∷ [] =
      ap (map condition) pushed-is ∙ map-append condition outer (branch ∷ []) ∙ ap (λ b. map condition outer ++ condition b ∷ []) branch-is in (
        all,
        subst (λ w. SectionSays spec w line args (map condition outer) chain (λ inside said. Items spec kind end items inside None said) Behind all) (sym is)
            (record {
              own = own;
              within = within;
              behind = more;
              reads = reads;
              inside = subst (λ v. Items spec kind end items v None within) under inside;
              others = subst (λ l. Behind l more) (left-is ∙ ap chain_of branch-is) rest;
              are = refl;
            }),
        ap (λ v. v ++ more) new-is ∙ append_assoc opened within more ∙ added old head (within ++ more) opened-is,
      )
