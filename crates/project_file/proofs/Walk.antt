-- The parts with one more element.
use Rattle.std.proofs.Common.{◌≡◌, ℕ, Bool, ◌+◌, ◌<◌, length, List, ◌++◌, get_or, drop, ◌≤◌, sym, subst, ap, ◌∙◌, refl}
use Rattle.std.proofs.lemmas.List.{append-nil, drop_all}
use Rattle.std.specs.Prelude.{Option, None, Some}
use Rattle.plan_types.specs.Bytes.{joined_text}
use Rattle.plan_types.specs.declared.condition.Env.{Env}
use Rattle.plan_types.specs.declared.element.Element.{Element}
use Rattle.plan_types.specs.declared.element.Element.TheVariants.{Field, Section}
use Rattle.plan_types.specs.declared.refusal.Cause.TheVariants.{Unsupported}
use Rattle.cabal_lexer.specs.Tree.{Tree, in_front, tree_of, Goes}
use Rattle.project_file.specs.Fields.{FieldSays}
use Rattle.project_file.specs.Parts.{IsBranch, Says, SectionSays, flag_part, flag_parts, package_parts, placed}
use Rattle.project_file.specs.Words.{field_word, section_word}
use Rattle.project_file.specs.declared.part.ProjectPart.{ProjectPart}
use Rattle.project_file.specs.declared.part.ProjectSaid.{ProjectSaid}
use Rattle.project_file.specs.declared.part.ProjectSaid.TheVariants as said
use Rattle.project_file.specs.declared.words.ProjectBranchWord.{ProjectBranchWord}
use Rattle.project_file.specs.declared.words.SectionWord.{SectionWord}
use Rattle.cabal_lexer.proofs.ElementTrees.{added, field_in_front, section_in_front, tree_from}
use Rattle.project_file.specs.declared.words.SectionWord.TheVariants as sections

module _ (env : Env) where
  pub field_goes : {item : Element} (line : ℕ) (name : List ℕ) (values : List (List ℕ)) (chain : Option Bool) (found : Option ProjectSaid) (old : List ProjectPart) {new : List ProjectPart} →
      item ≡ Field line name values → FieldSays (field_word name) name (joined_text values) found → new ≡ old ++ placed line found →
      (behind : Tree) (more : List ProjectPart) → Says env behind None more → Goes (λ x. Says env (in_front item behind) chain x) old new more
  unfolding Says
  field_goes line name values chain found old is says new-is behind more rest = (
    placed line found ++ more,
    subst (λ t. Says env t chain (placed line found ++ more)) (sym (ap (λ i. in_front i behind) is ∙ field_in_front line name values behind)) (found, more, says, rest, refl),
    added old (placed line found) more new-is,
  )

  pub section_goes : {item : Element} (line : ℕ) (name args : List ℕ) (items : List Element) {word : SectionWord} (chain : Option Bool) (old new : List ProjectPart) (behind : Tree) (more : List ProjectPart) →
      item ≡ Section line name args items → word ≡ section_word name →
      Goes (λ x. SectionSays env word line name args (tree_of items) chain (λ within. Says env (tree_of items) None within) (λ left said. Says env behind left said) x) old new more →
      Goes (λ x. Says env (in_front item behind) chain x) old new more
  unfolding Says
  section_goes line name args items chain old new behind more is word-is goes = (
    goes.0,
    subst (λ t. Says env t chain goes.0) (sym (ap (λ i. in_front i behind) is ∙ section_in_front line name args items behind))
        (subst (λ w. SectionSays env w line name args (tree_of items) chain (λ within. Says env (tree_of items) None within) (λ left said. Says env behind left said) goes.0) word-is goes.1),
    goes.2,
  )

  -- one more element
  pub loop_goes : (items : List Element) (n : ℕ) (item : Element) (chain left : Option Bool) (Are : List ProjectPart → Type 0) (first old new : List ProjectPart) →
      n < length items → get_or items n item ≡ item →
      ((more : List ProjectPart) → Says env (tree_of (drop n items)) chain more → Goes Are first old more) →
      ((behind : Tree) (more : List ProjectPart) → Says env behind left more → Goes (λ x. Says env (in_front item behind) chain x) old new more) →
      (more : List ProjectPart) → Says env (tree_of (drop (n + 1) items)) left more → Goes Are first new more
  loop_goes items n item chain left Are first old new lt is before step more rest =
      let here = step (tree_of (drop (n + 1) items)) more rest in
      let there = before here.0 (subst (λ t. Says env t chain here.0) (sym (tree_from items n item lt is)) here.1) in
      (there.0, there.1, here.2 ∙ there.2)

-- one more section
module _ (env : Env) (line : ℕ) (name args : List ℕ) (items : Tree) (chain : Option Bool) (Within : List ProjectPart → Type 0) (Behind : Option Bool → List ProjectPart → Type 0) where
  abbrev Are : SectionWord → List ProjectPart → Type 0
  Are word parts = SectionSays env word line name args items chain Within Behind parts

  pub unread_goes : {word : SectionWord} (old more : List ProjectPart) → word ≡ sections.Unread → Behind None more → Goes (Are word) old old more
  unread_goes old more is rest = (more, subst (λ w. Are w more) (sym is) rest, refl)

  pub warned_goes : {word : SectionWord} (old more : List ProjectPart) {new : List ProjectPart} → word ≡ sections.Warned → new ≡ old ++ placed line (Some (said.Warning name)) → Behind None more → Goes (Are word) old new more
  warned_goes old more is new-is rest =
      let front = placed line (Some (said.Warning name)) in
      (front ++ more, subst (λ w. Are w (front ++ more)) (sym is) (more, rest, refl), added old front more new-is)

  pub unsupported_goes : {word : SectionWord} (old more : List ProjectPart) {new : List ProjectPart} → word ≡ sections.Unsupported → new ≡ old ++ placed line (Some (said.Bad Unsupported)) → Behind None more → Goes (Are word) old new more
  unsupported_goes old more is new-is rest =
      let front = placed line (Some (said.Bad Unsupported)) in
      (front ++ more, subst (λ w. Are w (front ++ more)) (sym is) (more, rest, refl), added old front more new-is)

  pub package_goes : {word : SectionWord} (old more : List ProjectPart) {new : List ProjectPart} → word ≡ sections.Package → new ≡ old ++ package_parts line args items → Behind None more → Goes (Are word) old new more
  package_goes old more is new-is rest =
      let front = package_parts line args items in
      (front ++ more, subst (λ w. Are w (front ++ more)) (sym is) (more, rest, refl), added old front more new-is)

  pub branch_goes : {word : SectionWord} (branch-word : ProjectBranchWord) (left : Option Bool) (found old more : List ProjectPart) {new : List ProjectPart} → word ≡ sections.Branch branch-word →
      IsBranch env branch-word line args chain Within left found → new ≡ old ++ found → Behind left more → Goes (Are word) old new more
  branch_goes branch-word left found old more is branch new-is rest =
      (found ++ more, subst (λ w. Are w (found ++ more)) (sym is) (left, found, more, branch, rest, refl), added old found more new-is)

-- the flags of a `package` section with one more element
pub flag_field : (args : List ℕ) {item : Element} (line : ℕ) (name : List ℕ) (values : List (List ℕ)) (behind : Tree) → item ≡ Field line name values →
    flag_parts args (in_front item behind) ≡ flag_part args line name (joined_text values) ++ flag_parts args behind
unfolding flag_parts
flag_field args line name values behind is = ap (λ i. flag_parts args (in_front i behind)) is ∙ ap (flag_parts args) (field_in_front line name values behind)

pub flag_section : (args : List ℕ) {item : Element} (line : ℕ) (name inner : List ℕ) (items : List Element) (behind : Tree) → item ≡ Section line name inner items →
    flag_parts args (in_front item behind) ≡ flag_parts args behind
unfolding flag_parts
flag_section args line name inner items behind is = ap (λ i. flag_parts args (in_front i behind)) is ∙ ap (flag_parts args) (section_in_front line name inner items behind)

pub flag_more : (args : List ℕ) (items : List Element) (n : ℕ) (item : Element) (old new whole : List ProjectPart) → n < length items → get_or items n item ≡ item →
    old ++ flag_parts args (tree_of (drop n items)) ≡ whole →
    ((behind : Tree) → new ++ flag_parts args behind ≡ old ++ flag_parts args (in_front item behind)) →
    new ++ flag_parts args (tree_of (drop (n + 1) items)) ≡ whole
flag_more args items n item old new whole lt is before step =
    step (tree_of (drop (n + 1) items)) ∙ ap (λ t. old ++ flag_parts args t) (sym (tree_from items n item lt is)) ∙ before

pub flag_end : (args : List ℕ) (items : List Element) (n : ℕ) (parts whole : List ProjectPart) → length items ≤ n → parts ++ flag_parts args (tree_of (drop n items)) ≡ whole → parts ≡ whole
unfolding flag_parts
flag_end args items n parts whole over before =
    sym (append-nil parts) ∙ ap (λ l. parts ++ flag_parts args (tree_of l)) (sym (drop_all n items over)) ∙ before
