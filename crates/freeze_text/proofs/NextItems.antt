-- What a project file says that has constraints behind what another says.
use Rattle.std.proofs.Common.{◌≡◌, ℕ, ◌+◌, Bool, true, false, List, [], ◌∷◌, ◌++◌, Option, Some, None, refl, sym, ap, ◌∙◌, subst, inl, inr, append_assoc, append-nil, arith}
use Rattle.std.specs.Prelude.{Ok, codes, if◌then◌else◌}
use Rattle.std.specs.List.{AllByRecursion}
use Rattle.std.specs.Str.{IsUtf8}
use Rattle.std.proofs.lemmas.Bool.Decides.{nat_tests}
use Rattle.std.proofs.lemmas.Str.{IsUtf8-append, IsUtf8-nil}
use Rattle.plan_types.specs.Bytes.{same_text}
use Rattle.plan_types.specs.declared.condition.Env.{Env}
use Rattle.plan_types.specs.declared.constraint.Constraint.{Constraint}
use Rattle.plan_types.specs.declared.element.Element.{Element}
use Rattle.plan_types.specs.declared.element.Element.TheVariants.{Field, Section}
use Rattle.plan_types.specs.declared.refusal.Cause.{Cause}
use Rattle.cabal_lexer.specs.Lines.{Line, kept_lines}
use Rattle.cabal_lexer.specs.Layout.{Block, Ends, Stands, braced_run, element, enclosed, first_value, indented, nothing, run, texts}
use Rattle.cabal_lexer.specs.Fault.{StandsFor}
use Rattle.cabal_lexer.specs.RoundTrip.{ends_with_return}
use Rattle.cabal_lexer.specs.Tree.{Tree, field, in_front, section, tree_of}
use Rattle.cabal_lexer.proofs.CanonicalLines.{line_of}
use Rattle.cabal_lexer.proofs.ElementTrees.{field_in_front, section_in_front}
use Rattle.project_file.specs.Parts.{Says, SectionSays, package_parts, placed}
use Rattle.project_file.specs.Texts.{Reads, SaysOf, fault_or, first_fault, unless_bad}
use Rattle.project_file.specs.Words.{section_word}
use Rattle.freeze_text.specs.Reads.{IsPlainConstraint}
use Rattle.freeze_text.specs.Text.{with_newline, freeze_text, refrozen_text}
use Rattle.freeze_text.proofs.Cut.{values}
use Rattle.freeze_text.proofs.Lines.{header, lines-from, text-utf8, value_lines}
use Rattle.freeze_text.proofs.NextLines.{AreBehind, behind, ended-utf8}
use Rattle.freeze_text.proofs.ReadBack.{IsSaid, Part, items_of, said, stands}

-- a block is also one before another rest that ends it
block-before : {depth : ℕ} {braced : Bool} {line : Line} {block rest : List Line} {item : Element} → Block depth braced line block rest item → (other : List Line)
    → (Ends (line.indent + 1) braced rest → Ends (line.indent + 1) braced other) → Block depth braced line block other item
block-before (run b i x) other t = run b i (t x)
block-before (braced_run values close b i c) other t = braced_run values close b i c
block-before (indented b s x) other t = indented b s (t x)
block-before (enclosed block close b s c) other t = enclosed block close b s c

-- ---- lines at the margin begin a new element

ends-margin : (n k : ℕ) (text : List ℕ) (rest more : List Line) → Ends (n + 1) false rest → Ends (n + 1) false (rest ++ line_of k 0 text ∷ more)
ends-margin n k text [] more h = grind (arith, nat_tests)
ends-margin n k text (line ∷ rest) more h = h

module _ (k : ℕ) (text : List ℕ) (more : List Line) where
  stands-both : {bound depth : ℕ} {lines : List Line} {items others : List Element} → Stands bound depth false lines items → Stands bound depth false (line_of k 0 text ∷ more) others
      → Stands bound depth false (lines ++ line_of k 0 text ∷ more) (items ++ others)
  stands-both nothing next = next
  stands-both {bound} {depth} {others = others} (element {items = items} {item = item} line block rest e b t) next =
      subst (λ l. Stands bound depth false (line ∷ l) (item ∷ items ++ others)) (sym (append_assoc block rest (line_of k 0 text ∷ more)))
      (element line block (rest ++ line_of k 0 text ∷ more) e (block-before b (rest ++ line_of k 0 text ∷ more) (ends-margin line.indent k text rest more)) (stands-both t next))

-- ---- what they say

-- the types of the words of sections, and of places of faults
abbrev result_of : {A B : Type 0} → (A → B) → Type 0
result_of {B = B} f = B

abbrev Word : Type 0
Word = result_of section_word

abbrev found_of : {A B : Type 0} → (A → Option B) → Type 0
found_of {B = B} f = B

abbrev FaultAt : Type 0
FaultAt = found_of first_fault

-- one of two
either : {W : Type 0} (P : W → Type 0) (t : Bool) (a b : W) → P a → P b → P (if t then a else b)
either P true a b first second = first
either P false a b first second = second

module _ (env : Env) (said : List Part) where
  -- what stands behind says more
  abbrev Further : Tree → Tree → Type 0
  Further behind now = (chain : Option Bool) (parts : List Part) → Says env behind chain parts → Says env now chain (parts ++ said)

  field-further : (line : ℕ) (name : List ℕ) (values : List (List ℕ)) (behind now : Tree) → Further behind now → Further (field line name values behind) (field line name values now)
  unfolding Says
  field-further line name values behind now step chain parts h =
      (h.0, h.1 ++ said, h.2, step None h.1 h.3, ap (λ p. p ++ said) h.4 ∙ append_assoc (placed line h.0) h.1 said)

  module _ (line : ℕ) (name args : List ℕ) (items : Tree) (chain : Option Bool) (Within : List Part → Type 0) (Behind Now : Option Bool → List Part → Type 0)
      (step : (left : Option Bool) (more : List Part) → Behind left more → Now left (more ++ said)) where
    abbrev IsFurther : Word → Type 0
    IsFurther word = (parts : List Part) → SectionSays env word line name args items chain Within Behind parts → SectionSays env word line name args items chain Within Now (parts ++ said)

    word-further : IsFurther (section_word name)
    word-further =
        either IsFurther (same_text name (codes "if")) _ _ (λ parts h. (h.0, h.1, h.2 ++ said, h.3, step h.0 h.2 h.4, ap (λ p. p ++ said) h.5 ∙ append_assoc h.1 h.2 said))
        (either IsFurther (same_text name (codes "elif")) _ _ (λ parts h. (h.0, h.1, h.2 ++ said, h.3, step h.0 h.2 h.4, ap (λ p. p ++ said) h.5 ∙ append_assoc h.1 h.2 said))
        (either IsFurther (same_text name (codes "else")) _ _ (λ parts h. (h.0, h.1, h.2 ++ said, h.3, step h.0 h.2 h.4, ap (λ p. p ++ said) h.5 ∙ append_assoc h.1 h.2 said))
        (either IsFurther (same_text name (codes "package")) _ _ (λ parts h. (h.0 ++ said, step None h.0 h.1, ap (λ p. p ++ said) h.2 ∙ append_assoc (package_parts line args items) h.0 said))
        (either IsFurther (same_text name (codes "repository")) _ _ (λ parts h. (h.0 ++ said, step None h.0 h.1, ap (λ p. p ++ said) h.2))
        (either IsFurther (same_text name (codes "source-repository-package")) _ _ (λ parts h. (h.0 ++ said, step None h.0 h.1, ap (λ p. p ++ said) h.2)) (λ parts h. step None parts h))))))

  section-further : (line : ℕ) (name args : List ℕ) (items behind now : Tree) → Further behind now → Further (section line name args items behind) (section line name args items now)
  unfolding Says
  section-further line name args items behind now step chain parts h =
      word-further line name args items chain (λ within. Says env items None within) (λ left more. Says env behind left more) (λ left more. Says env now left more) step parts h

  field-item : (line : ℕ) (name : List ℕ) (values : List (List ℕ)) (behind now : Tree) → Further behind now → Further (in_front (Field line name values) behind) (in_front (Field line name values) now)
  field-item line name values behind now step chain parts h =
      subst (λ t. Says env t chain (parts ++ said)) (sym (field_in_front line name values now))
      (field-further line name values behind now step chain parts (subst (λ t. Says env t chain parts) (field_in_front line name values behind) h))

  section-item : (line : ℕ) (name args : List ℕ) (items : List Element) (behind now : Tree) → Further behind now
      → Further (in_front (Section line name args items) behind) (in_front (Section line name args items) now)
  section-item line name args items behind now step chain parts h =
      subst (λ t. Says env t chain (parts ++ said)) (sym (section_in_front line name args items now))
      (section-further line name args (tree_of items) behind now step chain parts (subst (λ t. Says env t chain parts) (section_in_front line name args items behind) h))

  item-further : {depth : ℕ} {line : Line} {block rest : List Line} {item : Element} → Block depth false line block rest item → (behind now : Tree) → Further behind now
      → Further (in_front item behind) (in_front item now)
  item-further {line = line} (run {name = name} {first = first} {values = values} b i x) = field-item line.number name (first_value first ++ texts values)
  item-further {line = line} (braced_run {name = name} values close b i c) = field-item line.number name (texts values)
  item-further {line = line} (indented {name = name} {args = args} {items = items} b t x) = section-item line.number name args items
  item-further {line = line} (enclosed {name = name} {args = args} {items = items} block close b t c) = section-item line.number name args items

  says-both : {bound depth : ℕ} {lines : List Line} {items : List Element} → Stands bound depth false lines items → (others : List Element)
      → ((chain : Option Bool) → Says env (tree_of others) chain said) → Further (tree_of items) (tree_of (items ++ others))
  unfolding Says
  says-both nothing others next chain parts h = subst (λ p. Says env (tree_of others) chain (p ++ said)) (sym h) (next chain)
  says-both (element {items = items} {item = item} line block rest e b t) others next chain parts h =
      item-further b (tree_of items) (tree_of (items ++ others)) (says-both t others next) chain parts h

-- ---- what is read

-- no part is a fault
later-fault : (o : Option Cause) (line : ℕ) (a b : Option FaultAt) → (a ≡ None → b ≡ None) → fault_or o line a ≡ None → fault_or o line b ≡ None
later-fault None line a b step h = step h
later-fault (Some cause) line a b step h = absurd (cc h)

faultless-both : (a b : List Part) → first_fault a ≡ None → first_fault b ≡ None → first_fault (a ++ b) ≡ None
faultless-both [] b h k = k
faultless-both (part ∷ a) b h k = later-fault _ _ (first_fault a) (first_fault (a ++ b)) (λ is. faultless-both a b is k) h

-- what is read where no part is a fault
ok-parts : (o : Option FaultAt) (parts found : List Part) → Ok parts ≡ unless_bad o found → (o ≡ None) × (parts ≡ found)
ok-parts None parts found h = (refl, cc)
ok-parts (Some at) parts found h = absurd (cc h)

-- text that adds such elements to those of a file in front of it
module _ (env : Env) (before text : List ℕ) (items : List Element) (said : List Part) (utf8 : IsUtf8 text)
    (stands : (found : List Element) → StandsFor (kept_lines before) found → StandsFor (kept_lines (with_newline before ++ text)) (found ++ items))
    (says_so : (chain : Option Bool) → Says env (tree_of items) chain said) (faultless : first_fault said ≡ None) where
  further : (parts : List Part) → SaysOf env before (Ok parts) → SaysOf env (with_newline before ++ text) (Ok (parts ++ said))
  further parts h =
      let is = ok-parts (first_fault h.parts) parts h.parts h.comes in
      record {
        items = h.items ++ items;
        parts = h.parts ++ said;
        tree = (IsUtf8-append (with_newline before) text (ended-utf8 before h.tree.0) utf8, stands h.items h.tree.1);
        says = says-both env said h.tree.1 items says_so None h.parts h.says;
        comes = ap (λ p. Ok (p ++ said)) is.1 ∙ sym (ap (λ o. unless_bad o (h.parts ++ said)) (faultless-both h.parts said is.0 faultless));
      }

  pub reads-further : (parts : List Part) → Reads env before (Ok parts) → Reads env (with_newline before ++ text) (Ok (parts ++ said))
  reads-further parts (inl misfits) = absurd (cc misfits.comes)
  reads-further parts (inr h) = inr (further parts h)

-- ---- constraints behind what a file says

module _ (env : Env) (before : List ℕ) (plainly : ends_with_return before ≡ false) where
  pub none-behind : (parts : List Part) → Reads env before (Ok parts) → Reads env (refrozen_text before []) (Ok (parts ++ []))
  unfolding Says
  none-behind =
      let next = behind [] tt before plainly in
      reads-further env before [] [] [] IsUtf8-nil
      (λ found h. subst (λ l. StandsFor l (found ++ [])) (sym (next.are ∙ append-nil (kept_lines before))) (subst (λ i. StandsFor (kept_lines before) i) (sym (append-nil found)) h))
      (λ chain. refl) refl

  module _ (c : Constraint) (constraints : List Constraint) (are : AllByRecursion IsPlainConstraint (c ∷ constraints)) where
    pub next : AreBehind before (freeze_text (c ∷ constraints))
    next = behind (freeze_text (c ∷ constraints)) (omega arith) before plainly

    pub said_next : IsSaid env next.first (c ∷ constraints)
    said_next = said env next.first (c ∷ constraints) are

    lines_are : kept_lines (refrozen_text before (c ∷ constraints)) ≡ kept_lines before ++ line_of next.first 0 header ∷ value_lines (next.first + 1) (values (c ∷ constraints))
    lines_are = next.are ∙ ap (λ l. kept_lines before ++ l) (lines-from c constraints are next.first)

    pub some-behind : (parts : List Part) → Reads env before (Ok parts) → Reads env (refrozen_text before (c ∷ constraints)) (Ok (parts ++ said_next.parts))
    some-behind =
        let all = c ∷ constraints in
        let items = items_of next.first (values all) in
        reads-further env before (freeze_text all) items said_next.parts (text-utf8 c constraints are)
        (λ found h. subst (λ l. StandsFor l (found ++ items)) (sym lines_are)
        (stands-both next.first header (value_lines (next.first + 1) (values all)) h (stands next.first (values all))))
        said_next.says said_next.faultless
