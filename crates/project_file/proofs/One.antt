-- Project files have at most one outcome.
use Rattle.std.proofs.Common.{◌≡◌, inl, inr, ℕ, Bool, List, [], ◌∷◌, ◌++◌, sym, subst, ap, ◌∙◌}
use Rattle.std.specs.Prelude.{Option, None, Some, Result, Ok, Err, true, false}
use Rattle.plan_types.specs.Bytes.{joined_text}
use Rattle.plan_types.specs.declared.condition.Cond.{Cond}
use Rattle.plan_types.specs.declared.condition.Env.{Env}
use Rattle.plan_types.specs.declared.project.Project.{Project}
use Rattle.plan_types.specs.declared.range.Spec.TheVariants.{V3_0}
use Rattle.plan_types.specs.declared.refusal.Cause.{Cause}
use Rattle.plan_types.specs.declared.refusal.Refusal.{Refusal}
use Rattle.cabal_lexer.proofs.OneTree as lexer
use Rattle.condition_text.specs.Grammar.{Stands, FirstFault}
use Rattle.condition_text.proofs.WholeConditions as conditions
use Rattle.constraint_text.specs.Constraints.{ConstraintEntry, Constraints, ConstraintsFault}
use Rattle.constraint_text.specs.Named.{NamedEntry, NamedFault, NamedRanges}
use Rattle.constraint_text.specs.Relaxes.{RelaxEntry, RelaxFault, Relaxes}
use Rattle.entry_text.proofs.OneReading as only
use Rattle.constraint_text.proofs.OneConstraint.{constraint_settled}
use Rattle.constraint_text.proofs.OneNamed.{named_settled}
use Rattle.constraint_text.proofs.OneRelax.{given_reading, no_fault, relax_settled}
use Rattle.cabal_lexer.specs.Tree.{Tree, end, field, section, tree_of}
use Rattle.project_file.specs.Branches.{Decides, branch_fault, chain_behind, decided_of, is_taken}
use Rattle.project_file.specs.Fields.{FieldSays, IsRead, KindSays, said_of}
use Rattle.project_file.specs.Parts.{IfTaken, IsBranch, Says, SectionSays, package_parts, placed}
use Rattle.project_file.specs.Project.{Placed, placed_all}
use Rattle.project_file.specs.Read.{AllRead, FileReads, GoesOn, IsProject, in_front, or_refusal, project_of}
use Rattle.project_file.specs.Texts.{Reads, first_fault, unless_bad}
use Rattle.project_file.specs.Words.{field_word, section_word}
use Rattle.project_file.specs.declared.part.ProjectPart.{ProjectPart}
use Rattle.project_file.specs.declared.part.ProjectSaid.{ProjectSaid}
use Rattle.project_file.specs.declared.part.ProjectSaid.TheVariants as said
use Rattle.project_file.specs.declared.read.ProjectText.{ProjectText}
use Rattle.project_file.specs.declared.text.FaultLine.{FaultLine}
use Rattle.project_file.specs.declared.words.ProjectBranchWord.{ProjectBranchWord}
use Rattle.project_file.specs.declared.words.ProjectBranchWord.TheVariants.{If, Elif, Else}
use Rattle.project_file.specs.declared.words.FieldKind.{FieldKind}
use Rattle.project_file.specs.declared.words.FieldKind.TheVariants as kinds
use Rattle.project_file.specs.declared.words.ProjectFieldWord.{ProjectFieldWord}
use Rattle.project_file.specs.declared.words.ProjectFieldWord.TheVariants as fields
use Rattle.project_file.specs.declared.words.SectionWord.{SectionWord}
use Rattle.constraint_text.specs.Faults.{IsBadConstraint}
use Rattle.text_grammar.specs.Outcome.{Read}
use Rattle.project_file.specs.declared.words.SectionWord.TheVariants as sections

module _ {A : Type 0} (S : A → Type 0) (F : Cause → Type 0) (one : (a b : A) → S a → S b → a ≡ b) (one_fault : (c d : Cause) → F c → F d → c ≡ d) (both : (a : A) (c : Cause) → S a → F c → ⊥) where
  one_read : (r q : Result A Cause) → Read S F r → Read S F q → r ≡ q
  one_read (Ok a) (Ok b) p q = ap Ok (one a b p q)
  one_read (Ok a) (Err c) p q = absurd (both a c p q)
  one_read (Err c) (Ok a) p q = absurd (both a c q p)
  one_read (Err c) (Err d) p q = ap Err (one_fault c d p q)

  one_said_of : (as' : A → ProjectSaid) (x y : ProjectSaid) → IsRead as' S F x → IsRead as' S F y → x ≡ y
  one_said_of as' x y p q = p.2 ∙ ap (said_of as') (one_read p.0 q.0 p.1 q.1) ∙ sym q.2

one_named : (as' : _) (text : List ℕ) (x y : ProjectSaid) → IsRead as' (NamedRanges text) (NamedFault text) x → IsRead as' (NamedRanges text) (NamedFault text) y → x ≡ y
one_named as' text =
    one_said_of (NamedRanges text) (NamedFault text) (only.one_reading NamedEntry named_settled.one text) (only.one_first NamedEntry (IsBadConstraint NamedEntry) named_settled text)
    (only.reading_or_fault NamedEntry (IsBadConstraint NamedEntry) named_settled.not_both text) as'

one_constraints : (as' : _) (text : List ℕ) (x y : ProjectSaid) → IsRead as' (Constraints text) (ConstraintsFault text) x → IsRead as' (Constraints text) (ConstraintsFault text) y → x ≡ y
one_constraints as' text =
    one_said_of (Constraints text) (ConstraintsFault text) (only.one_reading ConstraintEntry constraint_settled.one text) (only.one_first ConstraintEntry (IsBadConstraint ConstraintEntry) constraint_settled text)
    (only.reading_or_fault ConstraintEntry (IsBadConstraint ConstraintEntry) constraint_settled.not_both text) as'

one_relax : (as' : _) (text : List ℕ) (x y : ProjectSaid) → IsRead as' (Relaxes text) (RelaxFault text) x → IsRead as' (Relaxes text) (RelaxFault text) y → x ≡ y
one_relax as' text =
    one_said_of (Relaxes text) (RelaxFault text) (λ a b r s. given_reading text r.each a r.entries r.is b s) (only.one_first RelaxEntry (IsBadConstraint RelaxEntry) relax_settled text)
    (λ a cause r f. no_fault text r.each r.entries cause f) as'

one_kind : (kind : FieldKind) (text : List ℕ) (x y : ProjectSaid) → KindSays kind text x → KindSays kind text y → x ≡ y
one_kind kinds.Packages text x y p q = p ∙ sym q
one_kind kinds.OptionalPackages text x y p q = p ∙ sym q
one_kind kinds.Extra text x y p q = one_named said.Extra text x y p q
one_kind kinds.Constraints text x y p q = one_constraints said.Constraints text x y p q
one_kind kinds.Preferences text x y p q = one_named said.Preferences text x y p q
one_kind kinds.Newer text x y p q = one_relax said.Newer text x y p q
one_kind kinds.Older text x y p q = one_relax said.Older text x y p q
one_kind (kinds.Switch which) text x y p q = p ∙ sym q
one_kind kinds.Limit text x y p q = p ∙ sym q

one_field : (word : ProjectFieldWord) (name text : List ℕ) (x y : Option ProjectSaid) → FieldSays word name text x → FieldSays word name text y → x ≡ y
one_field (fields.Read kind) name text x y p q = p.2 ∙ ap Some (one_kind kind text p.0 q.0 p.1 q.1) ∙ sym q.2
one_field fields.Warned name text x y p q = p ∙ sym q
one_field fields.Unsupported name text x y p q = p ∙ sym q
one_field fields.Unread name text x y p q = p ∙ sym q

one_condition : (text : List ℕ) (r q : Result Cond Cause) → Read (Stands V3_0 64 text) (FirstFault V3_0 64 text) r → Read (Stands V3_0 64 text) (FirstFault V3_0 64 text) q → r ≡ q
one_condition text =
    one_read (Stands V3_0 64 text) (FirstFault V3_0 64 text) (conditions.one_condition V3_0 64 text) (conditions.one_fault V3_0 64 text) (conditions.condition_or_fault V3_0 64 text)

one_own : (env : Env) (word : ProjectBranchWord) (args : List ℕ) (x y : Result Bool Cause) → Decides env word args x → Decides env word args y → x ≡ y
one_own env If args x y p q = p.2 ∙ ap (decided_of env) (one_condition args p.0 q.0 p.1 q.1) ∙ sym q.2
one_own env Elif args x y p q = p.2 ∙ ap (decided_of env) (one_condition args p.0 q.0 p.1 q.1) ∙ sym q.2
one_own env Else args x y p q = p ∙ sym q

one_within : (taken : Bool) (Within : List ProjectPart → Type 0) → ((x y : List ProjectPart) → Within x → Within y → x ≡ y) → (x y : List ProjectPart) → IfTaken taken Within x → IfTaken taken Within y → x ≡ y
one_within true Within one x y p q = one x y p q
one_within false Within one x y p q = p ∙ sym q

module _ (env : Env) (line : ℕ) (name args : List ℕ) (items : Tree) (chain : Option Bool) (Within : List ProjectPart → Type 0) (Behind : Option Bool → List ProjectPart → Type 0)
    (within : (x y : List ProjectPart) → Within x → Within y → x ≡ y) (behind : (left : Option Bool) (x y : List ProjectPart) → Behind left x → Behind left y → x ≡ y) where
  one_branch : (word : ProjectBranchWord) (left other : Option Bool) (a b : List ProjectPart) → IsBranch env word line args chain Within left a → IsBranch env word line args chain Within other b → (left ≡ other) × (a ≡ b)
  one_branch word left other a b p q =
      let own = one_own env word args p.own q.own p.decides q.decides in
      let here = one_within (is_taken word chain q.own) Within within p.within q.within (subst (λ o. IfTaken (is_taken word chain o) Within p.within) own p.inside) q.inside in (
        p.chain_is ∙ ap (chain_behind word chain) own ∙ sym q.chain_is,
        p.are ∙ ap (λ o. placed line (branch_fault word chain o) ++ p.within) own ∙ ap (λ w. placed line (branch_fault word chain q.own) ++ w) here ∙ sym q.are,
      )

  one_section : (word : SectionWord) (a b : List ProjectPart) → SectionSays env word line name args items chain Within Behind a → SectionSays env word line name args items chain Within Behind b → a ≡ b
  one_section (sections.Branch word) a b p q =
      let here = one_branch word p.0 q.0 p.1 q.1 p.3 q.3 in
      p.5 ∙ ap (λ f. f ++ p.2) here.1 ∙ ap (λ m. q.1 ++ m) (behind q.0 p.2 q.2 (subst (λ l. Behind l p.2) here.0 p.4) q.4) ∙ sym q.5
  one_section sections.Package a b p q = p.2 ∙ ap (λ m. package_parts line args items ++ m) (behind None p.0 q.0 p.1 q.1) ∙ sym q.2
  one_section sections.Warned a b p q = p.2 ∙ ap (λ m. placed line (Some (said.Warning name)) ++ m) (behind None p.0 q.0 p.1 q.1) ∙ sym q.2
  one_section sections.Unsupported a b p q = p.2 ∙ ap (λ m. placed line (Some (said.Bad _)) ++ m) (behind None p.0 q.0 p.1 q.1) ∙ sym q.2
  one_section sections.Unread a b p q = behind None a b p q

one_says : (env : Env) (tree : Tree) (chain : Option Bool) (a b : List ProjectPart) → Says env tree chain a → Says env tree chain b → a ≡ b
unfolding Says
one_says env end chain a b p q = p ∙ sym q
one_says env (field line name values behind) chain a b p q =
    p.4
    ∙ ap (λ f. placed line f ++ p.1) (one_field (field_word name) name (joined_text values) p.0 q.0 p.2 q.2)
    ∙ ap (λ m. placed line q.0 ++ m) (one_says env behind None p.1 q.1 p.3 q.3)
    ∙ sym q.4
one_says env (section line name args items behind) chain a b p q =
    one_section env line name args items chain (λ within. Says env items None within) (λ left more. Says env behind left more)
    (λ x y. one_says env items None x y) (λ left x y. one_says env behind left x y) (section_word name) a b p q

one_text : (env : Env) (bytes : List ℕ) (a b : Result (List ProjectPart) FaultLine) → Reads env bytes a → Reads env bytes b → a ≡ b
one_text env bytes a b (inl p) (inl q) =
    let same = lexer.one_refusal bytes p.at.line q.at.line p.at.cause q.at.cause p.fault q.fault in
    p.comes ∙ ap (λ l. Err (record { line = l; cause = p.at.cause })) same.0 ∙ ap (λ c. Err (record { line = q.at.line; cause = c })) same.1 ∙ sym q.comes
one_text env bytes a b (inl p) (inr q) = absurd (lexer.tree_or_fault bytes q.items p.at.line p.at.cause q.tree p.fault)
one_text env bytes a b (inr p) (inl q) = absurd (lexer.tree_or_fault bytes p.items q.at.line q.at.cause p.tree q.fault)
one_text env bytes a b (inr p) (inr q) =
    let items = lexer.one_tree bytes p.items q.items p.tree q.tree in
    let parts = one_says env (tree_of q.items) None p.parts q.parts (subst (λ i. Says env (tree_of i) None p.parts) items p.says) q.says in
    p.comes ∙ ap (λ v. unless_bad (first_fault v) v) parts ∙ sym q.comes

one_file : (env : Env) (text : ProjectText) (a b : Result (List ProjectPart) Refusal) → FileReads env text a → FileReads env text b → a ≡ b
one_file env text a b p q = p.2 ∙ ap (or_refusal text.path) (one_text env text.bytes p.0 q.0 p.1 q.1) ∙ sym q.2

one_rest : (path : List ℕ) (read : Result (List ProjectPart) Refusal) (Rest : Result (List Placed) Refusal → Type 0) → ((x y : Result (List Placed) Refusal) → Rest x → Rest y → x ≡ y) →
    (a b : Result (List Placed) Refusal) → GoesOn path read Rest a → GoesOn path read Rest b → a ≡ b
one_rest path (Err refusal) Rest one a b p q = p ∙ sym q
one_rest path (Ok parts) Rest one a b p q = p.2 ∙ ap (in_front (placed_all path parts)) (one p.0 q.0 p.1 q.1) ∙ sym q.2

one_all : (env : Env) (texts : List ProjectText) (a b : Result (List Placed) Refusal) → AllRead env texts a → AllRead env texts b → a ≡ b
unfolding AllRead
one_all env [] a b p q = p ∙ sym q
one_all env (text ∷ texts) a b p q =
    let here = one_file env text p.0 q.0 p.1 q.1 in
    one_rest text.path q.0 (λ more. AllRead env texts more) (λ x y. one_all env texts x y) a b
    (subst (λ r. GoesOn text.path r (λ more. AllRead env texts more) a) here p.2) q.2

pub one_outcome : (env : Env) (texts : List ProjectText) (a b : Result Project Refusal) → IsProject env texts a → IsProject env texts b → a ≡ b
one_outcome env texts a b p q = p.2 ∙ ap project_of (one_all env texts p.0 q.0 p.1 q.1) ∙ sym q.2
