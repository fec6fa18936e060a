-- Project files have a project or a first refusal. The fields and sections are told apart by their names.
use Rattle.std.proofs.Common.{◌≡◌, inl, inr, ℕ, Bool, true, false, List, [], ◌∷◌, ◌++◌, Option, Some, None, Result, Ok, Err, refl}
use Rattle.std.specs.Prelude.{codes}
use Rattle.plan_types.specs.Bytes.{joined_text, same_text}
use Rattle.plan_types.specs.declared.condition.Env.{Env}
use Rattle.plan_types.specs.declared.project.Project.{Project}
use Rattle.plan_types.specs.declared.range.Spec.TheVariants.{V3_0}
use Rattle.plan_types.specs.declared.refusal.Refusal.{Refusal}
use Rattle.text_grammar.specs.Outcome.{Read}
use Rattle.cabal_lexer.specs.Tree.{Tree, end, field, section, tree_of}
use Rattle.constraint_text.specs.Constraints.{ConstraintEntry, Constraints, ConstraintsFault}
use Rattle.constraint_text.specs.Faults.{IsBadConstraint}
use Rattle.constraint_text.specs.Named.{NamedEntry, NamedRanges, NamedFault}
use Rattle.constraint_text.specs.Relaxes.{Relaxes, RelaxFault}
use Rattle.project_file.specs.Branches.{Decides, HasValue, bare, branch_fault, chain_behind, decided_of, is_taken}
use Rattle.project_file.specs.Fields.{FieldSays}
use Rattle.project_file.specs.Parts.{IfTaken, IsBranch, Says, placed}
use Rattle.project_file.specs.Project.{placed_all}
use Rattle.project_file.specs.Read.{AllRead, FileReads, GoesOn, IsProject, in_front, or_refusal, project_of}
use Rattle.project_file.specs.Texts.{Reads, fault_at, first_fault, unless_bad}
use Rattle.project_file.specs.Words.{field_word}
use Rattle.project_file.specs.declared.read.ProjectText.{ProjectText}
use Rattle.every_reading.proofs.ConstraintAnswers.{named_decided, some_constraint}
use Rattle.every_reading.proofs.DecidedReadings.{bad_as_none}
use Rattle.every_reading.proofs.EntryAnswers.{some_reading}
use Rattle.every_reading.proofs.RelaxAnswers.{some_relaxes}
use Rattle.every_reading.proofs.Readings.{Exists, condition_read, read_of}
use Rattle.every_reading.proofs.Trees.{some_tree}

by_test : (Goal : Type 0) (b : Bool) → (b ≡ true → Goal) → (b ≡ false → Goal) → Goal
by_test Goal true h k = h refl
by_test Goal false h k = k refl

it_is : {A : Type 0} (x : A) → Exists (λ (y : A). y ≡ x)
it_is x = (x, refl)

-- ---- a field

-- the image of a value that exists
of_read : {A B : Type 0} (f : A → B) (P : A → Type 0) → Exists P → Exists (λ (found : B). (read : A) × P read × (found ≡ f read))
of_read f P read = (f read.0, (read.0, read.1, refl))

named_read : (text : List ℕ) → Exists (Read (NamedRanges text) (NamedFault text))
named_read text =
    read_of (NamedRanges text) (NamedFault text) (some_reading NamedEntry (IsBadConstraint NamedEntry) (λ part. bad_as_none NamedEntry part (named_decided part)) text)

constraints_read : (text : List ℕ) → Exists (Read (Constraints text) (ConstraintsFault text))
constraints_read text = read_of (Constraints text) (ConstraintsFault text) (some_reading ConstraintEntry (IsBadConstraint ConstraintEntry) some_constraint text)

relaxes_read : (text : List ℕ) → Exists (Read (Relaxes text) (RelaxFault text))
relaxes_read text = read_of (Relaxes text) (RelaxFault text) (some_relaxes text)

field_says : (name text : List ℕ) → Exists (FieldSays (field_word name) name text)
field_says name text =
    by_test _ (same_text name (codes "packages")) (λ q. rw q (of_read Some _ (it_is _))) (λ q. rw q
    (by_test _ (same_text name (codes "optional-packages")) (λ q. rw q (of_read Some _ (it_is _))) (λ q. rw q
    (by_test _ (same_text name (codes "extra-packages")) (λ q. rw q (of_read Some _ (of_read _ _ (named_read text)))) (λ q. rw q
    (by_test _ (same_text name (codes "constraints")) (λ q. rw q (of_read Some _ (of_read _ _ (constraints_read text)))) (λ q. rw q
    (by_test _ (same_text name (codes "preferences")) (λ q. rw q (of_read Some _ (of_read _ _ (named_read text)))) (λ q. rw q
    (by_test _ (same_text name (codes "allow-newer")) (λ q. rw q (of_read Some _ (of_read _ _ (relaxes_read text)))) (λ q. rw q
    (by_test _ (same_text name (codes "allow-older")) (λ q. rw q (of_read Some _ (of_read _ _ (relaxes_read text)))) (λ q. rw q
    (by_test _ (same_text name (codes "tests")) (λ q. rw q (of_read Some _ (it_is _))) (λ q. rw q
    (by_test _ (same_text name (codes "benchmarks")) (λ q. rw q (of_read Some _ (it_is _))) (λ q. rw q
    (by_test _ (same_text name (codes "prefer-oldest")) (λ q. rw q (of_read Some _ (it_is _))) (λ q. rw q
    (by_test _ (same_text name (codes "allow-boot-library-installs")) (λ q. rw q (of_read Some _ (it_is _))) (λ q. rw q
    (by_test _ (same_text name (codes "max-backjumps")) (λ q. rw q (of_read Some _ (it_is _))) (λ q. rw q
    (by_test _ (same_text name (codes "index-state")) (λ q. rw q (it_is _)) (λ q. rw q
    (by_test _ (same_text name (codes "active-repositories")) (λ q. rw q (it_is _)) (λ q. rw q
    (by_test _ (same_text name (codes "import")) (λ q. rw q (it_is _)) (λ q. rw q
    (it_is _))))))))))))))))))))))))))))))

module _ (env : Env) where
  -- ---- a branch

  settled : (args : List ℕ) → Exists (HasValue env args)
  settled args = of_read (decided_of env) _ (condition_read V3_0 args)

  if_taken : (taken : Bool) (Within : _ → Type 0) → Exists Within → Exists (IfTaken taken Within)
  if_taken true Within within = within
  if_taken false Within within = ([], refl)

  in_branch : (word : _) (line : ℕ) (args : List ℕ) (chain : Option Bool) (Within : _ → Type 0) (Behind : Option Bool → _ → Type 0)
      → Exists (Decides env word args) → Exists Within → ((left : Option Bool) → Exists (Behind left))
      → Exists (λ parts. (left : Option Bool) × (found : _) × (more : _) × IsBranch env word line args chain Within left found × Behind left more × (parts ≡ found ++ more))
  in_branch word line args chain Within Behind own within behind =
      let inside = if_taken (is_taken word chain own.0) Within within in
      let more = behind (chain_behind word chain own.0) in
      let found = placed line (branch_fault word chain own.0) ++ inside.0 in (
        found ++ more.0,
        (
          chain_behind word chain own.0,
          found,
          more.0,
          record { own = own.0; within = inside.0; decides = own.1; inside = inside.1; chain_is = refl; are = refl },
          more.1,
          refl,
        ),
      )

  -- ---- all elements

  abbrev SaysSome : Tree → Option Bool → Type 0
  SaysSome items chain = Exists (Says env items chain)

  at_end : (chain : Option Bool) → SaysSome end chain
  unfolding Says
  at_end chain = ([], refl)

  at_field : (line : ℕ) (name : List ℕ) (values : List (List ℕ)) (behind : Tree) (chain : Option Bool) → SaysSome behind None → SaysSome (field line name values behind) chain
  unfolding Says
  at_field line name values behind chain more =
      let found = field_says name (joined_text values) in
      (placed line found.0 ++ more.0, (found.0, more.0, found.1, more.1, refl))

  at_section : (line : ℕ) (name args : List ℕ) (items behind : Tree) (chain : Option Bool) → SaysSome items None → ((left : Option Bool) → SaysSome behind left) → SaysSome (section line name args items behind) chain
  unfolding Says
  at_section line name args items behind chain within more =
      by_test _ (same_text name (codes "if")) (λ q. rw q (in_branch _ line args chain _ _ (settled args) within more)) (λ q. rw q
      (by_test _ (same_text name (codes "elif")) (λ q. rw q (in_branch _ line args chain _ _ (settled args) within more)) (λ q. rw q
      (by_test _ (same_text name (codes "else")) (λ q. rw q (in_branch _ line args chain _ _ (it_is (bare args)) within more)) (λ q. rw q
      (by_test _ (same_text name (codes "package")) (λ q. rw q (of_read _ _ (more None))) (λ q. rw q
      (by_test _ (same_text name (codes "repository")) (λ q. rw q (of_read _ _ (more None))) (λ q. rw q
      (by_test _ (same_text name (codes "source-repository-package")) (λ q. rw q (of_read _ _ (more None))) (λ q. rw q
      (more None))))))))))))

  says_of : (items : Tree) (chain : Option Bool) → SaysSome items chain
  says_of end chain = at_end chain
  says_of (field line name values behind) chain = at_field line name values behind chain (says_of behind None)
  says_of (section line name args items behind) chain = at_section line name args items behind chain (says_of items None) (λ left. says_of behind left)

  -- ---- a file, and all files

  some_parts : (bytes : List ℕ) → Exists (Reads env bytes)
  some_parts bytes =
      elim (some_tree bytes) [
        | inl tree ↦
            let says = says_of (tree_of tree.0) None in (
              unless_bad (first_fault says.0) says.0,
              inr (record { items = tree.0; parts = says.0; tree = tree.1; says = says.1; comes = refl }),
            )
        | inr fault ↦ (Err (fault_at fault.0 fault.1), inl (record { at = fault_at fault.0 fault.1; fault = fault.2; comes = refl }))
      ]

  file_reads : (text : ProjectText) → Exists (FileReads env text)
  file_reads text = let read = some_parts text.bytes in (or_refusal text.path read.0, (read.0, read.1, refl))

  goes_on : (path : List ℕ) (read : _) (Rest : _ → Type 0) → Exists Rest → Exists (GoesOn path read Rest)
  goes_on path (Err refusal) Rest more = (Err refusal, refl)
  goes_on path (Ok parts) Rest more = (in_front (placed_all path parts) more.0, (more.0, more.1, refl))

  none_read : Exists (AllRead env [])
  unfolding AllRead
  none_read = (Ok [], refl)

  one_more : (text : ProjectText) (texts : List ProjectText) → Exists (AllRead env texts) → Exists (AllRead env (text ∷ texts))
  unfolding AllRead
  one_more text texts more =
      let read = file_reads text in
      let outcome = goes_on text.path read.0 (λ more. AllRead env texts more) more in
      (outcome.0, (read.0, read.1, outcome.1))

  all_read : (texts : List ProjectText) → Exists (AllRead env texts)
  all_read [] = none_read
  all_read (text ∷ texts) = one_more text texts (all_read texts)

  pub some_project : (texts : List ProjectText) → (outcome : Result Project Refusal) × IsProject env texts outcome
  some_project texts = let read = all_read texts in (project_of read.0, (read.0, read.1, refl))
