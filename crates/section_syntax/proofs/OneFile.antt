-- Shared: the elements of a file have at most one reading.
use Rattle.std.proofs.Common.{◌≡◌, ℕ, Bool, List, [], ◌∷◌, ◌++◌, sym, subst, ap, ◌∙◌}
use Rattle.std.specs.Prelude.{Option, None, Some}
use Rattle.std.specs.declared.result.Result.{Result}
use Rattle.std.specs.declared.result.Result.TheVariants.{Ok, Err}
use Rattle.plan_types.specs.Bytes.{joined_text}
use Rattle.plan_types.specs.declared.condition.Cond.{Cond}
use Rattle.plan_types.specs.declared.dependency.Dep.{Dep}
use Rattle.plan_types.specs.declared.dependency.DepKind.{DepKind}
use Rattle.plan_types.specs.declared.dependency.DepKind.TheVariants.{Library, Setup}
use Rattle.plan_types.specs.declared.element.Element.{Element}
use Rattle.plan_types.specs.declared.range.Spec.{Spec}
use Rattle.plan_types.specs.declared.refusal.Cause.{Cause}
use Rattle.condition_text.specs.Grammar.{Stands, FirstFault}
use Rattle.condition_text.proofs.WholeConditions as conditions
use Rattle.depend_text.specs.Depends.{LibraryEntry, LibraryFault, ToolEntry, ToolFault, Depends, DependsFault, Tools, ToolsFault}
use Rattle.entry_text.proofs.OneReading as only
use Rattle.depend_text.proofs.OneLibrary.{library_settled, tool_settled}
use Rattle.section_syntax.specs.Branch.{OwnCondition, branch_of, chain_of, condition}
use Rattle.section_syntax.specs.File.{IsFile, Says, HeadSays, SectionIs, headed, section_name}
use Rattle.section_syntax.specs.Items.{Items, FieldSays, SectionSays, branch_fits, import_fits, placed}
use Rattle.cabal_lexer.specs.Tree.{Tree, end, field, section, tree_of}
use Rattle.section_syntax.specs.Words.{field_word, inner_word, head_word, section_kind}
use Rattle.section_syntax.specs.declared.part.File.{File}
use Rattle.section_syntax.specs.declared.part.Head.{Head}
use Rattle.section_syntax.specs.declared.part.Head.TheVariants as head
use Rattle.section_syntax.specs.declared.part.HeadField.{HeadField}
use Rattle.section_syntax.specs.declared.part.SectionPart.{SectionPart}
use Rattle.section_syntax.specs.declared.part.Said.{Said}
use Rattle.section_syntax.specs.declared.part.Said.TheVariants as said
use Rattle.section_syntax.specs.declared.part.Section.{Section}
use Rattle.section_syntax.specs.declared.part.SectionKind.{SectionKind}
use Rattle.section_syntax.specs.declared.words.BranchWord.{BranchWord}
use Rattle.section_syntax.specs.declared.words.BranchWord.TheVariants.{If, Elif, Else}
use Rattle.section_syntax.specs.declared.words.FieldWord.{FieldWord}
use Rattle.section_syntax.specs.declared.words.FieldWord.TheVariants as fields
use Rattle.section_syntax.specs.declared.words.HeadWord.{HeadWord}
use Rattle.section_syntax.specs.declared.words.HeadWord.TheVariants as words
use Rattle.section_syntax.specs.declared.words.InnerWord.{InnerWord}
use Rattle.text_grammar.specs.Outcome.{Read}
use Rattle.version_range.proofs.OneRange.{one_version_of}
use Rattle.section_syntax.specs.declared.words.InnerWord.TheVariants as inner

one_read : {A : Type 0} (S : A → Type 0) (F : Cause → Type 0) → ((a b : A) → S a → S b → a ≡ b) → ((c d : Cause) → F c → F d → c ≡ d) → ((a : A) (c : Cause) → S a → F c → ⊥) →
    (r q : Result A Cause) → Read S F r → Read S F q → r ≡ q
one_read S F one one_fault both (Ok a) (Ok b) p q = ap Ok (one a b p q)
one_read S F one one_fault both (Ok a) (Err c) p q = absurd (both a c p q)
one_read S F one one_fault both (Err c) (Ok a) p q = absurd (both a c q p)
one_read S F one one_fault both (Err c) (Err d) p q = ap Err (one_fault c d p q)

one_condition : (spec : Spec) (text : List ℕ) (r q : Result Cond Cause) → Read (Stands spec 64 text) (FirstFault spec 64 text) r → Read (Stands spec 64 text) (FirstFault spec 64 text) q → r ≡ q
one_condition spec text = one_read (Stands spec 64 text) (FirstFault spec 64 text) (conditions.one_condition spec 64 text) (conditions.one_fault spec 64 text) (conditions.condition_or_fault spec 64 text)

one_depends : (spec : Spec) (kind : DepKind) (line : ℕ) (text : List ℕ) (r q : Result (List Dep) Cause) →
    Read (Depends spec kind line text) (DependsFault spec kind line text) r → Read (Depends spec kind line text) (DependsFault spec kind line text) q → r ≡ q
one_depends spec kind line text =
    let settled = library_settled spec kind line in
    one_read (Depends spec kind line text) (DependsFault spec kind line text)
    (only.one_reading (LibraryEntry spec kind line) settled.one text) (only.one_first (LibraryEntry spec kind line) (LibraryFault spec) settled text)
    (only.reading_or_fault (LibraryEntry spec kind line) (LibraryFault spec) settled.not_both text)

one_tools : (spec : Spec) (line : ℕ) (text : List ℕ) (r q : Result (List Dep) Cause) → Read (Tools spec line text) (ToolsFault spec line text) r → Read (Tools spec line text) (ToolsFault spec line text) q → r ≡ q
one_tools spec line text =
    let settled = tool_settled spec line in
    one_read (Tools spec line text) (ToolsFault spec line text)
    (only.one_reading (ToolEntry spec line) settled.one text) (only.one_first (ToolEntry spec line) (ToolFault spec) settled text)
    (only.reading_or_fault (ToolEntry spec line) (ToolFault spec) settled.not_both text)

one_own : (spec : Spec) (word : BranchWord) (args : List ℕ) (r q : Result Cond Cause) → OwnCondition spec word args r → OwnCondition spec word args q → r ≡ q
one_own spec If args r q a b = one_condition spec args r q a b
one_own spec Elif args r q a b = one_condition spec args r q a b
one_own spec Else args r q a b = a ∙ sym b

one_said : (spec : Spec) (word : FieldWord) (line : ℕ) (text : List ℕ) (fits : Bool) (a b : Option Said) → FieldSays spec word line text fits a → FieldSays spec word line text fits b → a ≡ b
one_said spec fields.Import line text fits a b p q = p ∙ sym q
one_said spec fields.Depends line text fits a b p q = p.2 ∙ ap (λ d. Some (said.Depends d)) (one_depends spec Library line text p.0 q.0 p.1 q.1) ∙ sym q.2
one_said spec fields.SetupDepends line text fits a b p q = p.2 ∙ ap (λ d. Some (said.Depends d)) (one_depends spec Setup line text p.0 q.0 p.1 q.1) ∙ sym q.2
one_said spec fields.ToolDepends line text fits a b p q = p.2 ∙ ap (λ d. Some (said.Depends d)) (one_tools spec line text p.0 q.0 p.1 q.1) ∙ sym q.2
one_said spec fields.Buildable line text fits a b p q = p ∙ sym q
one_said spec fields.Visibility line text fits a b p q = p ∙ sym q
one_said spec fields.Default line text fits a b p q = p ∙ sym q
one_said spec fields.Manual line text fits a b p q = p ∙ sym q
one_said spec fields.BuildTools line text fits a b p q = p ∙ sym q
one_said spec fields.Unread line text fits a b p q = p ∙ sym q

-- a section has at most one reading if the parts inside and after have
one_section : (spec : Spec) (word : InnerWord) (line : ℕ) (args : List ℕ) (branches : List Cond) (chain : Option Cond) (Within : List Cond → List SectionPart → Type 0) (Behind : Option Cond → List SectionPart → Type 0) →
    ((inside : List Cond) (x y : List SectionPart) → Within inside x → Within inside y → x ≡ y) → ((left : Option Cond) (x y : List SectionPart) → Behind left x → Behind left y → x ≡ y) →
    (a b : List SectionPart) → SectionSays spec word line args branches chain Within Behind a → SectionSays spec word line args branches chain Within Behind b → a ≡ b
one_section spec (inner.Branch word) line args branches chain Within Behind within behind a b p q =
    let own = one_own spec word args p.own q.own p.reads q.reads in
    let part : Result Cond Cause → SectionPart = λ c. record { line = line; branches = branches; said = said.Branch word c (branch_fits word chain) } in
    let here = within (branches ++ condition (branch_of word chain q.own) ∷ []) p.within q.within
    (subst (λ c. Within (branches ++ condition (branch_of word chain c) ∷ []) p.within) own p.inside) q.inside in
    let there = behind (chain_of (branch_of word chain q.own)) p.behind q.behind (subst (λ c. Behind (chain_of (branch_of word chain c)) p.behind) own p.others) q.others in
    p.are ∙ ap (λ c. part c ∷ p.within ++ p.behind) own ∙ ap (λ w. part q.own ∷ w ++ p.behind) here ∙ ap (λ w. part q.own ∷ q.within ++ w) there ∙ sym q.are
one_section spec inner.Misplaced line args branches chain Within Behind within behind a b p q =
    p.2 ∙ ap (λ v. record { line = line; branches = branches; said = said.Misplaced } ∷ v) (behind None p.0 q.0 p.1 q.1) ∙ sym q.2
one_section spec inner.Unread line args branches chain Within Behind within behind a b p q = behind None a b p q

one_items : (spec : Spec) (kind : SectionKind) (front tree : Tree) (branches : List Cond) (chain : Option Cond) (a b : List SectionPart) →
    Items spec kind front tree branches chain a → Items spec kind front tree branches chain b → a ≡ b
unfolding Items
one_items spec kind front end branches chain a b p q = p ∙ sym q
one_items spec kind front (field line name values behind) branches chain a b p q =
    p.4
    ∙ ap (λ f. placed line branches f ++ p.1) (one_said spec (field_word kind name) line (joined_text values) (import_fits spec kind front branches) p.0 q.0 p.2 q.2)
    ∙ ap (λ m. placed line branches q.0 ++ m) (one_items spec kind (field line name values front) behind branches None p.1 q.1 p.3 q.3)
    ∙ sym q.4
one_items spec kind front (section line name args items behind) branches chain a b p q =
    one_section spec (inner_word kind name) line args branches chain
    (λ within found. Items spec kind end items within None found) (λ left found. Items spec kind (section line name args items front) behind branches left found)
    (λ within x y. one_items spec kind end items within None x y) (λ left x y. one_items spec kind (section line name args items front) behind branches left x y) a b p q

one_head : (word : HeadWord) (text : List ℕ) (a b : Option Head) → HeadSays word text a → HeadSays word text b → a ≡ b
one_head words.Name text a b p q = p ∙ sym q
one_head words.Version text a b p q = p.2 ∙ ap (λ v. Some (head.Version v)) (one_version_of text p.0 q.0 p.1 q.1) ∙ sym q.2
one_head words.BuildType text a b p q = p ∙ sym q
one_head words.Unread text a b p q = p ∙ sym q

one_in_file : (spec : Spec) (kind : Option SectionKind) (line : ℕ) (args : List ℕ) (items : Tree) (Behind Other : List Section → Type 0) {R : Type 0} →
    (a b : List Section) → ((x y : List Section) → Behind x → Other y → (x ≡ y) × R) → SectionIs spec kind line args items Behind a → SectionIs spec kind line args items Other b → (a ≡ b) × R
one_in_file spec None line args items Behind Other a b behind p q = behind a b p q
one_in_file spec (Some kind) line args items Behind Other a b behind p q =
    let rest = behind p.1 q.1 p.3 q.3 in (
      p.4
          ∙ ap (λ v. record { line = line; kind = kind; name = section_name kind args; parts = v } ∷ p.1) (one_items spec kind end items [] None p.0 q.0 p.2 q.2)
          ∙ ap (λ v. record { line = line; kind = kind; name = section_name kind args; parts = q.0 } ∷ v) rest.0
          ∙ sym q.4,
      rest.1,
    )

one_says : (spec : Spec) (tree : Tree) (heads heads' : List HeadField) (sections sections' : List Section) → Says spec tree heads sections → Says spec tree heads' sections' → (sections ≡ sections') × (heads ≡ heads')
unfolding Says
one_says spec end heads heads' sections sections' p q = (p.1 ∙ sym q.1, p.0 ∙ sym q.0)
one_says spec (field line name values behind) heads heads' sections sections' p q =
    let rest = one_says spec behind p.1 q.1 sections sections' p.3 q.3 in
    (rest.0, p.4 ∙ ap (λ h. headed line h ++ p.1) (one_head (head_word name) (joined_text values) p.0 q.0 p.2 q.2) ∙ ap (λ m. headed line q.0 ++ m) rest.1 ∙ sym q.4)
one_says spec (section line name args items behind) heads heads' sections sections' p q =
    one_in_file spec (section_kind name) line args items (λ more. Says spec behind heads more) (λ more. Says spec behind heads' more) sections sections'
    (λ x y. one_says spec behind heads heads' x y) p q

pub one_file : (spec : Spec) (items : List Element) (a b : File) → IsFile spec items a → IsFile spec items b → a ≡ b
one_file spec items a b p q =
    let same = one_says spec (tree_of items) a.heads b.heads a.sections b.sections p.1 q.1 in
    ap (λ v. record { spec = v; heads = a.heads; sections = a.sections }) (p.0 ∙ sym q.0)
    ∙ ap (λ s. record { spec = b.spec; heads = a.heads; sections = s }) same.0
    ∙ ap (λ h. record { spec = b.spec; heads = h; sections = b.sections }) same.1
