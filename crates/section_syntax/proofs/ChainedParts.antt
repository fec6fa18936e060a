-- Shared: the parts of a section are chained, since a branch's parts come directly after it.
use Rattle.std.proofs.Common.{◌≡◌, ℕ, zero, suc, Bool, true, false, if◌then◌else◌, List, [], ◌∷◌, ◌++◌, length, map, take, drop, sym, subst, ap, ◌∙◌, refl, append_assoc}
use Rattle.std.specs.Prelude.{Option, None, Some, All, slice_get}
use Rattle.std.specs.List.{AllByRecursion}
use Rattle.std.specs.declared.result.Result.{Result}
use Rattle.std.proofs.Math.Seq.{take-append_seam}
use Rattle.std.proofs.lemmas.Bool.{false≢true}
use Rattle.std.proofs.lemmas.List.{append-nil, length-map, map-append, take-append-drop}
use Rattle.std.proofs.lemmas.List.Elements.{All-from_recursion}
use Rattle.plan_types.specs.Bytes.{joined_text}
use Rattle.plan_types.specs.Format.{is_old}
use Rattle.plan_types.specs.declared.condition.Cond.{Cond}
use Rattle.plan_types.specs.declared.element.Element.{Element}
use Rattle.plan_types.specs.declared.range.Spec.{Spec}
use Rattle.plan_types.specs.declared.refusal.Cause.{Cause}
use Rattle.section_syntax.specs.Branch.{branch_of, chain_of, condition}
use Rattle.section_syntax.specs.Chained.{AreChained, FitsBehind, AreSectionParts, begun, chain_after}
use Rattle.section_syntax.specs.File.{IsFile, Says, SectionIs}
use Rattle.section_syntax.specs.Items.{AreParts, FieldSays, Items, SectionSays, branch_fits, import_fits, placed}
use Rattle.cabal_lexer.specs.Tree.{Tree, end, field, section, tree_of}
use Rattle.section_syntax.specs.Words.{field_word, inner_word, section_kind, visibility}
use Rattle.section_syntax.specs.declared.branch.Branch.{Branch}
use Rattle.section_syntax.specs.declared.part.File.{File}
use Rattle.section_syntax.specs.declared.part.HeadField.{HeadField}
use Rattle.section_syntax.specs.declared.part.SectionPart.{SectionPart}
use Rattle.section_syntax.specs.declared.part.Said.{Said}
use Rattle.section_syntax.specs.declared.part.Said.TheVariants as said
use Rattle.section_syntax.specs.declared.part.Section.{Section}
use Rattle.section_syntax.specs.declared.part.SectionKind.{SectionKind}
use Rattle.section_syntax.specs.declared.words.BranchWord.{BranchWord}
use Rattle.section_syntax.specs.declared.words.BranchWord.TheVariants.{If, Elif, Else}
use Rattle.section_syntax.specs.declared.words.FieldWord.{FieldWord}
use Rattle.section_syntax.specs.declared.words.FieldWord.TheVariants as fields
use Rattle.section_syntax.specs.declared.words.InnerWord.{InnerWord}
use Rattle.section_syntax.specs.declared.words.InnerWord.TheVariants as inner

-- ---- a part

-- these branches, split: the first of the parts is inside those in `front` and after those in `back`
pub record FirstStands (opened : List Branch) (part : SectionPart) (parts : List SectionPart) : Type 0 where
  pub front : List Branch
  pub back : List Branch
  pub split : opened ≡ front ++ back
  pub stands : part.branches ≡ map condition front
  pub rest : AreChained (front ++ begun part.said (slice_get back 0)) parts
  pub fits : FitsBehind part.said (slice_get back 0)

at-seam : (front back : List Branch) → slice_get (front ++ back) (length front) ≡ slice_get back 0
at-seam [] back = refl
at-seam (branch ∷ front) back = at-seam front back

at-drop : (n : ℕ) (opened : List Branch) → slice_get opened n ≡ slice_get (drop n opened) 0
at-drop zero opened = refl
at-drop (suc n) [] = refl
at-drop (suc n) (branch ∷ opened) = at-drop n opened

pub first-stands : (opened : List Branch) (part : SectionPart) (parts : List SectionPart) → AreChained opened (part ∷ parts) → FirstStands opened part parts
unfolding AreChained
first-stands opened part parts chained =
    let n = length part.branches in record {
      front = take n opened;
      back = drop n opened;
      split = sym (take-append-drop n opened);
      stands = chained.0;
      rest = subst (λ v. AreChained (take n opened ++ begun part.said v) parts) (at-drop n opened) chained.1;
      fits = subst (FitsBehind part.said) (at-drop n opened) chained.2;
    }

pub chained-part : (front back : List Branch) (part : SectionPart) (parts : List SectionPart) → part.branches ≡ map condition front →
    AreChained (front ++ begun part.said (slice_get back 0)) parts → FitsBehind part.said (slice_get back 0) → AreChained (front ++ back) (part ∷ parts)
unfolding AreChained
chained-part front back part parts stands rest fits =
    let n = length part.branches in
    let many : n ≡ length front = ap length stands ∙ length-map front condition in
    let here : take n (front ++ back) ≡ front = ap (λ m. take m (front ++ back)) many ∙ take-append_seam front back in
    let there : slice_get (front ++ back) n ≡ slice_get back 0 = ap (slice_get (front ++ back)) many ∙ at-seam front back in (
      stands ∙ ap (map condition) (sym here),
      subst (λ v. AreChained v parts) (sym (ap (λ v. v ++ begun part.said (slice_get (front ++ back) n)) here ∙ ap (λ v. front ++ begun part.said v) there)) rest,
      subst (FitsBehind part.said) (sym there) fits,
    )

-- ---- what fits without a chain fits after any

fits-alone : (word : BranchWord) (chain : Option Cond) → branch_fits word None ≡ true → branch_fits word chain ≡ true
fits-alone If chain fits = refl
fits-alone Elif chain fits = absurd (false≢true fits)
fits-alone Else chain fits = absurd (false≢true fits)

begun-alone : (one : Said) (before : Option Branch) → FitsBehind one None → begun one None ≡ begun one before
begun-alone (said.Import names fits) before alone = refl
begun-alone (said.Depends deps) before alone = refl
begun-alone (said.Buildable value) before alone = refl
begun-alone (said.Visibility value) before alone = refl
begun-alone (said.Default value) before alone = refl
begun-alone (said.Manual value) before alone = refl
begun-alone said.BuildTools before alone = refl
begun-alone (said.Branch word own false) before alone = refl
begun-alone (said.Branch If own true) before alone = refl
begun-alone (said.Branch Elif own true) before alone = absurd (false≢true (alone Elif own refl))
begun-alone (said.Branch Else own true) before alone = absurd (false≢true (alone Else own refl))
begun-alone said.Misplaced before alone = refl

more-ended : (front back last : List Branch) (part : SectionPart) (parts : List SectionPart) → part.branches ≡ map condition front →
    AreChained (front ++ begun part.said (slice_get back 0)) parts → FitsBehind part.said (slice_get back 0) → AreChained (front ++ (back ++ last)) (part ∷ parts)
more-ended front [] last part parts stands rest fits =
    chained-part front last part parts stands (subst (λ v. AreChained (front ++ v) parts) (begun-alone part.said (slice_get last 0) fits) rest)
    (λ word own is. fits-alone word (chain_after (slice_get last 0)) (fits word own is))
more-ended front (branch ∷ back) last part parts stands rest fits = chained-part front (branch ∷ (back ++ last)) part parts stands rest fits

pub chained-behind : (opened last : List Branch) (parts : List SectionPart) → AreChained opened parts → AreChained (opened ++ last) parts
unfolding AreChained
chained-behind opened last [] chained = tt
chained-behind opened last (part ∷ parts) chained =
    let first = first-stands opened part parts chained in
    subst (λ v. AreChained v (part ∷ parts)) (sym (ap (λ v. v ++ last) first.split ∙ append_assoc first.front first.back last))
    (more-ended first.front first.back last part parts first.stands first.rest first.fits)

-- ---- a block

-- the outermost of these closed branches leaves this chain
abbrev LeavesOf : List Branch → Option Cond → Type 0
LeavesOf ended None = Unit {0}
LeavesOf ended (Some chain) = chain_after (slice_get ended 0) ≡ Some chain

-- put before a chained list, these parts keep it chained; the closed branches leave this chain
abbrev KeepChained : List Branch → Option Cond → List SectionPart → Type 0
KeepChained opened chain parts = (ended : List Branch) (more : List SectionPart) → LeavesOf ended chain → AreChained opened more → AreChained (opened ++ ended) (parts ++ more)

keep-none : (opened : List Branch) (chain : Option Cond) → KeepChained opened chain []
keep-none opened chain ended more leaves rest = chained-behind opened ended more rest

keep-part : (line : ℕ) (opened : List Branch) (branches : List Cond) (chain : Option Cond) (one : Said) (parts : List SectionPart) → branches ≡ map condition opened → ((before : Option Branch) → FitsBehind one before) →
    KeepChained opened None parts → KeepChained opened chain (record { line = line; branches = branches; said = one } ∷ parts)
keep-part line opened branches chain one parts stands fits keep ended more leaves rest =
    chained-part opened ended (record { line = line; branches = branches; said = one }) (parts ++ more) stands (keep (begun one (slice_get ended 0)) more tt rest) (fits (slice_get ended 0))

-- ---- a field

visible-says : (old : Bool) (one : Said) (text : List ℕ) → Some one ≡ (if old then None else Some (said.Visibility (visibility text))) → one ≡ said.Visibility (visibility text)
visible-says true one text says = absurd (cc says)
visible-says false one text says = cc says

-- no field begins a branch
field-fits : (spec : Spec) (word : FieldWord) (line : ℕ) (text : List ℕ) (fits : Bool) (one : Said) → FieldSays spec word line text fits (Some one) → (before : Option Branch) → FitsBehind one before
field-fits spec fields.Import line text fits one says before word own is = absurd (cc (says, is))
field-fits spec fields.Depends line text fits one says before word own is = absurd (cc (says.2, is))
field-fits spec fields.SetupDepends line text fits one says before word own is = absurd (cc (says.2, is))
field-fits spec fields.ToolDepends line text fits one says before word own is = absurd (cc (says.2, is))
field-fits spec fields.Buildable line text fits one says before word own is = absurd (cc (says, is))
field-fits spec fields.Visibility line text fits one says before word own is = absurd (cc (visible-says (is_old spec) one text says, is))
field-fits spec fields.Default line text fits one says before word own is = absurd (cc (says, is))
field-fits spec fields.Manual line text fits one says before word own is = absurd (cc (says, is))
field-fits spec fields.BuildTools line text fits one says before word own is = absurd (cc (says, is))
field-fits spec fields.Unread line text fits one says before word own is = absurd (cc says)

keep-field : (spec : Spec) (word : FieldWord) (line : ℕ) (text : List ℕ) (fits : Bool) (opened : List Branch) (branches : List Cond) (chain : Option Cond) (found : Option Said) (parts : List SectionPart) →
    branches ≡ map condition opened → FieldSays spec word line text fits found → KeepChained opened None parts → KeepChained opened chain (placed line branches found ++ parts)
keep-field spec word line text fits opened branches chain None parts stands says keep = λ ended more leaves rest. keep ended more tt rest
keep-field spec word line text fits opened branches chain (Some one) parts stands says keep = keep-part line opened branches chain one parts stands (field-fits spec word line text fits one says) keep

-- ---- a branch

leaves-chain : (branch : Branch) (chain : Option Cond) → chain_of branch ≡ chain → LeavesOf (branch ∷ []) chain
leaves-chain branch None is = tt
leaves-chain branch (Some chain) is = is

fits-behind : (word : BranchWord) (chain : Option Cond) (ended : List Branch) → LeavesOf ended chain → branch_fits word chain ≡ true → branch_fits word (chain_after (slice_get ended 0)) ≡ true
fits-behind word None ended leaves fits = fits-alone word (chain_after (slice_get ended 0)) fits
fits-behind word (Some chain) ended leaves fits = ap (branch_fits word) leaves ∙ fits

begins : (word : BranchWord) (chain : Option Cond) (own : Result Cond Cause) (ended : List Branch) → LeavesOf ended chain →
    branch_of word chain own ∷ [] ≡ begun (said.Branch word own (branch_fits word chain)) (slice_get ended 0)
begins If chain own ended leaves = refl
begins Elif None own ended leaves = refl
begins Elif (Some chain) own ended leaves = ap (λ v. branch_of Elif v own ∷ []) (sym leaves)
begins Else None own ended leaves = refl
begins Else (Some chain) own ended leaves = ap (λ v. branch_of Else v own ∷ []) (sym leaves)

-- the parts of a branch come directly after it, and those after the branch follow its chain
keep-branch : (line : ℕ) (opened : List Branch) (branches : List Cond) (word : BranchWord) (chain : Option Cond) (own : Result Cond Cause) (within behind : List SectionPart) → branches ≡ map condition opened →
    KeepChained (opened ++ branch_of word chain own ∷ []) None within → KeepChained opened (chain_of (branch_of word chain own)) behind →
    KeepChained opened chain (record { line = line; branches = branches; said = said.Branch word own (branch_fits word chain) } ∷ within ++ behind)
keep-branch line opened branches word chain own within behind stands inside others ended more leaves rest =
    let branch = branch_of word chain own in
    let there : AreChained (opened ++ branch ∷ []) (behind ++ more) = others (branch ∷ []) more (leaves-chain branch (chain_of branch) refl) rest in
    let here : AreChained (opened ++ branch ∷ []) (within ++ (behind ++ more)) =
    subst (λ v. AreChained v (within ++ (behind ++ more))) (append-nil (opened ++ branch ∷ [])) (inside [] (behind ++ more) tt there) in
    let told : AreChained (opened ++ begun (said.Branch word own (branch_fits word chain)) (slice_get ended 0)) ((within ++ behind) ++ more) =
    subst (λ v. AreChained (opened ++ v) ((within ++ behind) ++ more)) (begins word chain own ended leaves)
    (subst (AreChained (opened ++ branch ∷ [])) (sym (append_assoc within behind more)) here) in
    chained-part opened ended (record { line = line; branches = branches; said = said.Branch word own (branch_fits word chain) }) ((within ++ behind) ++ more) stands told
    (λ other o is.
    let same : word ≡ other = cc is in
    let fits : branch_fits word chain ≡ true = cc is in
    subst (λ w. branch_fits w (chain_after (slice_get ended 0)) ≡ true) same (fits-behind word chain ended leaves fits))

keep-section : (spec : Spec) (word : InnerWord) (line : ℕ) (args : List ℕ) (opened : List Branch) (branches : List Cond) (chain : Option Cond) (Within : List Cond → List SectionPart → Type 0) (Behind : Option Cond → List SectionPart → Type 0) →
    branches ≡ map condition opened → ((under : List Branch) (within : List Cond) (parts : List SectionPart) → within ≡ map condition under → Within within parts → KeepChained under None parts) →
    ((left : Option Cond) (parts : List SectionPart) → Behind left parts → KeepChained opened left parts) → (parts : List SectionPart) → SectionSays spec word line args branches chain Within Behind parts → KeepChained opened chain parts
keep-section spec (inner.Branch word) line args opened branches chain Within Behind stands inside others parts says =
    let branch = branch_of word chain says.own in
    let under : branches ++ condition branch ∷ [] ≡ map condition (opened ++ branch ∷ []) = ap (λ v. v ++ condition branch ∷ []) stands ∙ sym (map-append condition opened (branch ∷ [])) in
    subst (KeepChained opened chain) (sym says.are)
    (keep-branch line opened branches word chain says.own says.within says.behind stands
    (inside (opened ++ branch ∷ []) (branches ++ condition branch ∷ []) says.within under says.inside) (others (chain_of branch) says.behind says.others))
keep-section spec inner.Misplaced line args opened branches chain Within Behind stands inside others parts says =
    subst (KeepChained opened chain) (sym says.2) (keep-part line opened branches chain said.Misplaced says.0 stands (λ before word own is. absurd (cc is)) (others None says.0 says.1))
keep-section spec inner.Unread line args opened branches chain Within Behind stands inside others parts says = λ ended more leaves rest. others None parts says ended more tt rest

-- ---- a section

keep-items : (spec : Spec) (kind : SectionKind) (front tree : Tree) (opened : List Branch) (branches : List Cond) (chain : Option Cond) (parts : List SectionPart) → branches ≡ map condition opened → Items spec kind front tree branches chain parts → KeepChained opened chain parts
unfolding Items
keep-items spec kind front end opened branches chain parts stands says = subst (KeepChained opened chain) (sym says) (keep-none opened chain)
keep-items spec kind front (field line name values behind) opened branches chain parts stands says =
    subst (KeepChained opened chain) (sym says.4)
    (keep-field spec (field_word kind name) line (joined_text values) (import_fits spec kind front branches) opened branches chain says.0 says.1 stands says.2
    (keep-items spec kind (field line name values front) behind opened branches None says.1 stands says.3))
keep-items spec kind front (section line name args items behind) opened branches chain parts stands says =
    keep-section spec (inner_word kind name) line args opened branches chain
    (λ within found. Items spec kind end items within None found) (λ left found. Items spec kind (section line name args items front) behind branches left found) stands
    (λ under within found are. keep-items spec kind end items under within None found are)
    (λ left found. keep-items spec kind (section line name args items front) behind opened branches left found stands) parts says

pub parts-chained : (spec : Spec) (kind : SectionKind) (items : Tree) (parts : List SectionPart) → AreParts spec kind items parts → AreSectionParts parts
unfolding AreChained
parts-chained spec kind items parts are = subst AreSectionParts (append-nil parts) (keep-items spec kind end items [] [] None parts refl are [] [] tt tt)

-- ---- a file

chained-in-file : (spec : Spec) (kind : Option SectionKind) (line : ℕ) (args : List ℕ) (items : Tree) (Behind : List Section → Type 0) → ((more : List Section) → Behind more → AllByRecursion (λ one. AreSectionParts one.parts) more) →
    (sections : List Section) → SectionIs spec kind line args items Behind sections → AllByRecursion (λ one. AreSectionParts one.parts) sections
chained-in-file spec None line args items Behind behind sections is = behind sections is
chained-in-file spec (Some kind) line args items Behind behind sections is =
    subst (AllByRecursion (λ (one : Section). AreSectionParts one.parts)) (sym is.4) (parts-chained spec kind items is.0 is.2, behind is.1 is.3)

said-chained : (spec : Spec) (tree : Tree) (heads : List HeadField) (sections : List Section) → Says spec tree heads sections → AllByRecursion (λ one. AreSectionParts one.parts) sections
unfolding Says
said-chained spec end heads sections says = subst (AllByRecursion (λ (one : Section). AreSectionParts one.parts)) (sym says.1) tt
said-chained spec (field line name values behind) heads sections says = said-chained spec behind says.1 sections says.3
said-chained spec (section line name args items behind) heads sections says =
    chained-in-file spec (section_kind name) line args items (λ more. Says spec behind heads more) (λ more. said-chained spec behind heads more) sections says

pub file-chained : (spec : Spec) (items : List Element) (file : File) → IsFile spec items file → All (λ one. AreSectionParts one.parts) file.sections
file-chained spec items file is = All-from_recursion (λ (one : Section). AreSectionParts one.parts) file.sections (said-chained spec (tree_of items) file.heads file.sections is.1)
