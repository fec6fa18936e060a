-- Shared: extra packages have well-formed names.
use Rattle.std.proofs.Common.{◌≡◌, ℕ, Bool, true, false, ◌||◌, if◌then◌else◌, inl, inr, List, [], ◌∷◌, codes, refl, sym, ap, subst, ◌∙◌}
use Rattle.std.specs.Prelude.{Option, Some, None, Result, Ok, Err, IfOk}
use Rattle.std.specs.List.{list_all}
use Rattle.std.proofs.lemmas.Bool.{and_from, and_parts}
use Rattle.plan_types.specs.Bytes.{joined_text, same_text}
use Rattle.plan_types.specs.Name.{is_package_name}
use Rattle.plan_types.specs.declared.condition.Env.{Env}
use Rattle.plan_types.specs.declared.dependency.Named.{Named}
use Rattle.plan_types.specs.declared.project.Project.{Project}
use Rattle.plan_types.specs.declared.refusal.Cause.{Cause}
use Rattle.plan_types.specs.declared.refusal.Cause.TheVariants.{BadName, ElseWithoutIf, Unsupported}
use Rattle.plan_types.specs.declared.refusal.Refusal.{Refusal}
use Rattle.constraint_text.specs.Constraints.{Constraints, ConstraintsFault}
use Rattle.entry_text.specs.Entries.{Each, none, more}
use Rattle.constraint_text.specs.Named.{NamedEntry, NamedFault, NamedRanges}
use Rattle.constraint_text.specs.Relaxes.{RelaxFault, Relaxes}
use Rattle.cabal_lexer.specs.Tree.{Tree, end, field, section, tree_of}
use Rattle.project_file.specs.Branches.{branch_fault, fits}
use Rattle.project_file.specs.Fields.{FieldSays, IsRead, KindSays, or_bad, said_of}
use Rattle.project_file.specs.Flags.{flags_in}
use Rattle.project_file.specs.Parts.{IfTaken, IsBranch, Says, SectionSays, flag_part, flag_parts, flags_said, is_every, package_parts, placed, said_flags}
use Rattle.project_file.specs.Project.{Placed, all, given, given_at, placed_all, placed_at}
use Rattle.project_file.specs.Read.{AllRead, FileReads, GoesOn, IsProject, in_front, or_refusal, project_of}
use Rattle.project_file.specs.Texts.{Reads, first_fault, unless_bad}
use Rattle.project_file.specs.Words.{field_word, section_word}
use Rattle.project_file.specs.declared.part.ProjectPart.{ProjectPart}
use Rattle.project_file.specs.declared.part.ProjectSaid.{ProjectSaid}
use Rattle.project_file.specs.declared.part.ProjectSaid.TheVariants as said
use Rattle.project_file.specs.declared.part.Switch.{Switch}
use Rattle.project_file.specs.declared.part.Switch.TheVariants.{Tests, Benchmarks, PreferOldest, BootInstalls}
use Rattle.project_file.specs.declared.read.ProjectText.{ProjectText}
use Rattle.project_file.specs.declared.text.FaultLine.{FaultLine}
use Rattle.project_file.specs.declared.words.ProjectBranchWord.{ProjectBranchWord}
use Rattle.project_file.specs.declared.words.FieldKind.{FieldKind}
use Rattle.project_file.specs.declared.words.FieldKind.TheVariants as kinds
use Rattle.project_file.specs.declared.words.ProjectFieldWord.{ProjectFieldWord}
use Rattle.project_file.specs.declared.words.ProjectFieldWord.TheVariants as fields
use Rattle.project_file.specs.declared.words.SectionWord.{SectionWord}
use Rattle.common_laws.specs.Passing.{all-append}
use Rattle.text_grammar.specs.Words.{boolean}
use Rattle.text_grammar.specs.Outcome.{Read}
use Rattle.version_range.specs.Number.{limit_of}
use Rattle.project_file.specs.declared.words.SectionWord.TheVariants as sections

-- all names are well-formed
abbrev pub are_named : List Named → Bool
are_named extra = list_all (λ named. is_package_name named.name) extra

-- all extra packages of this content have well-formed names, wherever it is
abbrev is_well : ProjectSaid → Bool
is_well found = are_named (given_at [] 0 found).extra

abbrev are_well : List ProjectPart → Bool
are_well parts = list_all (λ part. is_well part.said) parts

either : {A : Type 0} (p : A → Bool) (b : Bool) (x y : A) → p x ≡ true → p y ≡ true → p (if b then x else y) ≡ true
either p true x y h k = h
either p false x y h k = k

-- ---- a field

each-named : (pieces : List (List ℕ)) (extra : List Named) → Each NamedEntry pieces extra → are_named extra ≡ true
each-named pieces extra none = refl
each-named pieces extra (more {part = part} {x = named} {parts = parts} {xs = others} here rest) =
    and_from (is_package_name named.name) (are_named others) (ap is_package_name here.name ∙ here.form) (each-named parts others rest)

read-well : {A : Type 0} (as' : A → ProjectSaid) (Stands : A → Type 0) (Fails : Cause → Type 0) → ((a : A) → Stands a → is_well (as' a) ≡ true) → (read : Result A Cause) → Read Stands Fails read → is_well (said_of as' read) ≡ true
read-well as' Stands Fails each (Ok a) stands = each a stands
read-well as' Stands Fails each (Err cause) fails = refl

said-well : {A : Type 0} (as' : A → ProjectSaid) (Stands : A → Type 0) (Fails : Cause → Type 0) → ((a : A) → Stands a → is_well (as' a) ≡ true) → (found : ProjectSaid) → IsRead as' Stands Fails found → is_well found ≡ true
said-well as' Stands Fails each found says = ap is_well says.2 ∙ read-well as' Stands Fails each says.0 says.1

bad-well : {A : Type 0} (as' : A → ProjectSaid) → ((a : A) → is_well (as' a) ≡ true) → (value : Option A) → is_well (or_bad as' value) ≡ true
bad-well as' each None = refl
bad-well as' each (Some a) = each a

switch-well : (which : Switch) (on : Bool) → is_well (said.Switch which on) ≡ true
switch-well Tests on = refl
switch-well Benchmarks on = refl
switch-well PreferOldest on = refl
switch-well BootInstalls on = refl

kind-well : (kind : FieldKind) (text : List ℕ) (found : ProjectSaid) → KindSays kind text found → is_well found ≡ true
kind-well kinds.Packages text found says = ap is_well says
kind-well kinds.OptionalPackages text found says = ap is_well says
kind-well kinds.Extra text found says = said-well said.Extra (NamedRanges text) (NamedFault text) (λ extra ranges. each-named _ extra ranges.each) found says
kind-well kinds.Constraints text found says = said-well said.Constraints (Constraints text) (ConstraintsFault text) (λ constraints stands. refl) found says
kind-well kinds.Preferences text found says = said-well said.Preferences (NamedRanges text) (NamedFault text) (λ preferences stands. refl) found says
kind-well kinds.Newer text found says = said-well said.Newer (Relaxes text) (RelaxFault text) (λ relaxes stands. refl) found says
kind-well kinds.Older text found says = said-well said.Older (Relaxes text) (RelaxFault text) (λ relaxes stands. refl) found says
kind-well (kinds.Switch which) text found says = ap is_well says ∙ bad-well (said.Switch which) (switch-well which) (boolean text)
kind-well kinds.Limit text found says = ap is_well says ∙ bad-well said.Limit (λ value. refl) (limit_of text)

field-well : (word : ProjectFieldWord) (name text : List ℕ) (line : ℕ) (found : Option ProjectSaid) → FieldSays word name text found → are_well (placed line found) ≡ true
field-well (fields.Read kind) name text line found says = ap (λ f. are_well (placed line f)) says.2 ∙ and_from (is_well says.0) true (kind-well kind text says.0 says.1) refl
field-well fields.Warned name text line found says = ap (λ f. are_well (placed line f)) says
field-well fields.Unsupported name text line found says = ap (λ f. are_well (placed line f)) says
field-well fields.Unread name text line found says = ap (λ f. are_well (placed line f)) says

-- ---- a section

flags-well : (args text : List ℕ) → is_well (flags_said args text) ≡ true
flags-well args text = either is_well (is_every args) (said.Bad Unsupported) (or_bad (said_flags args) (flags_in text)) refl (bad-well (said_flags args) (λ flags. refl) (flags_in text))

flag-well : (args : List ℕ) (line : ℕ) (name text : List ℕ) → are_well (flag_part args line name text) ≡ true
flag-well args line name text =
    either are_well (same_text name (codes "flags")) (record { line = line; said = flags_said args text } ∷ []) [] (and_from (is_well (flags_said args text)) true (flags-well args text) refl) refl

items-well : (args : List ℕ) (items : Tree) → are_well (flag_parts args items) ≡ true
unfolding flag_parts
items-well args end = refl
items-well args (field line name values behind) =
    all-append (λ part. is_well part.said) (flag_part args line name (joined_text values)) (flag_parts args behind) (flag-well args line name (joined_text values)) (items-well args behind)
items-well args (section line name inner items behind) = items-well args behind

package-well : (line : ℕ) (args : List ℕ) (items : Tree) → are_well (package_parts line args items) ≡ true
package-well line args items =
    either are_well (is_every args || is_package_name args) (flag_parts args items) (record { line = line; said = said.Bad BadName } ∷ []) (items-well args items) refl

fault-well : (word : ProjectBranchWord) (line : ℕ) (chain : Option Bool) (own : Result Bool Cause) → are_well (placed line (branch_fault word chain own)) ≡ true
fault-well word line chain (Err cause) = refl
fault-well word line chain (Ok value) = either (λ fault. are_well (placed line fault)) (fits word chain) None (Some (said.Bad ElseWithoutIf)) refl refl

inside-well : (taken : Bool) (Within : List ProjectPart → Type 0) → ((parts : List ProjectPart) → Within parts → are_well parts ≡ true) → (parts : List ProjectPart) → IfTaken taken Within parts → are_well parts ≡ true
inside-well true Within each parts inside = each parts inside
inside-well false Within each parts inside = ap are_well inside

module _ (env : Env) (line : ℕ) (name args : List ℕ) (items : Tree) (chain : Option Bool) (Within : List ProjectPart → Type 0) (Behind : Option Bool → List ProjectPart → Type 0)
    (within : (parts : List ProjectPart) → Within parts → are_well parts ≡ true) (behind : (left : Option Bool) (parts : List ProjectPart) → Behind left parts → are_well parts ≡ true) where
  branch-well : (word : ProjectBranchWord) (left : Option Bool) (found : List ProjectPart) → IsBranch env word line args chain Within left found → are_well found ≡ true
  branch-well word left found branch =
      ap are_well branch.are
      ∙ all-append (λ part. is_well part.said) (placed line (branch_fault word chain branch.own)) branch.within (fault-well word line chain branch.own) (inside-well _ Within within branch.within branch.inside)

  section-well : (word : SectionWord) (parts : List ProjectPart) → SectionSays env word line name args items chain Within Behind parts → are_well parts ≡ true
  section-well (sections.Branch word) parts says =
      ap are_well says.5 ∙ all-append (λ part. is_well part.said) says.1 says.2 (branch-well word says.0 says.1 says.3) (behind says.0 says.2 says.4)
  section-well sections.Package parts says =
      ap are_well says.2 ∙ all-append (λ part. is_well part.said) (package_parts line args items) says.0 (package-well line args items) (behind None says.0 says.1)
  section-well sections.Warned parts says = ap are_well says.2 ∙ behind None says.0 says.1
  section-well sections.Unsupported parts says = ap are_well says.2 ∙ behind None says.0 says.1
  section-well sections.Unread parts says = behind None parts says

-- ---- a file

says-well : (env : Env) (tree : Tree) (chain : Option Bool) (parts : List ProjectPart) → Says env tree chain parts → are_well parts ≡ true
unfolding Says
says-well env end chain parts says = ap are_well says
says-well env (field line name values behind) chain parts says =
    ap are_well says.4
    ∙ all-append (λ part. is_well part.said) (placed line says.0) says.1 (field-well (field_word name) name (joined_text values) line says.0 says.2) (says-well env behind None says.1 says.3)
says-well env (section line name args items behind) chain parts says =
    section-well env line name args items chain (λ within. Says env items None within) (λ left more. Says env behind left more)
    (λ within is. says-well env items None within is) (λ left more is. says-well env behind left more is) (section_word name) parts says

abbrev IsWell : {E : Type 0} → Result (List ProjectPart) E → Type 0
IsWell read = IfOk read (λ parts. are_well parts ≡ true)

unless-well : (fault : Option FaultLine) (parts : List ProjectPart) → are_well parts ≡ true → IsWell (unless_bad fault parts)
unless-well None parts well = well
unless-well (Some at) parts well = tt

text-well : (env : Env) (bytes : List ℕ) (read : Result (List ProjectPart) FaultLine) → Reads env bytes read → IsWell read
text-well env bytes read (inl misfits) = subst (λ r. IsWell r) (sym misfits.comes) tt
text-well env bytes read (inr says) = subst (λ r. IsWell r) (sym says.comes) (unless-well (first_fault says.parts) says.parts (says-well env (tree_of says.items) None says.parts says.says))

or_refusal-well : (path : List ℕ) (read : Result (List ProjectPart) FaultLine) → IsWell read → IsWell (or_refusal path read)
or_refusal-well path (Ok parts) well = well
or_refusal-well path (Err at) well = tt

file-well : (env : Env) (text : ProjectText) (read : Result (List ProjectPart) Refusal) → FileReads env text read → IsWell read
file-well env text read is = subst (λ r. IsWell r) (sym is.2) (or_refusal-well text.path is.0 (text-well env text.bytes is.0 is.1))

-- ---- all files

abbrev are_placed_well : List Placed → Bool
are_placed_well parts = list_all (λ part. are_named (given part).extra) parts

abbrev IsPlacedWell : Result (List Placed) Refusal → Type 0
IsPlacedWell read = IfOk read (λ parts. are_placed_well parts ≡ true)

-- path and line don't matter
given-extra : (path : List ℕ) (line : ℕ) (found : ProjectSaid) → (given_at path line found).extra ≡ (given_at [] 0 found).extra
given-extra path line (said.Entries texts optional) = refl
given-extra path line (said.Extra extra) = refl
given-extra path line (said.Constraints constraints) = refl
given-extra path line (said.Preferences preferences) = refl
given-extra path line (said.Newer relaxes) = refl
given-extra path line (said.Older relaxes) = refl
given-extra path line (said.Switch which on) = refl
given-extra path line (said.Limit value) = refl
given-extra path line (said.Warning word) = refl
given-extra path line (said.Bad cause) = refl

placed-well : (path : List ℕ) (parts : List ProjectPart) → are_well parts ≡ true → are_placed_well (placed_all path parts) ≡ true
placed-well path [] well = refl
placed-well path (part ∷ parts) well =
    let both = and_parts (is_well part.said) (are_well parts) well in
    and_from (are_named (given (placed_at path part)).extra) (are_placed_well (placed_all path parts)) (ap are_named (given-extra path part.line part.said) ∙ both.0) (placed-well path parts both.1)

front-well : (parts : List Placed) (more : Result (List Placed) Refusal) → are_placed_well parts ≡ true → IsPlacedWell more → IsPlacedWell (in_front parts more)
front-well parts (Ok others) well also = all-append (λ part. are_named (given part).extra) parts others well also
front-well parts (Err refusal) well also = tt

on-well : (path : List ℕ) (read : Result (List ProjectPart) Refusal) (Rest : Result (List Placed) Refusal → Type 0) → IsWell read → ((more : Result (List Placed) Refusal) → Rest more → IsPlacedWell more)
    → (outcome : Result (List Placed) Refusal) → GoesOn path read Rest outcome → IsPlacedWell outcome
on-well path (Ok parts) Rest well rest outcome goes = subst (λ r. IsPlacedWell r) (sym goes.2) (front-well (placed_all path parts) goes.0 (placed-well path parts well) (rest goes.0 goes.1))
on-well path (Err refusal) Rest well rest outcome goes = subst (λ r. IsPlacedWell r) (sym goes) tt

all-well : (env : Env) (texts : List ProjectText) (outcome : Result (List Placed) Refusal) → AllRead env texts outcome → IsPlacedWell outcome
unfolding AllRead
all-well env [] outcome read = subst (λ r. IsPlacedWell r) (sym read) refl
all-well env (text ∷ texts) outcome read =
    on-well text.path read.0 (λ more. AllRead env texts more) (file-well env text read.0 read.1) (λ more is. all-well env texts more is) outcome read.2

extra-named : (parts : List Placed) → are_placed_well parts ≡ true → are_named (all (λ g. g.extra) parts) ≡ true
extra-named [] well = refl
extra-named (part ∷ parts) well =
    let both = and_parts (are_named (given part).extra) (are_placed_well parts) well in
    all-append (λ named. is_package_name named.name) (given part).extra (all (λ g. g.extra) parts) both.0 (extra-named parts both.1)

abbrev pub IsNamed : Result Project Refusal → Type 0
IsNamed outcome = IfOk outcome (λ project. list_all (λ named. is_package_name named.name) project.extra ≡ true)

of-named : (read : Result (List Placed) Refusal) → IsPlacedWell read → IsNamed (project_of read)
of-named (Ok parts) well = extra-named parts well
of-named (Err refusal) well = tt

pub project-named : (env : Env) (texts : List ProjectText) (outcome : Result Project Refusal) → IsProject env texts outcome → IsNamed outcome
project-named env texts outcome is = subst (λ r. IsNamed r) (sym is.2) (of-named is.0 (all-well env texts is.0 is.1))
