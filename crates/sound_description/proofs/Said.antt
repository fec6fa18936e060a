-- The heads and sections of a file come from its elements.
use Rattle.std.proofs.Common.{◌≡◌, ℕ, Bool, true, false, if◌then◌else◌, List, [], ◌∷◌, map, Option, Some, None, refl, sym, ap, ◌∙◌, subst}
use Rattle.std.specs.Char.{to_ascii_lowercase}
use Rattle.std.specs.Option.{option_or}
use Rattle.std.specs.List.{list_all, AllByRecursion}
use Rattle.std.proofs.lemmas.Bool.{and_parts, and_from}
use Rattle.std.proofs.lemmas.Slice.Eq.{bytes_eq-Decides}
use Rattle.std.proofs.lemmas.Str.Ascii.{lowercase-lowercase}
use Rattle.plan_types.specs.Bytes.{joined_text, same_text}
use Rattle.plan_types.specs.Name.{is_lower, is_package_name}
use Rattle.plan_types.specs.declared.range.Spec.{Spec}
use Rattle.plan_types.specs.declared.version.Version.{Version}
use Rattle.version_range.specs.Version.{is_version, IsVersionOf}
use Rattle.text_grammar.specs.Words.{package_name}
use Rattle.section_syntax.specs.File.{HeadSays, headed, SectionIs, Says, section_name}
use Rattle.section_syntax.specs.Items.{AreParts}
use Rattle.cabal_lexer.specs.Tree.{Tree, end, field, section}
use Rattle.section_syntax.specs.Words.{head_word, section_kind}
use Rattle.section_syntax.specs.declared.part.Head.{Head}
use Rattle.section_syntax.specs.declared.part.Head.TheVariants as head
use Rattle.section_syntax.specs.declared.part.HeadField.{HeadField}
use Rattle.section_syntax.specs.declared.part.Section.{Section}
use Rattle.section_syntax.specs.declared.part.SectionKind.{SectionKind}
use Rattle.section_syntax.specs.declared.part.SectionKind.TheVariants as kinds
use Rattle.section_syntax.specs.declared.words.HeadWord.{HeadWord}
use Rattle.section_syntax.specs.declared.words.HeadWord.TheVariants as words
use Rattle.package_declarations.specs.Declarations.{joined, name_said, own_name}
use Rattle.text_grammar.specs.Last.{last_given}
use Rattle.description.specs.Description.{version_said, version_of}
use Rattle.common_laws.specs.Passing.{all-append}

-- a section's name as it is kept: a flag's in lower case
abbrev pub is_kept_name : SectionKind → List ℕ → Bool
is_kept_name (kinds.Component kind) name = true
is_kept_name kinds.Common name = true
is_kept_name kinds.Flag name = is_lower name
is_kept_name kinds.Setup name = true

lower-twice : (text : List ℕ) → map to_ascii_lowercase (map to_ascii_lowercase text) ≡ map to_ascii_lowercase text
lower-twice [] = refl
lower-twice (b ∷ text) = ap (λ v. v ∷ map to_ascii_lowercase (map to_ascii_lowercase text)) (lowercase-lowercase b) ∙ ap (λ v. to_ascii_lowercase b ∷ v) (lower-twice text)

kept-name : (kind : SectionKind) (args : List ℕ) → is_kept_name kind (section_name kind args) ≡ true
kept-name (kinds.Component kind) args = refl
kept-name kinds.Common args = refl
kept-name kinds.Flag args = ap (λ x. same_text x (map to_ascii_lowercase args)) (lower-twice args) ∙ (bytes_eq-Decides (map to_ascii_lowercase args) (map to_ascii_lowercase args)).1 refl
kept-name kinds.Setup args = refl

-- a section read from the items of a tree
pub record IsReadSection (spec : Spec) (section : Section) : Type 0 where
  pub tree : Tree
  pub items : AreParts spec section.kind tree section.parts
  pub name : is_kept_name section.kind section.name ≡ true

one_section : (spec : Spec) (kind : Option SectionKind) (line : ℕ) (args : List ℕ) (items : Tree) (Behind : List Section → Type 0)
    → ((sections : List Section) → Behind sections → AllByRecursion (IsReadSection spec) sections) → (sections : List Section) → SectionIs spec kind line args items Behind sections → AllByRecursion (IsReadSection spec) sections
one_section spec None line args items Behind behind sections says = behind sections says
one_section spec (Some kind) line args items Behind behind sections says =
    subst (AllByRecursion (IsReadSection spec)) (sym says.4) (record { tree = items; items = says.2; name = kept-name kind args }, behind says.1 says.3)

pub sections-read : (spec : Spec) (tree : Tree) (heads : List HeadField) (sections : List Section) → Says spec tree heads sections → AllByRecursion (IsReadSection spec) sections
unfolding Says
sections-read spec end heads sections says = subst (AllByRecursion (IsReadSection spec)) (sym says.1) tt
sections-read spec (field line name values behind) heads sections says = sections-read spec behind says.1 sections says.3
sections-read spec (section line name args items behind) heads sections says =
    one_section spec (section_kind name) line args items (λ more. Says spec behind heads more) (λ more is. sections-read spec behind heads more is) sections says

-- ---- fields beside the sections

-- well-formed names and versions
abbrev is_good : Head → Bool
is_good (head.Name None) = true
is_good (head.Name (Some name)) = is_package_name name
is_good (head.Version None) = true
is_good (head.Version (Some version)) = is_version version.parts
is_good (head.BuildType custom) = true

abbrev is_good_field : HeadField → Bool
is_good_field one = is_good one.head

one_headed : (line : ℕ) (found : Head) → is_good found ≡ true → list_all is_good_field (headed line (Some found)) ≡ true
one_headed line found good = and_from (is_good found) true good refl

name-good : (text : List ℕ) → is_good (head.Name (package_name text)) ≡ true
name-good text = by (is_package_name text) refl
  where
    by : (b : Bool) → is_package_name text ≡ b → is_good (head.Name (if b then Some text else None)) ≡ true
    by true e = e
    by false e = refl

version-good : (text : List ℕ) (version : Option Version) → IsVersionOf text version → is_good (head.Version version) ≡ true
version-good text None is = refl
version-good text (Some version) is = is.0

head-good : (word : HeadWord) (line : ℕ) (text : List ℕ) (found : Option Head) → HeadSays word text found → list_all is_good_field (headed line found) ≡ true
head-good words.Name line text found says = ap (λ f. list_all is_good_field (headed line f)) says ∙ one_headed line (head.Name (package_name text)) (name-good text)
head-good words.Version line text found says = ap (λ f. list_all is_good_field (headed line f)) says.2 ∙ one_headed line (head.Version says.0) (version-good text says.0 says.1)
head-good words.BuildType line text found says = ap (λ f. list_all is_good_field (headed line f)) says
head-good words.Unread line text found says = ap (λ f. list_all is_good_field (headed line f)) says

in_section : (spec : Spec) (kind : Option SectionKind) (line : ℕ) (args : List ℕ) (items : Tree) (Behind : List Section → Type 0) {R : Type 0}
    → ((more : List Section) → Behind more → R) → (sections : List Section) → SectionIs spec kind line args items Behind sections → R
in_section spec None line args items Behind behind sections says = behind sections says
in_section spec (Some kind) line args items Behind behind sections says = behind says.1 says.3

heads-good : (spec : Spec) (tree : Tree) (heads : List HeadField) (sections : List Section) → Says spec tree heads sections → list_all is_good_field heads ≡ true
unfolding Says
heads-good spec end heads sections says = ap (list_all is_good_field) says.0
heads-good spec (field line name values behind) heads sections says =
    ap (list_all is_good_field) says.4
    ∙ all-append is_good_field (headed line says.0) says.1 (head-good (head_word name) line (joined_text values) says.0 says.2) (heads-good spec behind says.1 sections says.3)
heads-good spec (section line name args items behind) heads sections says =
    in_section spec (section_kind name) line args items (λ more. Says spec behind heads more) (λ more is. heads-good spec behind heads more is) sections says

-- ---- the last value

-- the value passes, if there is one
abbrev if-some : {A : Type 0} → (A → Bool) → Option A → Bool
if-some p None = true
if-some p (Some x) = p x

-- the last value passes if all values do
last-good : {A B : Type 0} (q : A → Bool) (p : B → Bool) (of : A → Option B) → ((x : A) → q x ≡ true → if-some p (of x) ≡ true) → (xs : List A) (v : B)
    → list_all q xs ≡ true → last_given of xs ≡ Some v → p v ≡ true
last-good q p of said [] v all e = absurd (cc e)
last-good q p of said (x ∷ xs) v all e =
    let here = and_parts (q x) (list_all q xs) all in
    elim (last_given of xs) as (λ o. last_given of xs ≡ o → p v ≡ true) [
      | None ↦ λ is. ap (if-some p) (sym (sym (ap (λ o. option_or o (of x)) is) ∙ e)) ∙ said x here.0
      | Some w ↦ λ is. last-good q p of said xs v here.1 (is ∙ sym (ap (λ o. option_or o (of x)) is) ∙ e)
    ] refl

-- the name is well-formed, if there is one
abbrev is_good_name : Option (List ℕ) → Bool
is_good_name None = true
is_good_name (Some name) = is_package_name name

said-names : (found : Head) → is_good found ≡ true → if-some is_good_name (name_said found) ≡ true
said-names (head.Name None) good = refl
said-names (head.Name (Some name)) good = good
said-names (head.Version version) good = refl
said-names (head.BuildType custom) good = refl

joined-some : {A : Type 0} (o : Option (Option A)) (x : A) → joined o ≡ Some x → o ≡ Some (Some x)
joined-some None x e = absurd (cc e)
joined-some (Some o) x e = ap Some e

said-versions : (found : Head) → is_good found ≡ true → if-some (λ (version : Version). is_version version.parts) (version_said found) ≡ true
said-versions (head.Name name) good = refl
said-versions (head.Version None) good = refl
said-versions (head.Version (Some version)) good = good
said-versions (head.BuildType custom) good = refl

module _ (spec : Spec) (tree : Tree) (heads : List HeadField) (sections : List Section) (says : Says spec tree heads sections) where
  pub name-formed : (name : List ℕ) → own_name heads ≡ Some name → is_package_name name ≡ true
  name-formed name e =
      last-good is_good_field is_good_name (λ one. name_said one.head) (λ one. said-names one.head) heads (Some name)
      (heads-good spec tree heads sections says)
      (joined-some (last_given (λ one. name_said one.head) heads) name e)

  pub version-formed : (version : Version) → version_of heads ≡ Some version → is_version version.parts ≡ true
  version-formed version e =
      last-good is_good_field (λ (v : Version). is_version v.parts) (λ one. version_said one.head) (λ one. said-versions one.head) heads version
      (heads-good spec tree heads sections says) e
