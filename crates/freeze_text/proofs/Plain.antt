-- The bytes of constraints.
use Rattle.std.proofs.Common.{◌≡◌, ℕ, ◌<◌, Bool, true, false, cond, not, ◌&&◌, ◌||◌, List, [], ◌∷◌, ◌++◌, refl, sym, ap, ◌∙◌, arith}
use Rattle.std.specs.Prelude.{◌==◌, codes, flat_map, if◌then◌else◌}
use Rattle.std.specs.Char.{is_ascii_digit}
use Rattle.std.specs.Fmt.{decimal}
use Rattle.std.specs.List.{list_all, list_any, slice_split, onto_first}
use Rattle.std.specs.Str.{IsAscii, all_ascii_digits}
use Rattle.std.proofs.lemmas.Bool.{and_parts, and_from, false≢true}
use Rattle.std.proofs.lemmas.Bool.Decides.{nat_tests}
use Rattle.std.proofs.lemmas.List.Folds.{list_all-append}
use Rattle.std.proofs.lemmas.Str.Ascii.{IsAscii-nil, IsAscii-cons}
use Rattle.plan_types.specs.declared.condition.FlagSet.{FlagSet}
use Rattle.plan_types.specs.declared.constraint.Constraint.{Constraint}
use Rattle.plan_types.specs.declared.constraint.Scope.{Scope}
use Rattle.plan_types.specs.declared.constraint.Scope.TheVariants.{Top, Any, Setup, SetupOf}
use Rattle.plan_types.specs.declared.constraint.What.{What}
use Rattle.plan_types.specs.declared.range.Range.TheOpen as layer
use Rattle.plan_types.specs.declared.range.Range.TheFolds.{fold-roll-Range}
use Rattle.plan_types.specs.declared.range.Range.TheVariants.{Equal, rolls-Equal}
use Rattle.plan_types.specs.declared.version.Version.{Version}
use Rattle.plan_types.specs.Name.{is_component_byte, is_component_name, is_flag_name, is_group, is_letter, is_letter_or_digit, is_lower, is_package_name}
use Rattle.version_range.specs.declared.print.RangePlace.{RangePlace}
use Rattle.version_range.specs.declared.print.RangePlace.TheVariants.{Whole}
use Rattle.version_range.specs.Print.{range_text, text_in, text_step}
use Rattle.version_range.specs.Version.{IsVersion, version_text}
use Rattle.version_range.proofs.VersionNumbers.{decimal_digits, version_from}
use Rattle.entry_text.specs.Words.{is_name_byte}
use Rattle.common_laws.specs.Passing.{all-less}
use Rattle.freeze_text.specs.Reads.{IsPlain, version, installed, source, flags, IsPlainConstraint, is_plain_flag, is_plain_scope}
use Rattle.freeze_text.specs.Text.{constraint_text, flag_text, scope_text, what_text}

first-in : (p : ℕ → Bool) (b : ℕ) (groups : List (List ℕ)) → list_all (list_all p) (onto_first b groups) ≡ true → (p b ≡ true) × (list_all (list_all p) groups ≡ true)
first-in p b [] h = ((and_parts (p b) true (and_parts (p b && true) true h).0).0, refl)
first-in p b (group ∷ groups) h =
    let both = and_parts (p b && list_all p group) (list_all (list_all p) groups) h in
    let first = and_parts (p b) (list_all p group) both.0 in
    (first.0, and_from (list_all p group) (list_all (list_all p) groups) first.1 both.1)

-- where each part passes, each byte passes or is one of those between
split-all : (p q : ℕ → Bool) (text : List ℕ) → list_all (list_all p) (slice_split q text) ≡ true → list_all (λ b. p b || q b) text ≡ true
split-all p q [] h = refl
split-all p q (b ∷ bs) h =
    elim (q b) as (λ t. list_all (list_all p) (cond t ([] ∷ slice_split q bs) (onto_first b (slice_split q bs))) ≡ true → ((p b || t) && list_all (λ b. p b || q b) bs) ≡ true) [
      | true ↦ λ k. and_from (p b || true) (list_all (λ b. p b || q b) bs) (elim (p b) as (λ t. (t || true) ≡ true) [ true ↦ refl | false ↦ refl ]) (split-all p q bs k)
      | false ↦ λ k. let found = first-in p b (slice_split q bs) k in and_from (p b || false) (list_all (λ b. p b || q b) bs) (ap (λ t. t || false) found.0) (split-all p q bs found.1)
    ] h

groups-plain : (groups : List (List ℕ)) → list_all is_group groups ≡ true → list_all (list_all is_letter_or_digit) groups ≡ true
groups-plain = all-less is_group (list_all is_letter_or_digit) (λ group h. (and_parts (list_all is_letter_or_digit group) (list_any is_letter group) h).0)

pub name-bytes : (name : List ℕ) → is_package_name name ≡ true → list_all is_name_byte name ≡ true
name-bytes name h = split-all is_letter_or_digit (λ b. b == 45) name (groups-plain (slice_split (λ b. b == 45) name) h)

-- the first byte is a letter or a digit
pub record Begins (text : List ℕ) : Type 0 where
  pub first : ℕ
  pub others : List ℕ
  pub whole : text ≡ first ∷ others
  pub plain : is_letter_or_digit first ≡ true

pub name-begins : (name : List ℕ) → is_package_name name ≡ true → Begins name
name-begins [] h = absurd (false≢true h)
name-begins (b ∷ bs) h = record {
  first = b;
  others = bs;
  whole = refl;
  plain = elim (b == 45) as (λ t. list_all is_group (cond t ([] ∷ slice_split (λ b. b == 45) bs) (onto_first b (slice_split (λ b. b == 45) bs))) ≡ true → is_letter_or_digit b ≡ true) [
    | true ↦ λ k. absurd (false≢true k)
    | false ↦ λ k. (first-in is_letter_or_digit b (slice_split (λ b. b == 45) bs) (groups-plain (onto_first b (slice_split (λ b. b == 45) bs)) k)).0
  ] h;
}

-- the bytes of constraints
abbrev pub is_plain_byte : ℕ → Bool
is_plain_byte b = is_component_byte b || (b == 32 || (b == 46 || (b == 58 || (b == 61 || b == 43))))

component-plain : (b : ℕ) → is_component_byte b ≡ true → is_plain_byte b ≡ true
component-plain b h = ap (λ t. t || (b == 32 || (b == 46 || (b == 58 || (b == 61 || b == 43))))) h

name-component : (b : ℕ) → is_name_byte b ≡ true → is_component_byte b ≡ true
name-component b h = grind (arith, nat_tests)

digit-component : (b : ℕ) → is_ascii_digit b ≡ true → is_component_byte b ≡ true
digit-component b h = grind (arith, nat_tests)

pub name-plain : (name : List ℕ) → is_package_name name ≡ true → list_all is_plain_byte name ≡ true
name-plain name h = all-less is_name_byte is_plain_byte (λ b k. component-plain b (name-component b k)) name (name-bytes name h)

plain-append : (xs ys : List ℕ) → list_all is_plain_byte xs ≡ true → list_all is_plain_byte ys ≡ true → list_all is_plain_byte (xs ++ ys) ≡ true
plain-append xs ys h k = list_all-append is_plain_byte xs ys ∙ and_from (list_all is_plain_byte xs) (list_all is_plain_byte ys) h k

digits-plain : (ds : List ℕ) → all_ascii_digits ds ≡ true → list_all is_plain_byte ds ≡ true
digits-plain = all-less is_ascii_digit is_plain_byte (λ b k. component-plain b (digit-component b k))

version-plain : (ps : List ℕ) → IsVersion ps → list_all is_plain_byte (version_text ps) ≡ true
version-plain [] h = absurd h
version-plain (n ∷ []) h = digits-plain (decimal n) (decimal_digits n h)
version-plain (n ∷ m ∷ ns) h = plain-append (decimal n) (46 ∷ version_text (m ∷ ns)) (digits-plain (decimal n) (decimal_digits n h.0)) (version-plain (m ∷ ns) h.1)

flag-components : (name : List ℕ) → is_flag_name name ≡ true → list_all is_component_byte name ≡ true
flag-components [] h = refl
flag-components (b ∷ bs) h = (and_parts (not (b == 45)) (is_component_name (b ∷ bs)) h).1

pub flag-name : (set : FlagSet) → is_plain_flag set ≡ true → is_flag_name set.name ≡ true
flag-name set h = (and_parts (is_flag_name set.name) (is_lower set.name) h).0

pub word-components : (set : FlagSet) → is_plain_flag set ≡ true → list_all is_component_byte set.name ≡ true
word-components set h = flag-components set.name (flag-name set h)

sign-plain : (on : Bool) → list_all is_plain_byte (if on then codes " +" else codes " -") ≡ true
sign-plain true = refl
sign-plain false = refl

flags-plain : (sets : List FlagSet) → list_all is_plain_flag sets ≡ true → list_all is_plain_byte (flat_map flag_text sets) ≡ true
flags-plain [] h = refl
flags-plain (set ∷ sets) h =
    let both = and_parts (is_plain_flag set) (list_all is_plain_flag sets) h in
    plain-append (flag_text set) (flat_map flag_text sets)
    (plain-append (if set.on then codes " +" else codes " -") set.name (sign-plain set.on) (all-less is_component_byte is_plain_byte component-plain set.name (word-components set both.0)))
    (flags-plain sets both.1)

-- a version in a range of its own
pub text-equal : (v : Version) → range_text (Equal v) ≡ codes "==" ++ version_text v.parts
text-equal v = ap (λ r. text_in r Whole) (sym (rolls-Equal v)) ∙ ap (λ f. f Whole) (fold-roll-Range (RangePlace → List ℕ) text_step (layer.Equal v))

pub what-plain : (what : What) → IsPlain what → list_all is_plain_byte (what_text what) ≡ true
what-plain _ (version v h) = ap (λ t. list_all is_plain_byte (32 ∷ t)) (text-equal v) ∙ version-plain v.parts (version_from v.parts h)
what-plain _ installed = refl
what-plain _ source = refl
what-plain _ (flags sets h k) = flags-plain sets k

scope-plain : (scope : Scope) → is_plain_scope scope ≡ true → list_all is_plain_byte (scope_text scope) ≡ true
scope-plain Top h = refl
scope-plain Any h = refl
scope-plain Setup h = refl
scope-plain (SetupOf owner) h = plain-append owner (codes ":setup.") (name-plain owner h) refl

pub constraint-plain : (c : Constraint) → IsPlainConstraint c → list_all is_plain_byte (constraint_text c) ≡ true
constraint-plain c is =
    plain-append (scope_text c.scope) (c.«package» ++ what_text c.what) (scope-plain c.scope is.scope) (plain-append c.«package» (what_text c.what) (name-plain c.«package» is.name) (what-plain c.what is.what))

pub plain-ascii : (text : List ℕ) → list_all is_plain_byte text ≡ true → IsAscii text
plain-ascii [] h = IsAscii-nil
plain-ascii (b ∷ bs) h =
    let both = and_parts (is_plain_byte b) (list_all is_plain_byte bs) h in
    IsAscii-cons b bs (plain-small b both.0) (plain-ascii bs both.1)
  where
    plain-small : (b : ℕ) → is_plain_byte b ≡ true → b < 128
    plain-small b h = grind (arith, nat_tests)

-- no byte is this one
pub without-byte : (byte : ℕ) → ((b : ℕ) → is_plain_byte b ≡ true → (b == byte) ≡ false) → (text : List ℕ) → list_all is_plain_byte text ≡ true → list_all (λ b. not (b == byte)) text ≡ true
without-byte byte other = all-less is_plain_byte (λ b. not (b == byte)) (λ b h. ap not (other b h))

pub no-comma : (b : ℕ) → is_plain_byte b ≡ true → (b == 44) ≡ false
no-comma b h = grind (arith, nat_tests)

pub no-brace : (b : ℕ) → is_plain_byte b ≡ true → (b == 123) ≡ false
no-brace b h = grind (arith, nat_tests)

pub no-close : (b : ℕ) → is_plain_byte b ≡ true → (b == 125) ≡ false
no-close b h = grind (arith, nat_tests)

pub no-newline : (b : ℕ) → is_plain_byte b ≡ true → (b == 10) ≡ false
no-newline b h = grind (arith, nat_tests)

pub no-return : (b : ℕ) → is_plain_byte b ≡ true → (b == 13) ≡ false
no-return b h = grind (arith, nat_tests)
