-- What is asked is read behind a name.
use Rattle.std.proofs.Common.{◌≡◌, ℕ, Bool, true, false, not, ◌&&◌, ◌||◌, List, [], ◌∷◌, ◌++◌, length, map, refl, sym, ap, ◌∙◌, subst, inl, inr, append-nil, arith}
use Rattle.std.specs.Prelude.{◌==◌, codes, flat_map, if◌then◌else◌, nat_eq}
use Rattle.std.specs.Char.{to_ascii_lowercase}
use Rattle.std.specs.List.{list_all}
use Rattle.std.proofs.lemmas.Bool.{and_parts, and_from, eq-eqb, false≢true}
use Rattle.std.proofs.lemmas.Bool.Decides.{nat_tests}
use Rattle.plan_types.specs.Bytes.{is_blank, same_text}
use Rattle.plan_types.specs.declared.condition.FlagSet.{FlagSet}
use Rattle.plan_types.specs.declared.constraint.What.{What}
use Rattle.plan_types.specs.declared.constraint.What.TheVariants as what
use Rattle.plan_types.specs.declared.range.Range.TheVariants.{Equal}
use Rattle.plan_types.specs.declared.range.Spec.TheVariants.{V3_0}
use Rattle.plan_types.specs.declared.version.Version.{Version}
use Rattle.plan_types.specs.Name.{is_component_byte, is_flag_name, is_lower}
use Rattle.text_grammar.specs.Parts.{led, one}
use Rattle.version_range.specs.declared.operator.Operator.TheVariants as operators
use Rattle.version_range.specs.Version.{is_version, version_text}
use Rattle.version_range.specs.Grammar.{compared, version, atom, Stands}
use Rattle.version_range.specs.Grammar as grammar
use Rattle.entry_text.specs.Entries.{Each}
use Rattle.entry_text.specs.Entries as entries
use Rattle.entry_text.specs.Words.{is_word, words}
use Rattle.constraint_text.specs.Constraints.{Flag, Required, Requires}
use Rattle.constraint_text.specs.Constraints as constraints
use Rattle.common_laws.specs.Passing.{all-less}
use Rattle.common_laws.specs.Small.{same-is}
use Rattle.freeze_text.specs.Reads.{IsPlain, are_flags, is_plain_flag, is_range_word}
use Rattle.freeze_text.specs.Reads as plain
use Rattle.freeze_text.specs.Text.{flag_text, what_text}
use Rattle.freeze_text.proofs.Plain.{flag-name, is_plain_byte, text-equal, what-plain, word-components}
use Rattle.freeze_text.proofs.Words.{IsRangeWord, is_operator, is_solid, only-word, spaced, words-spaced}

equal-stands : (v : Version) → is_version v.parts ≡ true → Stands V3_0 64 (what_text (what.Range (Equal v))) (Equal v)
equal-stands v h =
    subst (λ t. Stands V3_0 64 (32 ∷ t) (Equal v)) (append-nil (codes "==" ++ version_text v.parts) ∙ sym (text-equal v))
    (grammar.range (32 ∷ codes "==" ++ version_text v.parts) [] (one (one (led (32 ∷ []) refl (atom (version operators.Equal (led [] refl (compared v h))))))) refl)

-- a flag as a word
abbrev word_of : FlagSet → List ℕ
word_of set = (if set.on then 43 else 45) ∷ set.name

flag-word : (set : FlagSet) → flag_text set ≡ 32 ∷ word_of set
flag-word set = elim (set.on) as (λ t. (if t then codes " +" else codes " -") ++ set.name ≡ 32 ∷ (if t then 43 else 45) ∷ set.name) [ true ↦ refl | false ↦ refl ]

flags-spaced : (sets : List FlagSet) → flat_map flag_text sets ≡ spaced (map word_of sets)
flags-spaced [] = refl
flags-spaced (set ∷ sets) = ap (λ t. t ++ flat_map flag_text sets) (flag-word set) ∙ ap (λ t. (32 ∷ word_of set) ++ t) (flags-spaced sets)

component-solid : (b : ℕ) → is_component_byte b ≡ true → not (is_blank b) ≡ true
component-solid b h = grind (arith, nat_tests)

word-solid : (set : FlagSet) → is_plain_flag set ≡ true → is_solid (word_of set) ≡ true
word-solid set h =
    let name = all-less is_component_byte (λ b. not (is_blank b)) component-solid set.name (word-components set h) in
    elim (set.on) as (λ t. is_solid ((if t then 43 else 45) ∷ set.name) ≡ true) [ true ↦ name | false ↦ name ]

words-solid : (sets : List FlagSet) → list_all is_plain_flag sets ≡ true → list_all is_solid (map word_of sets) ≡ true
words-solid [] h = refl
words-solid (set ∷ sets) h =
    let both = and_parts (is_plain_flag set) (list_all is_plain_flag sets) h in
    and_from (is_solid (word_of set)) (list_all is_solid (map word_of sets)) (word-solid set both.0) (words-solid sets both.1)

words-some : (sets : List FlagSet) → list_all is_word (map word_of sets) ≡ true
words-some [] = refl
words-some (set ∷ sets) =
    let some : (length (word_of set) == 0) ≡ false = grind (arith, nat_tests) in
    and_from (is_word (word_of set)) (list_all is_word (map word_of sets)) (ap not some) (words-some sets)

-- what they are as words
words-flags : (sets : List FlagSet) → list_all is_plain_flag sets ≡ true → words (flat_map flag_text sets) ≡ map word_of sets
words-flags sets h = ap words (flags-spaced sets) ∙ words-spaced (map word_of sets) (words-solid sets h) (words-some sets)

plain-is : (set : FlagSet) → is_plain_flag set ≡ true → map to_ascii_lowercase set.name ≡ set.name
plain-is set h = same-is (map to_ascii_lowercase set.name) set.name (and_parts (is_flag_name set.name) (is_lower set.name) h).1

flag-read : (set : FlagSet) → is_plain_flag set ≡ true → Flag (word_of set) set
flag-read set h = by set.on refl
  where
    named : {t : Bool} → set.on ≡ t → set ≡ record { name = map to_ascii_lowercase set.name; on = t }
    named e = let name = sym (plain-is set h) in λ i. record { name = name i; on = e i }

    by : (t : Bool) → set.on ≡ t → Flag (word_of set) set
    by true e = constraints.on set.name (ap (λ t. (if t then 43 else 45) ∷ set.name) e) (flag-name set h) (named e)
    by false e = constraints.off set.name (ap (λ t. (if t then 43 else 45) ∷ set.name) e) (flag-name set h) (named e)

flags-read : (sets : List FlagSet) → list_all is_plain_flag sets ≡ true → Each Flag (map word_of sets) sets
flags-read [] h = entries.none
flags-read (set ∷ sets) h = let both = and_parts (is_plain_flag set) (list_all is_plain_flag sets) h in entries.more (flag-read set both.0) (flags-read sets both.1)

sign-apart : (on : Bool) → is_operator (if on then 43 else 45) ≡ false
sign-apart true = refl
sign-apart false = refl

minus : (on : Bool) → ◌≡◌ {A = ℕ} (if on then 43 else 45) 45 → on ≡ false
minus true h = absurd (omega arith)
minus false h = refl

lone : (set : FlagSet) (sets : List FlagSet) (name : List ℕ) → map word_of (set ∷ sets) ≡ (45 ∷ name) ∷ [] → (set.on ≡ false) × (set.name ≡ name) × (sets ≡ [])
lone set [] name e = let sign : ◌≡◌ {A = ℕ} (if set.on then 43 else 45) 45 = cc in (minus set.on sign, cc, refl)
lone set (next ∷ sets) name e = let none : map word_of (next ∷ sets) ≡ [] = cc in absurd (cc none)

not-flags : (set : FlagSet) (sets : List FlagSet) → are_flags (set ∷ sets) ≡ true → IsRangeWord (map word_of (set ∷ sets)) → ⊥
not-flags set sets h word = by sets h (off-name word)
  where
    off-name : IsRangeWord (map word_of (set ∷ sets)) → (is_range_word set ≡ true) × (sets ≡ [])
    off-name (inl e) = let is = lone set sets (codes "any") e in
        (ap (λ t. not t && (same_text set.name (codes "any") || same_text set.name (codes "none"))) is.0 ∙ ap (λ n. same_text n (codes "any") || same_text n (codes "none")) is.1, is.2)
    off-name (inr e) = let is = lone set sets (codes "none") e in
        (ap (λ t. not t && (same_text set.name (codes "any") || same_text set.name (codes "none"))) is.0 ∙ ap (λ n. same_text n (codes "any") || same_text n (codes "none")) is.1, is.2)

    by : (rest : List FlagSet) → are_flags (set ∷ rest) ≡ true → (is_range_word set ≡ true) × (rest ≡ []) → ⊥
    by [] k is = false≢true (ap not (sym is.0) ∙ k)
    by (next ∷ rest) k is = let none = is.1 in absurd (cc none)

word-asks : (text : List ℕ) (b : ℕ) (word : List ℕ) (w : What) → list_all is_plain_byte text ≡ true → words text ≡ (b ∷ word) ∷ [] → is_operator b ≡ false
    → (IsRangeWord ((b ∷ word) ∷ []) → ⊥) → Required ((b ∷ word) ∷ []) w → Requires text w
word-asks text b word w bytes e other never asked =
    constraints.other (λ r is. never (subst IsRangeWord e (only-word text b word [] e other bytes r is))) (subst (λ l. Required l w) (sym e) asked)

no-range-word : (word : List ℕ) → (IsRangeWord ((105 ∷ word) ∷ []) → ⊥) × (IsRangeWord ((115 ∷ word) ∷ []) → ⊥)
no-range-word word = (λ h. elim h [ inl e ↦ apart 105 45 word (codes "any") e refl | inr e ↦ apart 105 45 word (codes "none") e refl ], λ h. elim h [ inl e ↦ apart 115 45 word (codes "any") e refl | inr e ↦ apart 115 45 word (codes "none") e refl ])
  where
    apart : (a b : ℕ) (xs ys : List ℕ) → (a ∷ xs) ∷ [] ≡ (b ∷ ys) ∷ [] → nat_eq a b ≡ false → ⊥
    apart a b xs ys e h = let same : a ≡ b = cc in false≢true (sym h ∙ eq-eqb a b same)

pub what-asks : (w : What) → IsPlain w → Requires (what_text w) w
what-asks _ (plain.version v h) = constraints.range (Equal v) (equal-stands v h) refl
what-asks _ plain.installed = word-asks (codes " installed") 105 (codes "nstalled") what.Installed refl refl refl (no-range-word (codes "nstalled")).0 (constraints.alone refl)
what-asks _ plain.source = word-asks (codes " source") 115 (codes "ource") what.Source refl refl refl (no-range-word (codes "ource")).1 (constraints.alone refl)
what-asks _ (plain.flags [] h k) = absurd (false≢true h)
what-asks _ (plain.flags (set ∷ sets) h k) =
    let e = words-flags (set ∷ sets) k in
    constraints.other
    (λ r is. not-flags set sets h (subst IsRangeWord e
    (only-word (flat_map flag_text (set ∷ sets)) (if set.on then 43 else 45) set.name (map word_of sets) e (sign-apart set.on) (what-plain (what.Flags (set ∷ sets)) (plain.flags (set ∷ sets) h k)) r is)))
    (constraints.flags (set ∷ sets) (subst (λ l. Each Flag l (set ∷ sets)) (sym e) (flags-read (set ∷ sets) k)) refl)

-- it stands behind a space
pub what-head : (w : What) → IsPlain w → (rest : List ℕ) × (what_text w ≡ 32 ∷ rest)
what-head _ (plain.version v h) = (_, refl)
what-head _ plain.installed = (codes "installed", refl)
what-head _ plain.source = (codes "source", refl)
what-head _ (plain.flags [] h k) = absurd (false≢true h)
what-head _ (plain.flags (set ∷ sets) h k) = (_, flags-spaced (set ∷ sets))
