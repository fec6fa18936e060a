-- Shared: in 2.4 no text of a range has a `{`.
use Rattle.std.proofs.Common.{◌≡◌, ℕ, zero, suc, Bool, true, false, List, [], ◌∷◌, ◌++◌, codes, refl, sym, ap, ◌∙◌}
use Rattle.std.specs.Prelude.{◌==◌, not}
use Rattle.std.specs.Fmt.{decimal}
use Rattle.std.specs.Char.{is_ascii_digit}
use Rattle.std.specs.Str.{all_ascii_digits}
use Rattle.std.specs.List.{list_all}
use Rattle.std.proofs.lemmas.List.Folds.{list_all-append}
use Rattle.std.proofs.lemmas.Bool.{false≢true, and_parts, and_from, eqb-true}
use Rattle.plan_types.specs.Bytes.{is_blank, Blanks}
use Rattle.plan_types.specs.declared.range.Range.{Range}
use Rattle.plan_types.specs.declared.range.Range.TheVariants.{Both, Either}
use Rattle.plan_types.specs.declared.range.Spec.{Spec}
use Rattle.text_grammar.specs.Parts.{Led, led, Behind, behind, Chain, one, more}
use Rattle.version_range.specs.declared.operator.Operator.{Operator}
use Rattle.version_range.specs.declared.operator.Operator.TheVariants.{Equal, AtLeast, Above, AtMost, Below, Major}
use Rattle.version_range.specs.Version.{IsNumber, IsVersion, is_version, version_text}
use Rattle.plan_types.specs.Format.{is_old}
use Rattle.version_range.specs.Grammar.{operator_text, has_sets, Compared, compared, Atom, any, none, version, prefix, set, Factor, atom, enclosed, Term, Terms, Inside, Stands, empty, range}
use Rattle.version_range.proofs.VersionNumbers.{decimal_digits, version_from}

abbrev pub is_plain : ℕ → Bool
is_plain b = not (b == 123)

abbrev pub Plain : List ℕ → Type 0
Plain text = list_all is_plain text ≡ true

pub plain_append : (xs ys : List ℕ) → Plain xs → Plain ys → Plain (xs ++ ys)
plain_append xs ys p q = list_all-append is_plain xs ys ∙ and_from (list_all is_plain xs) (list_all is_plain ys) p q

pub plain_parts : (xs ys : List ℕ) → Plain (xs ++ ys) → Plain xs × Plain ys
plain_parts xs ys h = let p = and_parts (list_all is_plain xs) (list_all is_plain ys) (sym (list_all-append is_plain xs ys) ∙ h) in (p.0, p.1)

-- a byte that passes a test that `{` fails
plain_by : (test : ℕ → Bool) → test 123 ≡ false → (b : ℕ) → test b ≡ true → is_plain b ≡ true
plain_by test other b h = by (b == 123) refl
  where
    by : (t : Bool) → (b == 123) ≡ t → not t ≡ true
    by false q = refl
    by true q = absurd (false≢true (sym other ∙ ap test (sym (eqb-true b 123 q)) ∙ h))

all_plain : (test : ℕ → Bool) → test 123 ≡ false → (bs : List ℕ) → list_all test bs ≡ true → Plain bs
all_plain test other [] h = refl
all_plain test other (b ∷ bs) h = let p = and_parts (test b) (list_all test bs) h in and_from (is_plain b) (list_all is_plain bs) (plain_by test other b p.0) (all_plain test other bs p.1)

pub blanks_plain : (blanks : List ℕ) → Blanks blanks → Plain blanks
blanks_plain blanks h = all_plain is_blank refl blanks h

digits_plain : (bs : List ℕ) → all_ascii_digits bs ≡ true → Plain bs
digits_plain [] h = refl
digits_plain (b ∷ bs) h = let p = and_parts (is_ascii_digit b) (all_ascii_digits bs) h in and_from (is_plain b) (list_all is_plain bs) (plain_by is_ascii_digit refl b p.0) (digits_plain bs p.1)

number_plain : (n : ℕ) → IsNumber n → Plain (decimal n)
number_plain n h = digits_plain (decimal n) (decimal_digits n h)

numbers_plain : (ns : List ℕ) → IsVersion ns → Plain (version_text ns)
numbers_plain [] h = refl
numbers_plain (n ∷ []) h = number_plain n h
numbers_plain (n ∷ m ∷ ns) h = plain_append (decimal n) (46 ∷ version_text (m ∷ ns)) (number_plain n h.0) (numbers_plain (m ∷ ns) h.1)

version_plain : (ns : List ℕ) → is_version ns ≡ true → Plain (version_text ns)
version_plain ns h = numbers_plain ns (version_from ns h)

abbrev AllPlain : (List ℕ → Range → Type 0) → Type 0
AllPlain L = (text : List ℕ) (r : Range) → L text r → Plain text

operator_plain : (op : Operator) → Plain (operator_text op)
operator_plain Equal = refl
operator_plain AtLeast = refl
operator_plain Above = refl
operator_plain AtMost = refl
operator_plain Below = refl
operator_plain Major = refl

no_sets : (op : Operator) (spec : Spec) → is_old spec ≡ true → has_sets op spec ≡ true → ⊥
no_sets op spec old sets = by (is_old spec) old (from op sets)
  where
    from : (op : Operator) → has_sets op spec ≡ true → not (is_old spec) ≡ true
    from Equal h = h
    from AtLeast h = absurd (false≢true h)
    from Above h = absurd (false≢true h)
    from AtMost h = absurd (false≢true h)
    from Below h = absurd (false≢true h)
    from Major h = h

    by : (old : Bool) → old ≡ true → not old ≡ true → ⊥
    by true is new = false≢true new
    by false is new = false≢true is

module _ (L : List ℕ → Range → Type 0) (plain : AllPlain L) where
  led_plain : AllPlain (Led L)
  led_plain text r (led blanks {text = part} are is) = plain_append blanks part (blanks_plain blanks are) (plain part r is)

  behind_plain : (mark : List ℕ) → Plain mark → AllPlain (Behind mark L)
  behind_plain mark m text r (behind blanks {text = part} are is) = plain_append (blanks ++ mark) part (plain_append blanks mark (blanks_plain blanks are) m) (plain part r is)

chain_plain : (join : Range → Range → Range) (First Next : List ℕ → Range → Type 0) → AllPlain First → AllPlain Next → AllPlain (Chain join First Next)
chain_plain join First Next f n text r (one h) = f text r h
chain_plain join First Next f n text r (more {text = front} {next = next} {left = left} {right = right} c h) = plain_append front next (chain_plain join First Next f n front left c) (n next right h)

compared_plain : (op : Operator) → AllPlain (Compared op)
compared_plain op text r (compared v h) = version_plain v.parts h

module _ (spec : Spec) (old : is_old spec ≡ true) where
  atom_plain : AllPlain (Atom spec)
  atom_plain text r any = refl
  atom_plain text r none = refl
  atom_plain text r (version op {text = part} is) = plain_append (operator_text op) part (operator_plain op) (led_plain (Compared op) (compared_plain op) part r is)
  atom_plain text r (prefix blanks v are h) = plain_append ((codes "==" ++ blanks) ++ version_text v.parts) (codes ".*") (plain_append (codes "==" ++ blanks) (version_text v.parts) (plain_append (codes "==") blanks refl (blanks_plain blanks are)) (version_plain v.parts h)) refl
  atom_plain text r (set op blanks part after sets are is ends) = absurd (no_sets op spec old sets)

  module _ (L : List ℕ → Range → Type 0) (plain : AllPlain L) where
    factor_plain : AllPlain (Factor spec L)
    factor_plain text r (atom a) = atom_plain text r a
    factor_plain text r (enclosed part after is are) = plain_append ((codes "(" ++ part) ++ after) (codes ")") (plain_append (codes "(" ++ part) after (plain_append (codes "(") part refl (plain part r is)) (blanks_plain after are)) refl

    term_plain : AllPlain (Term spec L)
    term_plain = let l = led_plain (Factor spec L) factor_plain in chain_plain Both (Led (Factor spec L)) (Behind (codes "&&") (Led (Factor spec L))) l (behind_plain (Led (Factor spec L)) l (codes "&&") refl)

    terms_plain : AllPlain (Terms spec L)
    terms_plain = chain_plain Either (Term spec L) (Behind (codes "||") (Term spec L)) term_plain (behind_plain (Term spec L) term_plain (codes "||") refl)

  inside_plain : (n : ℕ) → AllPlain (Inside spec n)
  unfolding Inside
  inside_plain zero text r h = absurd h
  inside_plain (suc n) text r h = terms_plain (Inside spec n) (inside_plain n) text r h

  pub stands_plain : (n : ℕ) → AllPlain (Stands spec n)
  stands_plain n text r (empty blanks) = blanks_plain text blanks
  stands_plain n text r (range front after is are) = plain_append front after (terms_plain (Inside spec n) (inside_plain n) front r is) (blanks_plain after are)
