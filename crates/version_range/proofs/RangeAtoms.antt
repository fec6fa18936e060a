-- Shared: reading an atom: a word, or an operator with its operand.
use Rattle.std.proofs.Common.{◌≡◌, ℕ, Bool, true, false, ◌&&◌, List, [], ◌∷◌, ◌++◌, Option, Some, None, Result, Ok, Err, refl, sym, ap, ◌∙◌, subst, append_assoc, if◌then◌else◌}
use Rattle.std.specs.Prelude.{◌==◌, codes}
use Rattle.std.specs.List.{list_all}
use Rattle.std.proofs.lemmas.Bool.{false≢true, and_parts}
use Rattle.plan_types.specs.declared.range.Range.{Range}
use Rattle.plan_types.specs.declared.range.Range.TheVariants as ranges
use Rattle.plan_types.specs.declared.range.Spec.{Spec}
use Rattle.plan_types.specs.declared.refusal.Cause.{Cause}
use Rattle.plan_types.specs.declared.refusal.Cause.TheVariants.{BadRange}
use Rattle.version_range.specs.declared.operator.Operator.{Operator}
use Rattle.version_range.specs.declared.operator.Operator.TheVariants.{Equal, AtLeast, Above, AtMost, Below, Major}
use Rattle.version_range.specs.Version.{version_text}
use Rattle.version_range.specs.Grammar.{operator_text, of_version, has_sets, Compared, compared, Members, Atom}
use Rattle.plan_types.specs.Bytes.{begins_with, is_blank, Blanks}
use Rattle.text_grammar.specs.Parts.{Led, led}
use Rattle.version_range.specs.Grammar.{any as atom_any, none as atom_none, version as atom_version, prefix as atom_prefix, set as atom_set}
use Rattle.version_range.specs.Read.{byte_due, cause_at, either_at, operator_at, word_at, plain_at, operand_at, set_at}
use Rattle.text_grammar.specs.Reading.{◌>>=◌, skip_blanks, byte_after}
use Rattle.text_grammar.proofs.FrontReaders.{Reader, Apart, Read, Fault}
use Rattle.text_grammar.proofs.LeadingBlanks.{Never, NotDigits, other_byte, no_digits, blanks_none}
use Rattle.text_grammar.proofs.ReaderSteps.{Good, After, after, Choice, here, there, Done, done, good_led, choose, due, good_due, good_choose, good_done, good_as}
use Rattle.text_grammar.proofs.Closings.{Closed, closed}
use Rattle.version_range.proofs.VersionReaders.{version_zero, EqualText, whole, front, equal_read, equal_reads, equal_fault}
use Rattle.version_range.proofs.Sets.{compared_good, never_version, never_compared, set_good}
use Rattle.version_range.proofs.RangeKind.{decimals, range_kind}
use Rattle.version_range.specs.Read.{missing}

-- the reader of a factor without parentheses
abbrev pub atom_at : Spec → Reader Range
atom_at spec text = elim (byte_after 45 text) [ Some rest ↦ word_at spec rest | None ↦ operator_at spec text >>= λ op. operand_at op.0 spec (skip_blanks op.1) ]

-- ---- bytes that begin no text

never_led : {A : Type 0} (test : ℕ → Bool) (L : List ℕ → A → Type 0) → ((b : ℕ) → is_blank b ≡ true → test b ≡ false) → Never test L → Never test (Led L)
never_led test L blank never text x (led [] {text = t} all l) = never t x l
never_led test L blank never text x (led (b ∷ bs) {text = t} all l) = (b, bs ++ t, refl, blank b (and_parts (is_blank b) (list_all is_blank bs) all).0)

never_after : {A : Type 0} (test : ℕ → Bool) (byte : ℕ) (K : List ℕ → A → Type 0) → test byte ≡ false → Never test (After byte K)
never_after test byte K none text x (after {text = t} l) = (byte, t, refl, none)

never_choice : {A : Type 0} (test : ℕ → Bool) (byte : ℕ) (K M : List ℕ → A → Type 0) → test byte ≡ false → Never test M → Never test (Choice byte K M)
never_choice test byte K M none never text x (here {text = t} l) = (byte, t, refl, none)
never_choice test byte K M none never text x (there l) = never text x l

-- ---- operands

-- an operand that is no set
abbrev Plain : Operator → List ℕ → Range → Type 0
Plain Equal = EqualText
Plain op = Compared op

plain_good : (spec : Spec) (op : Operator) → Good (range_kind spec) (Plain op) (plain_at op spec)
plain_good spec Equal = record { read = equal_read spec; reads = equal_reads spec; fault = equal_fault spec }
plain_good spec op = compared_good spec op

never_equal : (test : ℕ → Bool) → NotDigits decimals test → Never test EqualText
never_equal test none text r (whole v h) = never_version test none (version_text v.parts) v (refl, h)
never_equal test none text r (front v h) = let f = never_version test none (version_text v.parts) v (refl, h) in (f.0, f.1 ++ codes ".*", ap (λ t. t ++ codes ".*") f.2, f.3)

never_plain : (op : Operator) (test : ℕ → Bool) → NotDigits decimals test → Never test (Plain op)
never_plain Equal = never_equal
never_plain op = never_compared op

plain_compared : (op : Operator) (text : List ℕ) (r : Range) → Compared op text r → Plain op text r
plain_compared Equal text r (compared v h) = whole v h
plain_compared op text r c = c

zero_plain : (op : Operator) → Plain op (48 ∷ []) (of_version op (record { parts = 0 ∷ [] }))
zero_plain op = plain_compared op (48 ∷ []) (of_version op (record { parts = 0 ∷ [] })) (subst (λ t. Compared op t (of_version op (record { parts = 0 ∷ [] }))) (sym version_zero.0) (compared (record { parts = 0 ∷ [] }) version_zero.1))

data Operand (spec : Spec) (op : Operator) : List ℕ → Range → Type 0 where
  plain : {text : List ℕ} {r : Range} → Plain op text r → Operand spec op text r
  set : {text : List ℕ} {r : Range} → has_sets op spec ≡ true → Closed 125 (Members op) text r → Operand spec op (123 ∷ text) r

operand_set : (op : Operator) (spec : Spec) → has_sets op spec ≡ true → (text : List ℕ) → operand_at op spec text ≡ choose 123 (set_at op spec) (plain_at op spec) text
unfolding operand_at
operand_set op spec h text = ap (λ t. if t && begins_with 123 text then byte_due spec 123 text >>= set_at op spec else plain_at op spec text) h ∙ at text
  where
    by : (b : ℕ) (bs : List ℕ) (t : Bool)
        → ◌≡◌ {A = Result (Range × List ℕ) Cause} (if t then (◌>>=◌ {A = List ℕ} (elim (if t then Some bs else None) [ None ↦ Err (cause_at spec BadRange (b ∷ bs)) | Some rest ↦ Ok rest ]) (set_at op spec)) else plain_at op spec (b ∷ bs))
        (elim (if t then Some bs else None) [ Some rest ↦ set_at op spec rest | None ↦ plain_at op spec (b ∷ bs) ])
    by b bs true = refl
    by b bs false = refl

    at : (text : List ℕ) → (if true && begins_with 123 text then byte_due spec 123 text >>= set_at op spec else plain_at op spec text) ≡ choose 123 (set_at op spec) (plain_at op spec) text
    at [] = refl
    at (b ∷ bs) = by b bs (b == 123)

operand_plain : (op : Operator) (spec : Spec) → has_sets op spec ≡ false → (text : List ℕ) → operand_at op spec text ≡ plain_at op spec text
unfolding operand_at
operand_plain op spec h text = ap (λ t. if t && begins_with 123 text then byte_due spec 123 text >>= set_at op spec else plain_at op spec text) h

operand_good : (spec : Spec) (op : Operator) → Good (range_kind spec) (Operand spec op) (operand_at op spec)
operand_good spec op = by (has_sets op spec) refl
  where
    by : (t : Bool) → has_sets op spec ≡ t → Good (range_kind spec) (Operand spec op) (operand_at op spec)
    by false h = good_as (range_kind spec) (Plain op) (plain_at op spec) (plain_good spec op) (Operand spec op) (λ text r l. plain l) from (operand_at op spec) (operand_plain op spec h)
      where
        from : (text : List ℕ) (r : Range) → Operand spec op text r → Plain op text r
        from text r (plain l) = l
        from text r (set has l) = absurd (false≢true (sym h ∙ has))
    by true h = good_as (range_kind spec) (Choice 123 (Closed 125 (Members op)) (Plain op)) (choose 123 (set_at op spec) (plain_at op spec))
        (good_choose (range_kind spec) 123 refl (Closed 125 (Members op)) (set_at op spec) (set_good spec op) (Plain op) (plain_at op spec) (plain_good spec op) (never_plain op (λ c. c == 123) (no_digits decimals 123 refl)))
        (Operand spec op) to from (operand_at op spec) (operand_set op spec h)
      where
        to : (text : List ℕ) (r : Range) → Choice 123 (Closed 125 (Members op)) (Plain op) text r → Operand spec op text r
        to text r (here l) = set h l
        to text r (there l) = plain l

        from : (text : List ℕ) (r : Range) → Operand spec op text r → Choice 123 (Closed 125 (Members op)) (Plain op) text r
        from text r (plain l) = there l
        from text r (set has l) = here l

never_operand : (spec : Spec) (op : Operator) (test : ℕ → Bool) → NotDigits decimals test → test 123 ≡ false → Never test (Operand spec op)
never_operand spec op test none brace text r (plain l) = never_plain op test none text r l
never_operand spec op test none brace text r (set {text = t} has l) = (123, t, refl, brace)

-- ---- after an operator

abbrev Opened : Spec → Operator → List ℕ → Range → Type 0
Opened spec op = Led (Operand spec op)

abbrev opened_at : Spec → Operator → Reader Range
opened_at spec op text = operand_at op spec (skip_blanks text)

opened_good : (spec : Spec) (op : Operator) → Good (range_kind spec) (Opened spec op) (opened_at spec op)
opened_good spec op = good_led (range_kind spec) (Operand spec op) (operand_at op spec) (operand_good spec op) (never_operand spec op is_blank (blanks_none decimals) refl)

-- no operand begins with `=`
never_opened : (spec : Spec) (op : Operator) → Never (λ c. c == 61) (Opened spec op)
never_opened spec op = never_led (λ c. c == 61) (Operand spec op) (other_byte is_blank 61 refl) (never_operand spec op (λ c. c == 61) (no_digits decimals 61 refl) refl)

opened_zero : (spec : Spec) (op : Operator) → Opened spec op (48 ∷ []) (of_version op (record { parts = 0 ∷ [] }))
opened_zero spec op = led [] refl (plain (zero_plain op))

-- ---- operators

abbrev Longer : Spec → Operator → Operator → List ℕ → Range → Type 0
Longer spec long short = Choice 61 (Opened spec long) (Opened spec short)

abbrev Compares : Spec → List ℕ → Range → Type 0
Compares spec = Choice 62 (Longer spec AtLeast Above) (Choice 60 (Longer spec AtMost Below) (Choice 94 (After 62 (After 61 (Opened spec Major))) (After 61 (After 61 (Opened spec Equal)))))

abbrev longer_at : Spec → Operator → Operator → Reader Range
longer_at spec long short = choose 61 (opened_at spec long) (opened_at spec short)

abbrev compares_at : Spec → Reader Range
compares_at spec = choose 62 (longer_at spec AtLeast Above) (choose 60 (longer_at spec AtMost Below) (choose 94 (due (missing spec) 62 (due (missing spec) 61 (opened_at spec Major))) (due (missing spec) 61 (due (missing spec) 61 (opened_at spec Equal)))))

never_compares : (spec : Spec) (test : ℕ → Bool) → test 62 ≡ false → test 60 ≡ false → test 94 ≡ false → test 61 ≡ false → Never test (Compares spec)
never_compares spec test a b c d = never_choice test 62 _ _ a (never_choice test 60 _ _ b (never_choice test 94 _ _ c (never_after test 61 _ d)))

longer_good : (spec : Spec) (long short : Operator) → Good (range_kind spec) (Longer spec long short) (longer_at spec long short)
longer_good spec long short = good_choose (range_kind spec) 61 refl (Opened spec long) (opened_at spec long) (opened_good spec long) (Opened spec short) (opened_at spec short) (opened_good spec short) (never_opened spec short)

module _ (spec : Spec) where
  equal_sign : Good (range_kind spec) (After 61 (Opened spec Equal)) (due (missing spec) 61 (opened_at spec Equal))
  equal_sign = good_due (range_kind spec) 61 refl (Opened spec Equal) (opened_at spec Equal) (opened_good spec Equal) (48 ∷ []) _ (opened_zero spec Equal)

  equal_signs : Good (range_kind spec) (After 61 (After 61 (Opened spec Equal))) (due (missing spec) 61 (due (missing spec) 61 (opened_at spec Equal)))
  equal_signs = good_due (range_kind spec) 61 refl (After 61 (Opened spec Equal)) (due (missing spec) 61 (opened_at spec Equal)) equal_sign (61 ∷ 48 ∷ []) _ (after (opened_zero spec Equal))

  major_sign : Good (range_kind spec) (After 61 (Opened spec Major)) (due (missing spec) 61 (opened_at spec Major))
  major_sign = good_due (range_kind spec) 61 refl (Opened spec Major) (opened_at spec Major) (opened_good spec Major) (48 ∷ []) _ (opened_zero spec Major)

  major_signs : Good (range_kind spec) (After 62 (After 61 (Opened spec Major))) (due (missing spec) 62 (due (missing spec) 61 (opened_at spec Major)))
  major_signs = good_due (range_kind spec) 62 refl (After 61 (Opened spec Major)) (due (missing spec) 61 (opened_at spec Major)) major_sign (61 ∷ 48 ∷ []) _ (after (opened_zero spec Major))

  compares_good : Good (range_kind spec) (Compares spec) (compares_at spec)
  compares_good =
      good_choose (range_kind spec) 62 refl _ _ (longer_good spec AtLeast Above) _ _
      (good_choose (range_kind spec) 60 refl _ _ (longer_good spec AtMost Below) _ _
      (good_choose (range_kind spec) 94 refl _ _ major_signs _ _ equal_signs (never_after (λ c. c == 94) 61 (After 61 (Opened spec Equal)) refl))
      (never_choice (λ c. c == 60) 94 _ _ refl (never_after (λ c. c == 60) 61 (After 61 (Opened spec Equal)) refl)))
      (never_choice (λ c. c == 62) 60 _ _ refl (never_choice (λ c. c == 62) 94 _ _ refl (never_after (λ c. c == 62) 61 (After 61 (Opened spec Equal)) refl)))

-- ---- words

abbrev AnyText : List ℕ → Range → Type 0
AnyText = After 110 (After 121 (Done ranges.Any))

abbrev NoneText : List ℕ → Range → Type 0
NoneText = After 110 (After 111 (After 110 (After 101 (Done ranges.Nothing))))

abbrev pure : Range → Reader Range
pure r text = Ok (r, text)

module _ (spec : Spec) where
  y_good : Good (range_kind spec) (After 121 (Done ranges.Any)) (due (missing spec) 121 (pure ranges.Any))
  y_good = good_due (range_kind spec) 121 refl (Done ranges.Any) (pure ranges.Any) (good_done (range_kind spec) ranges.Any) [] ranges.Any done

  any_good : Good (range_kind spec) AnyText (due (missing spec) 110 (due (missing spec) 121 (pure ranges.Any)))
  any_good = good_due (range_kind spec) 110 refl (After 121 (Done ranges.Any)) (due (missing spec) 121 (pure ranges.Any)) y_good (121 ∷ []) ranges.Any (after done)

  e_good : Good (range_kind spec) (After 101 (Done ranges.Nothing)) (due (missing spec) 101 (pure ranges.Nothing))
  e_good = good_due (range_kind spec) 101 refl (Done ranges.Nothing) (pure ranges.Nothing) (good_done (range_kind spec) ranges.Nothing) [] ranges.Nothing done

  ne_good : Good (range_kind spec) (After 110 (After 101 (Done ranges.Nothing))) (due (missing spec) 110 (due (missing spec) 101 (pure ranges.Nothing)))
  ne_good = good_due (range_kind spec) 110 refl _ _ e_good (101 ∷ []) ranges.Nothing (after done)

  one_good : Good (range_kind spec) (After 111 (After 110 (After 101 (Done ranges.Nothing)))) (due (missing spec) 111 (due (missing spec) 110 (due (missing spec) 101 (pure ranges.Nothing))))
  one_good = good_due (range_kind spec) 111 refl _ _ ne_good (110 ∷ 101 ∷ []) ranges.Nothing (after (after done))

  none_good : Good (range_kind spec) NoneText (due (missing spec) 110 (due (missing spec) 111 (due (missing spec) 110 (due (missing spec) 101 (pure ranges.Nothing)))))
  none_good = good_due (range_kind spec) 110 refl _ _ one_good (111 ∷ 110 ∷ 101 ∷ []) ranges.Nothing (after (after (after done)))

  abbrev words_at : Reader Range
  words_at = choose 97 (due (missing spec) 110 (due (missing spec) 121 (pure ranges.Any))) (due (missing spec) 110 (due (missing spec) 111 (due (missing spec) 110 (due (missing spec) 101 (pure ranges.Nothing)))))

  word_same : (text : List ℕ) → word_at spec text ≡ words_at text
  unfolding word_at
  word_same text = refl

  word_good : Good (range_kind spec) (Choice 97 AnyText NoneText) (word_at spec)
  word_good = good_as (range_kind spec) (Choice 97 AnyText NoneText) words_at (good_choose (range_kind spec) 97 refl _ _ any_good _ _ none_good (never_after (λ c. c == 97) 110 _ refl)) (Choice 97 AnyText NoneText) (λ t x l. l) (λ t x l. l) (word_at spec) word_same

-- ---- both

abbrev Tree : Spec → List ℕ → Range → Type 0
Tree spec = Choice 45 (Choice 97 AnyText NoneText) (Compares spec)

module _ (spec : Spec) where
  abbrev operand : Operator × List ℕ → Result (Range × List ℕ) Cause
  operand op = operand_at op.0 spec (skip_blanks op.1)

  longer_same : (long short : Operator) (text : List ℕ) → operand (either_at long short text) ≡ longer_at spec long short text
  longer_same long short text = by (byte_after 61 text)
    where
      by : (o : Option (List ℕ)) → operand (elim o [ None ↦ (short, text) | Some rest ↦ (long, rest) ]) ≡ elim o [ Some rest ↦ opened_at spec long rest | None ↦ opened_at spec short text ]
      by (Some rest) = refl
      by None = refl

  signs_same : (op : Operator) (a b : ℕ) (text : List ℕ) → (◌>>=◌ {B = Operator × List ℕ} (byte_due spec a text) (λ more. ◌>>=◌ {B = Operator × List ℕ} (byte_due spec b more) (λ behind. Ok (op, behind)))) >>= operand ≡ due (missing spec) a (due (missing spec) b (opened_at spec op)) text
  signs_same op a b text = first (byte_due spec a text)
    where
      second : (r : Result (List ℕ) Cause) → (◌>>=◌ {B = Operator × List ℕ} r (λ behind. Ok (op, behind))) >>= operand ≡ r >>= opened_at spec op
      second (Ok rest) = refl
      second (Err cause) = refl

      first : (r : Result (List ℕ) Cause) → (◌>>=◌ {B = Operator × List ℕ} r (λ more. ◌>>=◌ {B = Operator × List ℕ} (byte_due spec b more) (λ behind. Ok (op, behind)))) >>= operand ≡ r >>= due (missing spec) b (opened_at spec op)
      first (Ok more) = second (byte_due spec b more)
      first (Err cause) = refl

  -- the operator, by its first byte
  abbrev operator_by : List ℕ → Option (List ℕ) → Option (List ℕ) → Option (List ℕ) → Result (Operator × List ℕ) Cause
  operator_by text o p q = elim o [
    | Some rest ↦ Ok (either_at AtLeast Above rest)
    | None ↦ elim p [
      | Some rest ↦ Ok (either_at AtMost Below rest)
      | None ↦ elim q [
        | Some rest ↦ byte_due spec 62 rest >>= λ more. byte_due spec 61 more >>= λ behind. Ok (Major, behind)
        | None ↦ byte_due spec 61 text >>= λ more. byte_due spec 61 more >>= λ behind. Ok (Equal, behind)
      ]
    ]
  ]

  abbrev compares_by : List ℕ → Option (List ℕ) → Option (List ℕ) → Option (List ℕ) → Result (Range × List ℕ) Cause
  compares_by text o p q = elim o [
    | Some rest ↦ longer_at spec AtLeast Above rest
    | None ↦ elim p [
      | Some rest ↦ longer_at spec AtMost Below rest
      | None ↦ elim q [
        | Some rest ↦ due (missing spec) 62 (due (missing spec) 61 (opened_at spec Major)) rest
        | None ↦ due (missing spec) 61 (due (missing spec) 61 (opened_at spec Equal)) text
      ]
    ]
  ]

  by_operator : (text : List ℕ) (o p q : Option (List ℕ)) → operator_by text o p q >>= operand ≡ compares_by text o p q
  by_operator text (Some rest) p q = longer_same AtLeast Above rest
  by_operator text None (Some rest) q = longer_same AtMost Below rest
  by_operator text None None (Some rest) = signs_same Major 62 61 rest
  by_operator text None None None = signs_same Equal 61 61 text

  operators_same : (text : List ℕ) → operator_at spec text >>= operand ≡ compares_at spec text
  unfolding operator_at
  operators_same text = by_operator text (byte_after 62 text) (byte_after 60 text) (byte_after 94 text)

atom_same : (spec : Spec) (text : List ℕ) → atom_at spec text ≡ choose 45 (word_at spec) (compares_at spec) text
atom_same spec text = by (byte_after 45 text)
  where
    by : (o : Option (List ℕ)) → ◌≡◌ {A = Result (Range × List ℕ) Cause} (elim o [ Some rest ↦ word_at spec rest | None ↦ operator_at spec text >>= operand spec ]) (elim o [ Some rest ↦ word_at spec rest | None ↦ compares_at spec text ])
    by (Some rest) = refl
    by None = operators_same spec text

set_text : (pre blanks text end : List ℕ) → ((((pre ++ blanks) ++ 123 ∷ []) ++ text) ++ end) ++ 125 ∷ [] ≡ pre ++ (blanks ++ 123 ∷ (text ++ (end ++ 125 ∷ [])))
set_text pre blanks text end = simp append_assoc

prefix_text : (pre blanks text : List ℕ) → ((pre ++ blanks) ++ text) ++ codes ".*" ≡ pre ++ (blanks ++ (text ++ codes ".*"))
prefix_text pre blanks text = simp append_assoc

plain_atom : (spec : Spec) (op : Operator) (blanks text : List ℕ) (r : Range) → Blanks blanks → Plain op text r → Atom spec (operator_text op ++ (blanks ++ text)) r
plain_atom spec Equal blanks text r all (whole v h) = atom_version Equal (led blanks all (compared v h))
plain_atom spec Equal blanks text r all (front v h) = subst (λ t. Atom spec t (ranges.Prefix v)) (prefix_text (operator_text Equal) blanks (version_text v.parts)) (atom_prefix blanks v all h)
plain_atom spec AtLeast blanks text r all l = atom_version AtLeast (led blanks all l)
plain_atom spec Above blanks text r all l = atom_version Above (led blanks all l)
plain_atom spec AtMost blanks text r all l = atom_version AtMost (led blanks all l)
plain_atom spec Below blanks text r all l = atom_version Below (led blanks all l)
plain_atom spec Major blanks text r all l = atom_version Major (led blanks all l)

opened_atom : (spec : Spec) (op : Operator) (text : List ℕ) (r : Range) → Opened spec op text r → Atom spec (operator_text op ++ text) r
opened_atom spec op text r (led blanks {text = t} all (plain l)) = plain_atom spec op blanks t r all l
opened_atom spec op text r (led blanks all (set has (closed t end l all'))) = subst (λ u. Atom spec u r) (set_text (operator_text op) blanks t end) (atom_set op blanks t end has all l all')

atom_of : (spec : Spec) (text : List ℕ) (r : Range) → Tree spec text r → Atom spec text r
atom_of spec text r (here (here (after (after done)))) = atom_any
atom_of spec text r (here (there (after (after (after (after done)))))) = atom_none
atom_of spec text r (there (here (here {text = t} l))) = opened_atom spec AtLeast t r l
atom_of spec text r (there (here (there {text = t} l))) = opened_atom spec Above t r l
atom_of spec text r (there (there (here (here {text = t} l)))) = opened_atom spec AtMost t r l
atom_of spec text r (there (there (here (there {text = t} l)))) = opened_atom spec Below t r l
atom_of spec text r (there (there (there (here (after (after {text = t} l)))))) = opened_atom spec Major t r l
atom_of spec text r (there (there (there (there (after (after {text = t} l)))))) = opened_atom spec Equal t r l

tree_opened : (spec : Spec) (op : Operator) (text : List ℕ) (r : Range) → Opened spec op text r → Tree spec (operator_text op ++ text) r
tree_opened spec Equal text r l = there (there (there (there (after (after l)))))
tree_opened spec AtLeast text r l = there (here (here l))
tree_opened spec Above text r l = there (here (there l))
tree_opened spec AtMost text r l = there (there (here (here l)))
tree_opened spec Below text r l = there (there (here (there l)))
tree_opened spec Major text r l = there (there (there (here (after (after l)))))

opened_compared : (spec : Spec) (op : Operator) (text : List ℕ) (r : Range) → Led (Compared op) text r → Opened spec op text r
opened_compared spec op text r (led blanks {text = t} all l) = led blanks all (plain (plain_compared op t r l))

tree_of : (spec : Spec) (text : List ℕ) (r : Range) → Atom spec text r → Tree spec text r
tree_of spec text r atom_any = here (here (after (after done)))
tree_of spec text r atom_none = here (there (after (after (after (after done)))))
tree_of spec text r (atom_version op {text = t} l) = tree_opened spec op t r (opened_compared spec op t r l)
tree_of spec text r (atom_prefix blanks v all h) = subst (λ t. Tree spec t (ranges.Prefix v)) (sym (prefix_text (operator_text Equal) blanks (version_text v.parts))) (tree_opened spec Equal (blanks ++ (version_text v.parts ++ codes ".*")) (ranges.Prefix v) (led blanks all (plain (front v h))))
tree_of spec text r (atom_set op blanks t end has all l all') = subst (λ u. Tree spec u r) (sym (set_text (operator_text op) blanks t end)) (tree_opened spec op (blanks ++ 123 ∷ (t ++ (end ++ 125 ∷ []))) r (led blanks all (set has (closed t end l all'))))

atom_good : (spec : Spec) → Good (range_kind spec) (Atom spec) (atom_at spec)
atom_good spec = good_as (range_kind spec) (Tree spec) (choose 45 (word_at spec) (compares_at spec)) (good_choose (range_kind spec) 45 refl _ _ (word_good spec) (Compares spec) (compares_at spec) (compares_good spec) (never_compares spec (λ c. c == 45) refl refl refl refl)) (Atom spec) (atom_of spec) (tree_of spec) (atom_at spec) (atom_same spec)

pub atom_read : (spec : Spec) (text : List ℕ) (r : Range) (rest : List ℕ) → atom_at spec text ≡ Ok (r, rest) → Read (Atom spec) (Apart decimals) text r rest
atom_read spec = (atom_good spec).read

pub atom_reads : (spec : Spec) (text : List ℕ) (r : Range) (rest : List ℕ) → Atom spec text r → Apart decimals text rest → atom_at spec (text ++ rest) ≡ Ok (r, rest)
atom_reads spec = (atom_good spec).reads

pub atom_fault : (spec : Spec) (text : List ℕ) (cause : Cause) → atom_at spec text ≡ Err cause → Fault (range_kind spec) (Atom spec) (Atom spec) (atom_at spec) (atom_at spec) text cause
atom_fault spec = (atom_good spec).fault

pub never_atom : (spec : Spec) (test : ℕ → Bool) → test 45 ≡ false → test 60 ≡ false → test 61 ≡ false → test 62 ≡ false → test 94 ≡ false → Never test (Atom spec)
never_atom spec test minus below equal above major text r a = never_choice test 45 _ _ minus (never_compares spec test above below major equal) text r (tree_of spec text r a)
