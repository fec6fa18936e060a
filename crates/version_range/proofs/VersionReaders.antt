-- Shared: the readers of numbers, versions and the operand of `==` are correct for their languages.
use Rattle.std.proofs.Common.{◌≡◌, ◌≢◌, ℕ, ◌<◌, ◌≤◌, Bool, true, false, not, ◌&&◌, List, [], ◌∷◌, ◌++◌, length, take, drop, get_or, Option, Some, None, ◌⊎◌, inl, inr, Result, Ok, Err, refl, sym, ap, ◌∙◌, subst, append_assoc, append-nil, length-append, length-take, length-drop, arith}
use Rattle.std.specs.Prelude.{◌==◌, nat_le, if◌then◌else◌, codes}
use Rattle.std.specs.Fmt.{decimal}
use Rattle.std.specs.Str.{all_ascii_digits}
use Rattle.std.specs.Char.{is_ascii_digit}
use Rattle.std.specs.List.{AllByRecursion}
use Rattle.std.proofs.lemmas.List.{take-append-drop}
use Rattle.std.proofs.lemmas.Bool.{false≢true, and_parts, and_from, and_right, leb-true, leb-false, le-leb, lt-leb, eqb-true, eqb-false, eq-eqb, ne_eqb, or_parts, or_from}
use Rattle.std.proofs.lemmas.Fmt.{decimal_injective, decimal_digit}
use Rattle.std.proofs.Math.Seq.{take-append_seam, drop-append_seam}
use Rattle.plan_types.specs.declared.range.Range.{Range}
use Rattle.plan_types.specs.declared.range.Range.TheVariants as ranges
use Rattle.plan_types.specs.declared.range.Spec.{Spec}
use Rattle.plan_types.specs.declared.version.Version.{Version}
use Rattle.plan_types.specs.declared.refusal.Cause.{Cause}
use Rattle.plan_types.specs.declared.refusal.Cause.TheVariants.{BadVersion, NeedsVersion}
use Rattle.version_range.specs.Version.{IsNumber, IsVersion, is_version, version_text, led_by_points, begins_with_digit, number_after}
use Rattle.version_range.specs.Read.{cause_at, digits_in, is_number, number_at, followed, next_number, version_at, byte_due, equal_at}
use Rattle.text_grammar.specs.Reading.{◌>>=◌, byte_after, chained}
use Rattle.plan_types.specs.Format.{is_old}
use Rattle.version_range.specs.Grammar.{ends_with_digit, IsNewForm}
use Rattle.plan_types.specs.Bytes.{begins_with}
use Rattle.text_grammar.specs.Parts.{Chain, one, more}
use Rattle.version_range.proofs.VersionNumbers.{numeral_text, decimal_digits, decimal_some, decimal_few, decimal_plain, text_led, led_more, version_from, version_to, count_is}
use Rattle.text_grammar.proofs.FrontReaders.{Reader, errs, Apart, ends_behind, Read, Dead, new_form, digit_due, digit_more, Fault, Completes, fault_up, fault_up_like}
use Rattle.text_grammar.proofs.LeadingBlanks.{Begun, begun, byte_gone, no_digits, starts_digit, starts_same}
use Rattle.text_grammar.proofs.ChainParts.{Option-Reader, all_of, Parts, errs_then, ok_parts, errs_err, reads, read_all, AllRead, NextFault, fault_all}
use Rattle.text_grammar.proofs.TextKind.{starts}
use Rattle.version_range.proofs.RangeKind.{on_number, decimals, range_kind}

-- ---- numbers

-- a number's text
abbrev pub NumberText : List ℕ → ℕ → Type 0
NumberText text n = (text ≡ decimal n) × IsNumber n

-- what may follow a number
abbrev pub NotDigit : List ℕ → List ℕ → Type 0
NotDigit front rest = begins_with_digit rest ≡ false

all_more : (b : ℕ) (bs : List ℕ) → is_ascii_digit b ≡ true → all_ascii_digits bs ≡ true → all_ascii_digits (b ∷ bs) ≡ true
all_more b bs h all = and_from (is_ascii_digit b) (all_ascii_digits bs) h all

all_parts : (b : ℕ) (bs : List ℕ) → all_ascii_digits (b ∷ bs) ≡ true → (is_ascii_digit b ≡ true) × (all_ascii_digits bs ≡ true)
all_parts b bs h = and_parts (is_ascii_digit b) (all_ascii_digits bs) h

all_append : (ds es : List ℕ) → all_ascii_digits ds ≡ true → all_ascii_digits es ≡ true → all_ascii_digits (ds ++ es) ≡ true
all_append [] es h k = k
all_append (b ∷ ds) es h k = let p = all_parts b ds h in all_more b (ds ++ es) p.0 (all_append ds es p.1 k)

all_left : (ds es : List ℕ) → all_ascii_digits (ds ++ es) ≡ true → (all_ascii_digits ds ≡ true) × (all_ascii_digits es ≡ true)
all_left [] es h = (refl, h)
all_left (b ∷ ds) es h = let p = all_parts b (ds ++ es) h in let q = all_left ds es p.1 in (all_more b ds p.0 q.0, q.1)

-- a text begins with these digits and no others
record Digits (text : List ℕ) : Type 0 where
  front : List ℕ
  rest : List ℕ
  whole : text ≡ front ++ rest
  all : all_ascii_digits front ≡ true
  end : begins_with_digit rest ≡ false

split : (text : List ℕ) → Digits text
split [] = record { front = []; rest = []; whole = refl; all = refl; end = refl }
split (b ∷ bs) = by (split bs) (is_ascii_digit b) refl
  where
    by : Digits bs → (o : Bool) → is_ascii_digit b ≡ o → Digits (b ∷ bs)
    by d true q = record { front = b ∷ d.front; rest = d.rest; whole = ap (λ t. b ∷ t) d.whole; all = all_more b d.front q d.all; end = d.end }
    by d false q = record { front = []; rest = b ∷ bs; whole = refl; all = refl; end = q }

number_is : (spec : Spec) (ds rest : List ℕ) → all_ascii_digits ds ≡ true → begins_with_digit rest ≡ false
    → number_at spec (ds ++ rest) ≡ (if is_number ds then Ok (number_after 0 ds, rest) else Err (cause_at spec BadVersion (ds ++ rest)))
unfolding number_at
number_is spec ds rest all end =
    let cut : take (length ds) (ds ++ rest) ≡ ds = take-append_seam ds rest in
    let left : drop (length ds) (ds ++ rest) ≡ rest = drop-append_seam ds rest in
    let count : length ds ≡ digits_in (ds ++ rest) = count_is (ds ++ rest) (length ds) (omega (arith, length-append ds rest)) (ap all_ascii_digits cut ∙ all) (ap begins_with_digit left ∙ end) in
    let front : take (digits_in (ds ++ rest)) (ds ++ rest) ≡ ds = ap (λ n. take n (ds ++ rest)) (sym count) ∙ cut in
    let back : drop (digits_in (ds ++ rest)) (ds ++ rest) ≡ rest = ap (λ n. drop n (ds ++ rest)) (sym count) ∙ left in
    λ i. if is_number (front i) then Ok (number_after 0 (front i), back i) else Err (cause_at spec BadVersion (ds ++ rest))

-- the test of a number's digits
is_number_parts : (ds : List ℕ) → is_number ds ≡ true → (0 < length ds) × (length ds ≤ 9) × (get_or ds 0 0 ≡ 48 → length ds ≡ 1)
is_number_parts [] h = absurd (false≢true h)
is_number_parts (b ∷ []) h = (omega arith, omega arith, λ _. refl)
is_number_parts (b ∷ c ∷ bs) h =
    let p = and_parts (not (b == 48)) (nat_le (length (b ∷ c ∷ bs)) 9) h in
    (omega arith, leb-true (length (b ∷ c ∷ bs)) 9 p.1, λ e. absurd (cc (p.0, eq-eqb b 48 e)))

is_number_from : (ds : List ℕ) → 0 < length ds → length ds ≤ 9 → (get_or ds 0 0 ≡ 48 → length ds ≡ 1) → is_number ds ≡ true
is_number_from [] some few plain = absurd (omega arith)
is_number_from (b ∷ []) some few plain = refl
is_number_from (b ∷ c ∷ bs) some few plain =
    and_from (not (b == 48)) (nat_le (length (b ∷ c ∷ bs)) 9) (ap not (ne_eqb b 48 (λ e. omega (arith, plain e)))) (le-leb (length (b ∷ c ∷ bs)) 9 few)

many_no : (ds : List ℕ) → 9 < length ds → is_number ds ≡ false
many_no [] many = absurd (omega arith)
many_no (b ∷ []) many = absurd (omega arith)
many_no (b ∷ c ∷ bs) many = and_right (not (b == 48)) (nat_le (length (b ∷ c ∷ bs)) 9) (lt-leb (length (b ∷ c ∷ bs)) 9 many)

number_yes : (spec : Spec) (ds rest : List ℕ) → all_ascii_digits ds ≡ true → begins_with_digit rest ≡ false → is_number ds ≡ true → number_at spec (ds ++ rest) ≡ Ok (number_after 0 ds, rest)
number_yes spec ds rest all end is = number_is spec ds rest all end ∙ ap (λ t. if t then Ok (number_after 0 ds, rest) else Err (cause_at spec BadVersion (ds ++ rest))) is

number_no : (spec : Spec) (ds rest : List ℕ) → all_ascii_digits ds ≡ true → begins_with_digit rest ≡ false → is_number ds ≡ false → number_at spec (ds ++ rest) ≡ Err (cause_at spec BadVersion (ds ++ rest))
number_no spec ds rest all end is = number_is spec ds rest all end ∙ ap (λ t. if t then Ok (number_after 0 ds, rest) else Err (cause_at spec BadVersion (ds ++ rest))) is

pub number_read : (spec : Spec) (text : List ℕ) (n : ℕ) (rest : List ℕ) → number_at spec text ≡ Ok (n, rest) → Read NumberText NotDigit text n rest
number_read spec text n rest h = by (split text)
  where
    by : Digits text → Read NumberText NotDigit text n rest
    by d = at (is_number d.front) refl
      where
        at : (o : Bool) → is_number d.front ≡ o → Read NumberText NotDigit text n rest
        at true q =
            let given : Ok (number_after 0 d.front, d.rest) ≡ Ok (n, rest) = sym (number_yes spec d.front d.rest d.all d.end q) ∙ ap (number_at spec) (sym d.whole) ∙ h in
            let same = ok_parts (number_after 0 d.front) n d.rest rest given in
            let ok = is_number_parts d.front q in
            let t = numeral_text d.front d.all ok.0 ok.1 ok.2 in
            record {
              front = d.front;
              whole = d.whole ∙ ap (λ r. d.front ++ r) same.1;
              is = (t.1 ∙ ap decimal same.0, subst IsNumber same.0 t.0);
              apart = ap begins_with_digit (sym same.1) ∙ d.end;
            }
        at false q = let other = number_no spec d.front d.rest d.all d.end q in absurd (cc (h, other, d.whole))

pub number_reads : (spec : Spec) (text : List ℕ) (n : ℕ) (rest : List ℕ) → NumberText text n → NotDigit text rest → number_at spec (text ++ rest) ≡ Ok (n, rest)
number_reads spec text n rest is apart =
    let some = decimal_some n is.1 in
    let few = decimal_few n is.1 in
    let plain = decimal_plain n is.1 in
    let all = decimal_digits n is.1 in
    let t = numeral_text (decimal n) all some few plain in
    let value : number_after 0 (decimal n) ≡ n = sym (decimal_injective n (number_after 0 (decimal n)) (omega (arith, is.1)) (omega (arith, t.0)) t.1) in
    ap (λ t. number_at spec (t ++ rest)) is.0
    ∙ number_yes spec (decimal n) rest all apart (is_number_from (decimal n) some few plain)
    ∙ ap (λ v. Ok (v, rest)) value

-- ---- faults of numbers

-- a number, unless a star is in its place
abbrev star_at : Bool → Spec → Option-Reader ℕ
star_at star spec text = if star && begins_with 42 text then Ok None else number_at spec text >>= λ p. Ok (Some p)

no_form : (spec : Spec) (rest : List ℕ) → begins_with_digit rest ≡ true → IsNewForm spec rest → ⊥
no_form spec rest digit form = false≢true (sym (and_right (is_old spec) (begins_with 123 rest) (starts_digit decimals (λ c. c == 123) (no_digits decimals 123 refl) rest digit)) ∙ form)

cause_form : (spec : Spec) (cause : Cause) (rest : List ℕ) → IsNewForm spec rest → cause_at spec cause rest ≡ NeedsVersion
cause_form spec cause rest form = ap (λ t. if t then NeedsVersion else cause) form

cause_other : (spec : Spec) (cause : Cause) (rest : List ℕ) → (is_old spec && begins_with 123 rest) ≡ false → cause_at spec cause rest ≡ cause
cause_other spec cause rest old = ap (λ t. if t then NeedsVersion else cause) old

cause_digit : (spec : Spec) (cause : Cause) (rest : List ℕ) → begins_with_digit rest ≡ true → cause_at spec cause rest ≡ cause
cause_digit spec cause rest digit = cause_other spec cause rest (and_right (is_old spec) (begins_with 123 rest) (starts_digit decimals (λ c. c == 123) (no_digits decimals 123 refl) rest digit))

star_errs : (star : Bool) (spec : Spec) (text : List ℕ) → (star && begins_with 42 text) ≡ false → errs (number_at spec text) ≡ true → errs (star_at star spec text) ≡ true
star_errs star spec text free h = ap (λ t. errs (if t then Ok None else number_at spec text >>= λ p. Ok (Some p))) free ∙ errs_then (number_at spec text) (λ p. Ok (Some p)) h

star_digit : (star : Bool) (spec : Spec) (text : List ℕ) → begins_with_digit text ≡ true → errs (number_at spec text) ≡ true → errs (star_at star spec text) ≡ true
star_digit star spec text digit h = star_errs star spec text (and_right star (begins_with 42 text) (starts_digit decimals (λ c. c == 42) (no_digits decimals 42 refl) text digit)) h

digits_absent : (spec : Spec) (text : List ℕ) → begins_with_digit text ≡ false → errs (number_at spec text) ≡ true
digits_absent spec text none = errs_err (number_at spec text) (cause_at spec BadVersion text) (number_no spec [] text refl none refl)

some_front : (text : List ℕ) (d : Digits text) → begins_with_digit text ≡ true → 0 < length d.front
some_front text d digit = by d.front refl
  where
    by : (ds : List ℕ) → d.front ≡ ds → 0 < length d.front
    by [] q = absurd (false≢true (sym d.end ∙ ap begins_with_digit (sym (d.whole ∙ ap (λ t. t ++ d.rest) q)) ∙ digit))
    by (b ∷ bs) q = omega (arith, ap length q)

-- digits that no further digits complete to a number
digits_no : (spec : Spec) (ds text : List ℕ) → all_ascii_digits ds ≡ true → begins_with_digit text ≡ true → ((more : List ℕ) → 0 < length more → is_number (ds ++ more) ≡ false) → errs (number_at spec (ds ++ text)) ≡ true
digits_no spec ds text all digit none =
    let d = split text in
    let whole : ds ++ text ≡ (ds ++ d.front) ++ d.rest = ap (λ t. ds ++ t) d.whole ∙ sym (append_assoc ds d.front d.rest) in
    errs_err (number_at spec (ds ++ text)) (cause_at spec BadVersion ((ds ++ d.front) ++ d.rest))
    (ap (number_at spec) whole ∙ number_no spec (ds ++ d.front) d.rest (all_append ds d.front all d.all) d.end (none d.front (some_front text d digit)))

zero_more : (more : List ℕ) → 0 < length more → is_number (48 ∷ more) ≡ false
zero_more [] some = absurd (omega arith)
zero_more (b ∷ bs) some = refl

nine_more : (ds : List ℕ) → length ds ≡ 9 → (more : List ℕ) → 0 < length more → is_number (ds ++ more) ≡ false
nine_more ds nine es some = many_no (ds ++ es) (omega (arith, length-append ds es))

zero_text : NumberText (48 ∷ []) 0
zero_text = (sym (decimal_digit 0 (omega arith)), omega arith)

digits_begin : (ds text : List ℕ) → all_ascii_digits ds ≡ true → 0 < length ds → begins_with_digit (ds ++ text) ≡ true
digits_begin [] text all some = absurd (omega arith)
digits_begin (b ∷ ds) text all some = (all_parts b ds all).0

digits_last : (ds : List ℕ) → all_ascii_digits ds ≡ true → 0 < length ds → ends_with_digit ds ≡ true
digits_last [] all some = absurd (omega arith)
digits_last (b ∷ []) all some = (all_parts b [] all).0
digits_last (b ∷ c ∷ ds) all some = digits_last (c ∷ ds) (all_parts b (c ∷ ds) all).1 (omega arith)

abbrev StarFault : Bool → Spec → List ℕ → Cause → Type 0
StarFault star spec = Fault (range_kind spec) NumberText NumberText (star_at star spec) (star_at star spec)

-- a number, and a digit that it can't have
fault_more : (star : Bool) (spec : Spec) (ds rest : List ℕ) → all_ascii_digits ds ≡ true → 0 < length ds → (n : ℕ) → NumberText ds n → begins_with_digit rest ≡ true
    → ((more : List ℕ) → 0 < length more → is_number (ds ++ more) ≡ false) → StarFault star spec (ds ++ rest) BadVersion
fault_more star spec ds rest all some n is digit none =
    record {
      front = ds;
      rest = rest;
      whole = refl;
      more = [];
      value = n;
      goes_on = (append-nil ds ∙ is.0, is.1);
      why = digit_more (no_form spec rest digit) (digits_last ds all some) digit
          (λ again same. star_digit star spec (ds ++ again) (digits_begin ds again all some) (digits_no spec ds again all (starts_same is_ascii_digit rest again same ∙ digit) none));
    }

fault_none : (star : Bool) (spec : Spec) (rest : List ℕ) → begins_with_digit rest ≡ false → (star && begins_with 42 rest) ≡ false → StarFault star spec rest (cause_at spec BadVersion rest)
fault_none star spec rest none free = by (is_old spec && begins_with 123 rest) refl
  where
    dead : Dead (star_at star spec) [] rest
    dead again same = star_errs star spec again (ap (λ t. star && t) (starts_same (λ c. c == 42) rest again same) ∙ free) (digits_absent spec again (starts_same is_ascii_digit rest again same ∙ none))

    by : (o : Bool) → (is_old spec && begins_with 123 rest) ≡ o → StarFault star spec rest (cause_at spec BadVersion rest)
    by true q = subst (StarFault star spec rest) (sym (cause_form spec BadVersion rest q)) (record { front = []; rest = rest; whole = refl; more = 48 ∷ []; value = 0; goes_on = zero_text; why = new_form q dead })
    by false q = subst (StarFault star spec rest) (sym (cause_other spec BadVersion rest q))
        (record { front = []; rest = rest; whole = refl; more = 48 ∷ []; value = 0; goes_on = zero_text; why = digit_due (λ form. false≢true (sym q ∙ form)) refl 48 refl [] 0 zero_text dead })

-- nine digits, and further ones
fault_nine : (star : Bool) (spec : Spec) (b c : ℕ) (fs es rest : List ℕ) → all_ascii_digits (b ∷ c ∷ fs) ≡ true → length fs ≡ 7 → b ≢ 48 → begins_with_digit (es ++ rest) ≡ true → StarFault star spec ((b ∷ c ∷ fs) ++ (es ++ rest)) BadVersion
fault_nine star spec b c fs es rest all seven plain digit =
    let t = numeral_text (b ∷ c ∷ fs) all (omega arith) (omega (arith, seven)) (λ e. absurd (plain e)) in
    fault_more star spec (b ∷ c ∷ fs) (es ++ rest) all (omega arith) (number_after 0 (b ∷ c ∷ fs)) (t.1, t.0) digit (nine_more (b ∷ c ∷ fs) (omega (arith, seven)))

-- two or more digits that are no number
fault_digits : (star : Bool) (spec : Spec) (b c : ℕ) (bs rest : List ℕ) → all_ascii_digits (b ∷ c ∷ bs) ≡ true → is_number (b ∷ c ∷ bs) ≡ false → StarFault star spec ((b ∷ c ∷ bs) ++ rest) BadVersion
fault_digits star spec b c bs rest all none = by (b == 48) refl
  where
    by : (o : Bool) → (b == 48) ≡ o → StarFault star spec ((b ∷ c ∷ bs) ++ rest) BadVersion
    by true q =
        let p = all_parts b (c ∷ bs) all in
        let zero_first : 48 ≡ b = sym (eqb-true b 48 q) in
        subst (λ x. StarFault star spec (x ∷ (c ∷ bs) ++ rest) BadVersion) zero_first
        (fault_more star spec (48 ∷ []) ((c ∷ bs) ++ rest) refl (omega arith) 0 zero_text (all_parts c bs p.1).0 zero_more)
    by false q =
        let few : nat_le (length (b ∷ c ∷ bs)) 9 ≡ false = ap (λ t. not t && nat_le (length (b ∷ c ∷ bs)) 9) (sym q) ∙ none in
        let many : 9 < length (b ∷ c ∷ bs) = leb-false (length (b ∷ c ∷ bs)) 9 few in
        let fs : List ℕ = take 7 bs in
        let es : List ℕ = drop 7 bs in
        let cut : fs ++ es ≡ bs = take-append-drop 7 bs in
        let all_cut : all_ascii_digits ((b ∷ c ∷ fs) ++ es) ≡ true = ap (λ t. all_ascii_digits (b ∷ c ∷ t)) cut ∙ all in
        let seven : length fs ≡ 7 = omega (arith, length-take 7 bs, many) in
        let some : 0 < length es = omega (arith, length-drop 7 bs, many) in
        let p = all_left (b ∷ c ∷ fs) es all_cut in
        subst (λ t. StarFault star spec (b ∷ c ∷ t) BadVersion) (sym (append_assoc fs es rest) ∙ ap (λ t. t ++ rest) cut)
        (fault_nine star spec b c fs es rest p.0 seven (eqb-false b 48 q) (digits_begin es rest p.1 some))

fault_split : (star : Bool) (spec : Spec) (ds rest : List ℕ) → all_ascii_digits ds ≡ true → begins_with_digit rest ≡ false → is_number ds ≡ false → (star && begins_with 42 (ds ++ rest)) ≡ false → StarFault star spec (ds ++ rest) (cause_at spec BadVersion (ds ++ rest))
fault_split star spec [] rest all end none free = fault_none star spec rest end free
fault_split star spec (b ∷ []) rest all end none free = absurd (false≢true (sym none))
fault_split star spec (b ∷ c ∷ bs) rest all end none free =
    subst (StarFault star spec ((b ∷ c ∷ bs) ++ rest)) (sym (cause_digit spec BadVersion ((b ∷ c ∷ bs) ++ rest) (all_parts b (c ∷ bs) all).0)) (fault_digits star spec b c bs rest all none)

star_fault : (star : Bool) (spec : Spec) (text : List ℕ) (cause : Cause) → star_at star spec text ≡ Err cause → StarFault star spec text cause
star_fault star spec text cause h = by (star && begins_with 42 text) refl
  where
    at : (star && begins_with 42 text) ≡ false → number_at spec text ≡ Err cause → (d : Digits text) → (o : Bool) → is_number d.front ≡ o → StarFault star spec text cause
    at free failed d true q = let other = number_yes spec d.front d.rest d.all d.end q in absurd (cc (failed, other, d.whole))
    at free failed d false q =
        let found = number_no spec d.front d.rest d.all d.end q in
        let is : cause_at spec BadVersion (d.front ++ d.rest) ≡ cause = cc (failed, found, d.whole) in
        subst (λ t. StarFault star spec t cause) (sym d.whole)
        (subst (StarFault star spec (d.front ++ d.rest)) is (fault_split star spec d.front d.rest d.all d.end q (ap (λ t. star && begins_with 42 t) (sym d.whole) ∙ free)))

    failed : (r : Result (ℕ × List ℕ) Cause) → (let o : Result (Option (ℕ × List ℕ)) Cause = r >>= λ p. Ok (Some p) in o ≡ Err cause) → r ≡ Err cause
    failed (Ok p) e = absurd (cc e)
    failed (Err why) e = let same : why ≡ cause = cc e in ap Err same

    by : (o : Bool) → (star && begins_with 42 text) ≡ o → StarFault star spec text cause
    by true q = let found : star_at star spec text ≡ Ok None = ap (λ t. if t then Ok None else number_at spec text >>= λ p. Ok (Some p)) q in absurd (cc (h, found))
    by false q =
        let d = split text in
        let found : star_at star spec text ≡ (number_at spec text >>= λ p. Ok (Some p)) = ap (λ t. if t then Ok None else number_at spec text >>= λ p. Ok (Some p)) q in
        at q (failed (number_at spec text) (sym found ∙ h)) d (is_number d.front) refl

back : (r : Result (ℕ × List ℕ) Cause) → (let o : Result (Option (ℕ × List ℕ)) Cause = r >>= λ p. Ok (Some p) in errs o ≡ true) → errs r ≡ true
back (Ok p) e = e
back (Err why) e = e

pub number_fault : (spec : Spec) (text : List ℕ) (cause : Cause) → number_at spec text ≡ Err cause → Fault (range_kind spec) NumberText NumberText (number_at spec) (number_at spec) text cause
number_fault spec text cause h =
    let given : star_at false spec text ≡ Err cause = ap (λ r. r >>= λ p. Ok (Some p)) h in
    let same : Completes NumberText [] NumberText = λ t n k. ([], n, (append-nil t ∙ k.0, k.1)) in
    fault_up (range_kind spec) NumberText NumberText (star_at false spec) (star_at false spec) NumberText NumberText (number_at spec) (number_at spec) [] same same
    text cause (star_fault false spec text cause given) refl (λ again e. back (number_at spec _) e) (λ again e. back (number_at spec _) e)

-- ---- the numbers of a version

-- the first number, alone
abbrev FirstText : List ℕ → List ℕ → Type 0
FirstText text ns = (n : ℕ) × NumberText text n × (ns ≡ n ∷ [])

-- a number and the point before it
abbrev NextText : List ℕ → ℕ → Type 0
NextText text n = (digits : List ℕ) × (text ≡ 46 ∷ digits) × NumberText digits n

abbrev alone : ℕ × List ℕ → Result (List ℕ × List ℕ) Cause
alone p = Ok (p.0 ∷ [], p.1)

abbrev first_at : Spec → Reader (List ℕ)
first_at spec text = number_at spec text >>= alone

next_point : (star : Bool) (spec : Spec) (rest : List ℕ) → next_number star spec (46 ∷ rest) ≡ star_at star spec rest
unfolding next_number
next_point star spec rest = refl

next_other : (star : Bool) (spec : Spec) (text : List ℕ) → begins_with 46 text ≡ false → next_number star spec text ≡ Ok None
unfolding next_number
next_other star spec text h =
    ap (λ (o : Option (List ℕ)). elim o [
      | None ↦ Ok None
      | Some rest ↦ if star && begins_with 42 rest then Ok None else number_at spec rest >>= λ p. Ok (Some p)
    ]) (byte_gone 46 text h)

-- the cases of an answer
star_parts : (t : Bool) (r : Result (ℕ × List ℕ) Cause) (p : ℕ × List ℕ) → (let o : Result (Option (ℕ × List ℕ)) Cause = if t then Ok None else r >>= λ p. Ok (Some p) in o ≡ Ok (Some p)) → r ≡ Ok p
star_parts true r p h = absurd (cc h)
star_parts false (Ok q) p h = let same : q ≡ p = cc h in ap Ok same
star_parts false (Err why) p h = absurd (cc h)

star_free : (t : Bool) (r : Result (ℕ × List ℕ) Cause) → (let o : Result (Option (ℕ × List ℕ)) Cause = if t then Ok None else r >>= λ p. Ok (Some p) in o ≡ Ok None) → t ≡ true
star_free true r h = refl
star_free false (Ok q) h = absurd (cc h)
star_free false (Err why) h = absurd (cc h)

star_some : (star : Bool) (spec : Spec) (text : List ℕ) (n : ℕ) (rest : List ℕ) → star_at star spec text ≡ Ok (Some (n, rest)) → number_at spec text ≡ Ok (n, rest)
star_some star spec text n rest h = star_parts (star && begins_with 42 text) (number_at spec text) (n, rest) h

star_none : (star : Bool) (spec : Spec) (text : List ℕ) → star_at star spec text ≡ Ok None → (star ≡ true) × (begins_with 42 text ≡ true)
star_none star spec text h = and_parts star (begins_with 42 text) (star_free (star && begins_with 42 text) (number_at spec text) h)

star_reads : (star : Bool) (spec : Spec) (text : List ℕ) (n : ℕ) (rest : List ℕ) → begins_with_digit text ≡ true → number_at spec text ≡ Ok (n, rest) → star_at star spec text ≡ Ok (Some (n, rest))
star_reads star spec text n rest digit h =
    ap (λ t. if t then Ok None else number_at spec text >>= λ p. Ok (Some p)) (and_right star (begins_with 42 text) (starts_digit decimals (λ c. c == 42) (no_digits decimals 42 refl) text digit))
    ∙ ap (λ r. r >>= λ p. Ok (Some p)) h

number_begins : (text : List ℕ) (n : ℕ) (rest : List ℕ) → NumberText text n → begins_with_digit (text ++ rest) ≡ true
number_begins text n rest is = ap (λ t. begins_with_digit (t ++ rest)) is.0 ∙ digits_begin (decimal n) rest (decimal_digits n is.1) (decimal_some n is.1)

number_ends : (text : List ℕ) (n : ℕ) → NumberText text n → ends_with_digit text ≡ true
number_ends text n is = ap ends_with_digit is.0 ∙ digits_last (decimal n) (decimal_digits n is.1) (decimal_some n is.1)

first_reads : (spec : Spec) (text ns rest : List ℕ) → FirstText text ns → NotDigit text rest → first_at spec (text ++ rest) ≡ Ok (ns, rest)
first_reads spec text ns rest f e = ap (λ r. r >>= alone) (number_reads spec text f.0 rest f.1 e) ∙ ap (λ v. Ok (v, rest)) (sym f.2)

first_read : (spec : Spec) (text ns rest : List ℕ) → first_at spec text ≡ Ok (ns, rest) → Read FirstText NotDigit text ns rest
first_read spec text ns rest h = by (number_at spec text) refl
  where
    by : (o : Result (ℕ × List ℕ) Cause) → number_at spec text ≡ o → Read FirstText NotDigit text ns rest
    by (Err why) q = absurd (cc (h, ap (λ r. r >>= alone) q))
    by (Ok p) q =
        let same = ok_parts (p.0 ∷ []) ns p.1 rest (sym (ap (λ r. r >>= alone) q) ∙ h) in
        let r = number_read spec text p.0 p.1 q in
        record { front = r.front; whole = r.whole ∙ ap (λ t. r.front ++ t) same.1; is = (p.0, r.is, sym same.0); apart = ap begins_with_digit (sym same.1) ∙ r.apart }

next_reads : (star : Bool) (spec : Spec) (text : List ℕ) (n : ℕ) (rest : List ℕ) → NextText text n → NotDigit text rest → next_number star spec (text ++ rest) ≡ Ok (Some (n, rest))
next_reads star spec text n rest k e =
    ap (λ t. next_number star spec (t ++ rest)) k.1
    ∙ next_point star spec (k.0 ++ rest)
    ∙ star_reads star spec (k.0 ++ rest) n rest (number_begins k.0 n rest k.2) (number_reads spec k.0 n rest k.2 e)

next_read : (star : Bool) (spec : Spec) (text : List ℕ) (n : ℕ) (rest : List ℕ) → next_number star spec text ≡ Ok (Some (n, rest)) → Read NextText NotDigit text n rest
next_read star spec text n rest h = by (begun 46 text)
  where
    by : Begun 46 text → Read NextText NotDigit text n rest
    by (inr other) = absurd (cc (h, next_other star spec text other))
    by (inl p) =
        let r = number_read spec p.0 n rest (star_some star spec p.0 n rest (sym (next_point star spec p.0) ∙ ap (next_number star spec) (sym p.1) ∙ h)) in
        record { front = 46 ∷ r.front; whole = p.1 ∙ ap (λ t. 46 ∷ t) r.whole; is = (r.front, refl, r.is); apart = r.apart }

rules : (star : Bool) (spec : Spec) → Parts FirstText NextText NotDigit (first_at spec) (next_number star spec)
rules star spec = record {
  first_reads = first_reads spec;
  first_read = first_read spec;
  next_reads = next_reads star spec;
  next_read = next_read star spec;
  next_some = λ n k. cc (k.1);
  opens = λ text next rest n k. ap (λ t. begins_with_digit (t ++ rest)) k.1;
  behind = λ text next rest n k e. e;
  within = λ text next rest n k e. e;
}

abbrev all_numbers : Bool → Spec → Reader (List ℕ)
all_numbers star spec = all_of followed (first_at spec) (next_number star spec)

abbrev NumbersText : List ℕ → List ℕ → Type 0
NumbersText = Chain followed FirstText NextText

first_fault : (spec : Spec) (text : List ℕ) (cause : Cause) → first_at spec text ≡ Err cause → Fault (range_kind spec) FirstText FirstText (first_at spec) (first_at spec) text cause
first_fault spec text cause h =
    let single : Completes NumberText [] FirstText = λ t n k. ([], n ∷ [], (n, (append-nil t ∙ k.0, k.1), refl)) in
    fault_up (range_kind spec) NumberText NumberText (number_at spec) (number_at spec) FirstText FirstText (first_at spec) (first_at spec) [] single single
    text cause (number_fault spec text cause (failed (number_at spec text) h)) refl (λ again e. errs_then (number_at spec _) alone e) (λ again e. errs_then (number_at spec _) alone e)
  where
    failed : (r : Result (ℕ × List ℕ) Cause) → (let o : Result (List ℕ × List ℕ) Cause = r >>= alone in o ≡ Err cause) → r ≡ Err cause
    failed (Ok p) e = absurd (cc e)
    failed (Err why) e = let same : why ≡ cause = cc e in ap Err same

ends_behind_point : (ds : List ℕ) → ends_with_digit (46 ∷ ds) ≡ ends_with_digit ds
ends_behind_point [] = refl
ends_behind_point (b ∷ bs) = refl

module _ (star : Bool) (spec : Spec) where
  abbrev NumbersNextFault : List ℕ → Cause → Type 0
  NumbersNextFault = NextFault (range_kind spec) followed FirstText FirstText NextText NextText NotDigit (first_at spec) (first_at spec) (next_number star spec) (next_number star spec) (rules star spec) (rules star spec) (λ t x k. k) (λ t y k. k)

  next_fault : (text : List ℕ) (cause : Cause) → next_number star spec text ≡ Err cause → NumbersNextFault text cause
  unfolding fault_up fault_up_like
  next_fault text cause h = by (begun 46 text)
    where
      by : Begun 46 text → NumbersNextFault text cause
      by (inr other) = absurd (cc (h, next_other star spec text other))
      by (inl p) =
          let f = star_fault star spec p.0 cause (sym (next_point star spec p.0) ∙ ap (next_number star spec) (sym p.1) ∙ h) in
          let pointed : Completes NumberText (46 ∷ []) NextText = λ t n k. ([], n, (t ++ [], refl, (append-nil t ∙ k.0, k.1))) in
          let pass : (again : List ℕ) → errs (star_at star spec again) ≡ true → errs (next_number star spec (46 ∷ again)) ≡ true = λ again e. ap errs (next_point star spec again) ∙ e in
          let whole : Fault (range_kind spec) NextText NextText (next_number star spec) (next_number star spec) (46 ∷ p.0) cause =
          fault_up (range_kind spec) NumberText NumberText (star_at star spec) (star_at star spec) NextText NextText (next_number star spec) (next_number star spec) (46 ∷ []) pointed pointed
          p.0 cause f (ends_behind_point f.front) (λ again e. pass (f.front ++ again) e) (λ again e. pass (f.front ++ again) e) in
          subst (λ t. NumbersNextFault t cause) (sym p.1) (record { fault = whole; begun = λ e. cc e; opens = λ behind again. refl })

  numbers_fault : (text : List ℕ) (cause : Cause) → all_numbers star spec text ≡ Err cause → Fault (range_kind spec) NumbersText NumbersText (all_numbers star spec) (all_numbers star spec) text cause
  numbers_fault = fault_all (range_kind spec) followed FirstText FirstText NextText NextText NotDigit (first_at spec) (first_at spec) (next_number star spec) (next_number star spec) (rules star spec) (rules star spec) (λ t x k. k) (λ t y k. k) next_fault (first_fault spec)

  -- the numbers that were read
  abbrev NumbersRead : List ℕ → List ℕ → List ℕ → Type 0
  NumbersRead = AllRead followed FirstText NextText NotDigit (first_at spec) (next_number star spec) (rules star spec)

  numbers_read : (text ns rest : List ℕ) → all_numbers star spec text ≡ Ok (ns, rest) → NumbersRead text ns rest
  numbers_read = read_all followed FirstText NextText NotDigit (first_at spec) (next_number star spec) (rules star spec)

  numbers_reads : (text ns : List ℕ) → NumbersText text ns → (rest : List ℕ) → NotDigit text rest → next_number star spec rest ≡ Ok None → all_numbers star spec (text ++ rest) ≡ Ok (ns, rest)
  numbers_reads text ns c = reads followed FirstText NextText NotDigit (first_at spec) (next_number star spec) (rules star spec) c

  abbrev as_version : List ℕ × List ℕ → Result (Version × List ℕ) Cause
  as_version all = Ok (record { parts = all.0 }, all.1)

  version_is : (text : List ℕ) → version_at star spec text ≡ (all_numbers star spec text >>= as_version)
  unfolding version_at
  version_is text = by (number_at spec text)
    where
      by : (r : Result (ℕ × List ℕ) Cause) → (let o : Result (Version × List ℕ) Cause = r >>= λ p. chained followed (next_number star spec) (p.0 ∷ [], p.1) >>= as_version in o ≡ ((r >>= alone) >>= chained followed (next_number star spec)) >>= as_version)
      by (Ok p) = refl
      by (Err why) = refl

-- ---- the text of a version

-- one more number
version_more : (ns : List ℕ) (n : ℕ) → IsVersion ns → version_text (ns ++ n ∷ []) ≡ version_text ns ++ (46 ∷ decimal n)
version_more [] n v = absurd v
version_more (m ∷ ns) n v =
    text_led m (ns ++ n ∷ [])
    ∙ ap (λ t. decimal m ++ t) (led_more ns n)
    ∙ sym (append_assoc (decimal m) (led_by_points ns) (46 ∷ decimal n))
    ∙ ap (λ t. t ++ (46 ∷ decimal n)) (sym (text_led m ns))

is_more : (ns : List ℕ) (n : ℕ) → IsVersion ns → IsNumber n → IsVersion (ns ++ n ∷ [])
is_more [] n v h = absurd v
is_more (m ∷ []) n v h = (v, h)
is_more (m ∷ k ∷ ns) n v h = (v.0, is_more (k ∷ ns) n v.1 h)

numbers_text : {text ns : List ℕ} → NumbersText text ns → (text ≡ version_text ns) × IsVersion ns
numbers_text {text} {ns} (one f) = (f.1.0 ∙ ap version_text (sym f.2), subst IsVersion (sym f.2) f.1.1)
numbers_text (more {text = text} {next = next} {left = left} {right = right} c k) =
    let r = numbers_text c in
    let joined : next ≡ 46 ∷ decimal right = k.1 ∙ ap (λ t. 46 ∷ t) k.2.0 in
    (cc (r.0, joined, version_more left right r.1), is_more left right r.1 k.2.1)

-- more numbers, each after a point
numbers_on : (text left ns : List ℕ) → NumbersText text left → AllByRecursion IsNumber ns → NumbersText (text ++ led_by_points ns) (left ++ ns)
numbers_on text left [] c all = subst (λ t. NumbersText t (left ++ [])) (sym (append-nil text)) (subst (NumbersText text) (sym (append-nil left)) c)
numbers_on text left (n ∷ ns) c all =
    let on = numbers_on (text ++ (46 ∷ decimal n)) (left ++ n ∷ []) ns (more c (decimal n, refl, (refl, all.0))) all.1 in
    subst (λ t. NumbersText t (left ++ n ∷ ns)) (append_assoc text (46 ∷ decimal n) (led_by_points ns))
    (subst (NumbersText ((text ++ (46 ∷ decimal n)) ++ led_by_points ns)) (append_assoc left (n ∷ []) ns) on)

version_numbers : (n : ℕ) (ns : List ℕ) → IsVersion (n ∷ ns) → IsNumber n × AllByRecursion IsNumber ns
version_numbers n [] v = (v, tt)
version_numbers n (m ∷ ns) v = (v.0, version_numbers m ns v.1)

text_numbers : (ns : List ℕ) → IsVersion ns → NumbersText (version_text ns) ns
text_numbers [] v = absurd v
text_numbers (n ∷ ns) v =
    let p = version_numbers n ns v in
    subst (λ t. NumbersText t (n ∷ ns)) (sym (text_led n ns)) (numbers_on (decimal n) (n ∷ []) ns (one (n, (refl, p.0), refl)) p.1)

-- ---- versions

-- a version's text
abbrev pub VersionText : List ℕ → Version → Type 0
VersionText text v = (text ≡ version_text v.parts) × (is_version v.parts ≡ true)

-- a rest that doesn't continue a number begins with neither a digit nor a point
apart_parts : (rest : List ℕ) → starts on_number rest ≡ false → (begins_with_digit rest ≡ false) × (begins_with 46 rest ≡ false)
apart_parts [] h = (refl, refl)
apart_parts (b ∷ bs) h = or_parts (is_ascii_digit b) (b == 46) h

apart_from : (rest : List ℕ) → begins_with_digit rest ≡ false → begins_with 46 rest ≡ false → starts on_number rest ≡ false
apart_from [] h k = refl
apart_from (b ∷ bs) h k = or_from (is_ascii_digit b) (b == 46) h k

ends_after : (b : ℕ) (text : List ℕ) → ends_with_digit text ≡ true → ends_with_digit (b ∷ text) ≡ true
ends_after b [] h = absurd (false≢true h)
ends_after b (c ∷ cs) h = h

version_ends : (ns : List ℕ) → IsVersion ns → ends_with_digit (version_text ns) ≡ true
version_ends [] v = absurd v
version_ends (n ∷ []) v = number_ends (decimal n) n (refl, v)
version_ends (n ∷ m ∷ ns) v = ends_behind is_ascii_digit (decimal n) 46 (version_text (m ∷ ns)) ∙ ends_after 46 (version_text (m ∷ ns)) (version_ends (m ∷ ns) v.1)

version_begins : (ns : List ℕ) → IsVersion ns → begins_with_digit (version_text ns) ≡ true
version_begins [] v = absurd v
version_begins (n ∷ ns) v =
    let p = version_numbers n ns v in
    ap begins_with_digit (text_led n ns) ∙ number_begins (decimal n) n (led_by_points ns) (refl, p.0)

first_of_text : (text : List ℕ) → begins_with_digit text ≡ true → (b : ℕ) × (bs : List ℕ) × (text ≡ b ∷ bs) × (is_ascii_digit b ≡ true)
first_of_text [] h = absurd (false≢true h)
first_of_text (b ∷ bs) h = (b, bs, refl, h)

pub version_first : (text : List ℕ) (v : Version) → VersionText text v → (b : ℕ) × (bs : List ℕ) × (text ≡ b ∷ bs) × (is_ascii_digit b ≡ true)
version_first text v is = first_of_text text (ap begins_with_digit is.0 ∙ version_begins v.parts (version_from v.parts is.1))

pub version_last : (text : List ℕ) (v : Version) → VersionText text v → ends_with_digit text ≡ true
version_last text v is = ap ends_with_digit is.0 ∙ version_ends v.parts (version_from v.parts is.1)

pub version_zero : VersionText (48 ∷ []) (record { parts = 0 ∷ [] })
version_zero = (zero_text.0, refl)

-- the numbers that were read are the version's
version_found : (star : Bool) (spec : Spec) (text : List ℕ) (v : Version) (rest : List ℕ) → version_at star spec text ≡ Ok (v, rest) → NumbersRead star spec text v.parts rest
version_found star spec text v rest h = by (all_numbers star spec text) refl
  where
    by : (o : Result (List ℕ × List ℕ) Cause) → all_numbers star spec text ≡ o → NumbersRead star spec text v.parts rest
    by (Err why) q = absurd (cc (h, version_is star spec text, ap (λ r. r >>= as_version star spec) q))
    by (Ok p) q =
        let same = ok_parts (record { parts = p.0 }) v p.1 rest (sym (version_is star spec text ∙ ap (λ r. r >>= as_version star spec) q) ∙ h) in
        numbers_read star spec text v.parts rest (q ∙ ap (λ ns. Ok (ns, p.1)) (ap (λ x. x.parts) same.0) ∙ ap (λ t. Ok (v.parts, t)) same.1)

version_made : (star : Bool) (spec : Spec) (text : List ℕ) (v : Version) (rest : List ℕ) → VersionText text v → NotDigit text rest → next_number star spec rest ≡ Ok None → version_at star spec (text ++ rest) ≡ Ok (v, rest)
version_made star spec text v rest is apart none =
    version_is star spec (text ++ rest)
    ∙ ap (λ r. r >>= as_version star spec) (numbers_reads star spec text v.parts (subst (λ t. NumbersText t v.parts) (sym is.0) (text_numbers v.parts (version_from v.parts is.1))) rest apart none)

version_is_text : (text ns : List ℕ) → NumbersText text ns → (text ≡ version_text ns) × (is_version ns ≡ true)
version_is_text text ns c = let p = numbers_text c in (p.0, version_to ns p.1)

-- why no further number is read
none_next : (star : Bool) (spec : Spec) (rest : List ℕ) → next_number star spec rest ≡ Ok None → (begins_with 46 rest ≡ false) ⊎ ((behind : List ℕ) × (star ≡ true) × (rest ≡ 46 ∷ 42 ∷ behind))
none_next star spec rest h = by (begun 46 rest)
  where
    starred : (t : List ℕ) → begins_with 42 t ≡ true → (behind : List ℕ) × (t ≡ 42 ∷ behind)
    starred [] k = absurd (false≢true k)
    starred (b ∷ bs) k = (bs, ap (λ x. x ∷ bs) (eqb-true b 42 k))

    by : Begun 46 rest → (begins_with 46 rest ≡ false) ⊎ ((behind : List ℕ) × (star ≡ true) × (rest ≡ 46 ∷ 42 ∷ behind))
    by (inr other) = inl other
    by (inl p) =
        let s = star_none star spec p.0 (sym (next_point star spec p.0) ∙ ap (next_number star spec) (sym p.1) ∙ h) in
        let k = starred p.0 s.1 in
        inr (k.0, s.0, p.1 ∙ ap (λ t. 46 ∷ t) k.1)

pub version_read : (spec : Spec) (text : List ℕ) (v : Version) (rest : List ℕ) → version_at false spec text ≡ Ok (v, rest) → Read VersionText (Apart decimals) text v rest
version_read spec text v rest h =
    let f = version_found false spec text v rest h in
    record { front = f.read.front; whole = f.read.whole; is = version_is_text f.read.front v.parts f.read.is; apart = λ _. ends f.read.apart (none_next false spec rest f.none) }
  where
    ends : begins_with_digit rest ≡ false → (begins_with 46 rest ≡ false) ⊎ ((behind : List ℕ) × (false ≡ true) × (rest ≡ 46 ∷ 42 ∷ behind)) → starts on_number rest ≡ false
    ends digit (inl other) = apart_from rest digit other
    ends digit (inr p) = absurd (false≢true p.1)

version_whole : (star : Bool) (spec : Spec) (text : List ℕ) (v : Version) (rest : List ℕ) → VersionText text v → Apart decimals text rest → version_at star spec (text ++ rest) ≡ Ok (v, rest)
version_whole star spec text v rest is apart =
    let p = apart_parts rest (apart (version_last text v is)) in
    version_made star spec text v rest is p.0 (next_other star spec rest p.1)

pub version_reads : (spec : Spec) (text : List ℕ) (v : Version) (rest : List ℕ) → VersionText text v → Apart decimals text rest → version_at false spec (text ++ rest) ≡ Ok (v, rest)
version_reads = version_whole false

version_failed : (star : Bool) (spec : Spec) (text : List ℕ) (cause : Cause) → version_at star spec text ≡ Err cause → all_numbers star spec text ≡ Err cause
version_failed star spec text cause h = by (all_numbers star spec text) (sym (version_is star spec text) ∙ h)
  where
    by : (r : Result (List ℕ × List ℕ) Cause) → (r >>= as_version star spec) ≡ Err cause → r ≡ Err cause
    by (Ok p) e = absurd (cc e)
    by (Err why) e = let same : why ≡ cause = cc e in ap Err same

version_errs : (star : Bool) (spec : Spec) (text : List ℕ) → errs (all_numbers star spec text) ≡ true → errs (version_at star spec text) ≡ true
version_errs star spec text h = ap errs (version_is star spec text) ∙ errs_then (all_numbers star spec text) (as_version star spec) h

pub version_fault : (spec : Spec) (text : List ℕ) (cause : Cause) → version_at false spec text ≡ Err cause → Fault (range_kind spec) VersionText VersionText (version_at false spec) (version_at false spec) text cause
version_fault spec text cause h =
    let f = numbers_fault false spec text cause (version_failed false spec text cause h) in
    let done : Completes NumbersText [] VersionText = λ t ns c. ([], record { parts = ns }, version_is_text (t ++ []) ns (subst (λ t'. NumbersText t' ns) (sym (append-nil t)) c)) in
    fault_up (range_kind spec) NumbersText NumbersText (all_numbers false spec) (all_numbers false spec) VersionText VersionText (version_at false spec) (version_at false spec) [] done done
    text cause f refl (λ again e. version_errs false spec (f.front ++ again) e) (λ again e. version_errs false spec (f.front ++ again) e)

-- ---- the operand of `==`

-- a version, or one and `.*`
pub data EqualText : List ℕ → Range → Type 0 where
  whole : (v : Version) → is_version v.parts ≡ true → EqualText (version_text v.parts) (ranges.Equal v)
  front : (v : Version) → is_version v.parts ≡ true → EqualText (version_text v.parts ++ codes ".*") (ranges.Prefix v)

-- what follows the version
abbrev equal_end : Spec → Version × List ℕ → Result (Range × List ℕ) Cause
equal_end spec v = elim (byte_after 46 v.1) [ None ↦ Ok (ranges.Equal v.0, v.1) | Some star ↦ byte_due spec 42 star >>= λ rest. Ok (ranges.Prefix v.0, rest) ]

equal_is : (spec : Spec) (text : List ℕ) → equal_at spec text ≡ (version_at true spec text >>= equal_end spec)
unfolding equal_at
equal_is spec text = refl

end_whole : (spec : Spec) (v : Version) (rest : List ℕ) → begins_with 46 rest ≡ false → equal_end spec (v, rest) ≡ Ok (ranges.Equal v, rest)
end_whole spec v rest h =
    ap (λ (o : Option (List ℕ)). elim o [ None ↦ Ok (ranges.Equal v, rest) | Some star ↦ byte_due spec 42 star >>= λ rest'. Ok (ranges.Prefix v, rest') ]) (byte_gone 46 rest h)

end_front : (spec : Spec) (v : Version) (rest : List ℕ) → equal_end spec (v, 46 ∷ 42 ∷ rest) ≡ Ok (ranges.Prefix v, rest)
end_front spec v rest = refl

apart_star : (text rest : List ℕ) → Apart decimals (text ++ codes ".*") rest
apart_star text rest h = absurd (false≢true (sym (ends_behind is_ascii_digit text 46 (42 ∷ [])) ∙ h))

whole_text : (text : List ℕ) (v : Version) → VersionText text v → EqualText text (ranges.Equal v)
whole_text text v is = subst (λ t. EqualText t (ranges.Equal v)) (sym is.0) (whole v is.1)

front_text : (text : List ℕ) (v : Version) → VersionText text v → EqualText (text ++ codes ".*") (ranges.Prefix v)
front_text text v is = subst (λ t. EqualText (t ++ codes ".*") (ranges.Prefix v)) (sym is.0) (front v is.1)

read_as : (text : List ℕ) (a r : Range) (b rest start : List ℕ) → (let p : Result (Range × List ℕ) Cause = Ok (a, b) in let q : Result (Range × List ℕ) Cause = Ok (r, rest) in p ≡ q)
    → text ≡ start ++ b → EqualText start a → Apart decimals start b → Read EqualText (Apart decimals) text r rest
read_as text a r b rest start e is_text is apart =
    let same = ok_parts a r b rest e in
    record { front = start; whole = is_text ∙ ap (λ t. start ++ t) same.1; is = subst (EqualText start) same.0 is; apart = subst (Apart decimals start) same.1 apart }

pub equal_read : (spec : Spec) (text : List ℕ) (r : Range) (rest : List ℕ) → equal_at spec text ≡ Ok (r, rest) → Read EqualText (Apart decimals) text r rest
equal_read spec text r rest h = by (version_at true spec text) refl
  where
    at : (v : Version) (left : List ℕ) (f : NumbersRead true spec text v.parts left) → (begins_with 46 left ≡ false) ⊎ ((behind : List ℕ) × (true ≡ true) × (left ≡ 46 ∷ 42 ∷ behind))
        → equal_end spec (v, left) ≡ Ok (r, rest) → Read EqualText (Apart decimals) text r rest
    at v left f (inl other) e =
        let is = version_is_text f.read.front v.parts f.read.is in
        read_as text (ranges.Equal v) r left rest f.read.front (sym (end_whole spec v left other) ∙ e) f.read.whole (whole_text f.read.front v is) (λ _. apart_from left f.read.apart other)
    at v left f (inr p) e =
        let is = version_is_text f.read.front v.parts f.read.is in
        read_as text (ranges.Prefix v) r p.0 rest (f.read.front ++ codes ".*") (sym (end_front spec v p.0) ∙ ap (λ t. equal_end spec (v, t)) (sym p.2) ∙ e)
        (f.read.whole ∙ ap (λ t. f.read.front ++ t) p.2 ∙ sym (append_assoc f.read.front (codes ".*") p.0)) (front_text f.read.front v is) (apart_star f.read.front p.0)

    by : (o : Result (Version × List ℕ) Cause) → version_at true spec text ≡ o → Read EqualText (Apart decimals) text r rest
    by (Err why) q = absurd (cc (h, equal_is spec text, ap (λ o. o >>= equal_end spec) q))
    by (Ok p) q =
        let f = version_found true spec text p.0 p.1 q in
        at p.0 p.1 f (none_next true spec p.1 f.none) (sym (equal_is spec text ∙ ap (λ o. o >>= equal_end spec) q) ∙ h)

pub equal_reads : (spec : Spec) (text : List ℕ) (r : Range) (rest : List ℕ) → EqualText text r → Apart decimals text rest → equal_at spec (text ++ rest) ≡ Ok (r, rest)
equal_reads spec text r rest (whole v is) apart =
    let here : VersionText (version_text v.parts) v = (refl, is) in
    equal_is spec (version_text v.parts ++ rest)
    ∙ ap (λ o. o >>= equal_end spec) (version_whole true spec (version_text v.parts) v rest here apart)
    ∙ end_whole spec v rest (apart_parts rest (apart (version_last (version_text v.parts) v here))).1
equal_reads spec text r rest (front v is) apart =
    let here : VersionText (version_text v.parts) v = (refl, is) in
    ap (equal_at spec) (append_assoc (version_text v.parts) (codes ".*") rest)
    ∙ equal_is spec (version_text v.parts ++ 46 ∷ 42 ∷ rest)
    ∙ ap (λ o. o >>= equal_end spec) (version_made true spec (version_text v.parts) v (46 ∷ 42 ∷ rest) here refl (next_point true spec (42 ∷ rest)))
    ∙ end_front spec v rest

pub equal_fault : (spec : Spec) (text : List ℕ) (cause : Cause) → equal_at spec text ≡ Err cause → Fault (range_kind spec) EqualText EqualText (equal_at spec) (equal_at spec) text cause
equal_fault spec text cause h = by (version_at true spec text) refl
  where
    -- after the version there is no fault
    ends : (v : Version) (left : List ℕ) → (begins_with 46 left ≡ false) ⊎ ((behind : List ℕ) × (true ≡ true) × (left ≡ 46 ∷ 42 ∷ behind)) → equal_end spec (v, left) ≡ Err cause → ⊥
    ends v left (inl other) e = absurd (cc (e, end_whole spec v left other))
    ends v left (inr p) e = absurd (cc (e, p.2, end_front spec v p.0))

    up : (again : List ℕ) → errs (all_numbers true spec again) ≡ true → errs (equal_at spec again) ≡ true
    up again e = ap errs (equal_is spec again) ∙ errs_then (version_at true spec again) (equal_end spec) (version_errs true spec again e)

    done : Completes NumbersText [] EqualText
    done t ns c = ([], ranges.Equal (record { parts = ns }), subst (λ t'. EqualText t' (ranges.Equal (record { parts = ns }))) (sym (append-nil t)) (whole_text t (record { parts = ns }) (version_is_text t ns c)))

    by : (o : Result (Version × List ℕ) Cause) → version_at true spec text ≡ o → Fault (range_kind spec) EqualText EqualText (equal_at spec) (equal_at spec) text cause
    by (Ok p) q =
        let f = version_found true spec text p.0 p.1 q in
        absurd (ends p.0 p.1 (none_next true spec p.1 f.none) (sym (equal_is spec text ∙ ap (λ o. o >>= equal_end spec) q) ∙ h))
    by (Err why) q =
        let same : why ≡ cause = cc (h, equal_is spec text, ap (λ o. o >>= equal_end spec) q) in
        let f = numbers_fault true spec text cause (version_failed true spec text cause (q ∙ ap Err same)) in
        fault_up (range_kind spec) NumbersText NumbersText (all_numbers true spec) (all_numbers true spec) EqualText EqualText (equal_at spec) (equal_at spec) [] done done
        text cause f refl (λ again e. up (f.front ++ again) e) (λ again e. up (f.front ++ again) e)

-- ---- results of `number_at`

pub number_given : (spec : Spec) (text : List ℕ) (n : ℕ) (rest : List ℕ) → IsNumber n × (text ≡ decimal n ++ rest) × (begins_with_digit rest ≡ false) → number_at spec text ≡ Ok (n, rest)
number_given spec text n rest h = ap (number_at spec) h.1 ∙ number_reads spec (decimal n) n rest (refl, h.0) h.2

only_cause : (spec : Spec) (text : List ℕ) (cause : Cause) → number_at spec text ≡ Err cause → cause ≡ cause_at spec BadVersion text
unfolding number_at
only_cause spec text cause h = by (is_number (take (digits_in text) text)) refl
  where
    by : (t : Bool) → is_number (take (digits_in text) text) ≡ t → cause ≡ cause_at spec BadVersion text
    by true q = absurd (cc (rw q at h))
    by false q = cc (rw q at h)

pub number_missing : (spec : Spec) (text : List ℕ) → ((n : ℕ) (rest : List ℕ) → IsNumber n → text ≡ decimal n ++ rest → begins_with_digit rest ≡ true) → number_at spec text ≡ Err (cause_at spec BadVersion text)
number_missing spec text none = by (number_at spec text) refl
  where
    by : (o : Result (ℕ × List ℕ) Cause) → number_at spec text ≡ o → number_at spec text ≡ Err (cause_at spec BadVersion text)
    by (Ok p) q =
        let r = number_read spec text p.0 p.1 q in
        absurd (false≢true (sym r.apart ∙ none p.0 p.1 r.is.1 (r.whole ∙ ap (λ t. t ++ p.1) r.is.0)))
    by (Err cause) q = q ∙ ap Err (only_cause spec text cause q)
