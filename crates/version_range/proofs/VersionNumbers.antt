-- Shared: numbers and the texts of versions.
use Rattle.std.proofs.Common.{◌≡◌, ◌≢◌, ℕ, zero, suc, ◌+◌, ◌-◌, ◌*◌, ◌^◌, ◌<◌, ◌≤◌, Bool, true, false, List, [], ◌∷◌, ◌++◌, length, take, drop, get_or, refl, sym, ap, ◌∙◌, subst, arith, rules, append_assoc}
use Rattle.std.specs.List.{AllByRecursion}
use Rattle.std.specs.Fmt.{decimal}
use Rattle.std.specs.Str.{all_ascii_digits}
use Rattle.std.specs.Char.{is_ascii_digit}
use Rattle.std.specs.Int.{IsInRange}
use Rattle.std.proofs.lemmas.List.{append-nil, at_drop_more, take_more, take-append-drop}
use Rattle.std.proofs.Math.Nat.{pow-le-pow_right}
use Rattle.std.proofs.lemmas.Grind.{pow_more}
use Rattle.std.proofs.lemmas.Bool.{false≢true, and_parts, and_from, ltb-true, lt-ltb}
use Rattle.std.specs.Prelude.{nat_lt}
use Rattle.std.proofs.lemmas.Str.Parse.{IsNumeralModel, numerals_by_fold, digits_value_short, tells_all_ascii_digits}
use Rattle.std.proofs.lemmas.Fmt.{digits_decimal, decimal-digits_value, decimal_injective, decimal_nonempty, length-decimal-le, first_decimal, decimal_digit}
use Rattle.version_range.specs.Read.{digits_in}
use Rattle.version_range.specs.Version.{IsNumber, IsVersion, is_version, version_text, led_by_points, begins_with_digit, number_after}

own : IsNumeralModel (λ ds. all_ascii_digits ds ≡ true) (number_after 0)
own = numerals_by_fold _ (search rules) number_after (search rules)

-- the digits of a number are its text
pub numeral_text : (ds : List ℕ) → all_ascii_digits ds ≡ true → 0 < length ds → length ds ≤ 9 → (get_or ds 0 0 ≡ 48 → length ds ≡ 1) → IsNumber (number_after 0 ds) × (ds ≡ decimal (number_after 0 ds))
numeral_text ds all some few plain =
    let below : number_after 0 ds < 10 ^ 9 = digits_value_short own ds 9 all few in
    let fits : number_after 0 ds < 2 ^ 64 = omega arith in
    (below, sym (decimal-digits_value own ds all some plain fits))

pub decimal_digits : (n : ℕ) → IsNumber n → all_ascii_digits (decimal n) ≡ true
decimal_digits n h = digits_decimal own n (omega arith)

pub decimal_some : (n : ℕ) → IsNumber n → 0 < length (decimal n)
decimal_some n h = decimal_nonempty n (omega arith)

pub decimal_few : (n : ℕ) → IsNumber n → length (decimal n) ≤ 9
decimal_few n h = length-decimal-le 9 n (omega arith) h (omega arith)

pub decimal_plain : (n : ℕ) → IsNumber n → get_or (decimal n) 0 0 ≡ 48 → length (decimal n) ≡ 1
decimal_plain zero h e = ap length (decimal_digit 0 (omega arith))
decimal_plain (suc n) h e = let k : 48 < get_or (decimal (suc n)) 0 0 = first_decimal (suc n) (omega arith) (omega arith) in absurd (omega arith)

pub digit_front : (b : ℕ) (bs : List ℕ) → all_ascii_digits (b ∷ bs) ≡ true → IsInRange 48 57 b × (all_ascii_digits bs ≡ true)
digit_front b bs h = tells_all_ascii_digits.parts b bs h

digit_test : (b : ℕ) → IsInRange 48 57 b → is_ascii_digit b ≡ true
digit_test b h = search rules

pub all_push : (bs : List ℕ) (b : ℕ) → all_ascii_digits bs ≡ true → is_ascii_digit b ≡ true → all_ascii_digits (bs ++ b ∷ []) ≡ true
all_push [] b h d = search rules
all_push (x ∷ bs) b h d = let p = digit_front x bs h in tells_all_ascii_digits.more x (bs ++ b ∷ []) p.0 (all_push bs b p.1 d)

-- a text splits into leading digits and the rest in one way
pub one_cut : (as' bs xs ys : List ℕ) → all_ascii_digits as' ≡ true → all_ascii_digits bs ≡ true → begins_with_digit xs ≡ false → begins_with_digit ys ≡ false → as' ++ xs ≡ bs ++ ys → (as' ≡ bs) × (xs ≡ ys)
one_cut [] [] xs ys p q f g e = (refl, e)
one_cut [] (b ∷ bs) xs ys p q f g e = absurd (false≢true (sym f ∙ ap begins_with_digit e ∙ digit_test b (digit_front b bs q).0))
one_cut (a ∷ as') [] xs ys p q f g e = absurd (false≢true (sym g ∙ ap begins_with_digit (sym e) ∙ digit_test a (digit_front a as' p).0))
one_cut (a ∷ as') (b ∷ bs) xs ys p q f g e =
    let tails : as' ++ xs ≡ bs ++ ys = cc in
    let heads : a ≡ b = cc in
    let r = one_cut as' bs xs ys (digit_front a as' p).1 (digit_front b bs q).1 f g tails in
    (cc (heads, r.0), r.1)

-- the number at the start of a text is unique
pub one_number : (m n : ℕ) (xs ys : List ℕ) → IsNumber m → IsNumber n → begins_with_digit xs ≡ false → begins_with_digit ys ≡ false → decimal m ++ xs ≡ decimal n ++ ys → (m ≡ n) × (xs ≡ ys)
one_number m n xs ys hm hn f g e =
    let r = one_cut (decimal m) (decimal n) xs ys (decimal_digits m hm) (decimal_digits n hn) f g e in
    (decimal_injective m n (omega arith) (omega arith) r.0, r.1)

-- numbers, each followed by a point
abbrev pub pointed : List ℕ → List ℕ
pointed [] = []
pointed (n ∷ ns) = decimal n ++ 46 ∷ pointed ns

pub pointed_more : (ns : List ℕ) (n : ℕ) → pointed (ns ++ n ∷ []) ≡ pointed ns ++ (decimal n ++ 46 ∷ [])
pointed_more [] n = refl
pointed_more (m ∷ ns) n = ap (λ t. decimal m ++ 46 ∷ t) (pointed_more ns n) ∙ sym (append_assoc (decimal m) (46 ∷ pointed ns) (decimal n ++ 46 ∷ []))

pub pointed_last : (ns : List ℕ) (n : ℕ) → version_text (ns ++ n ∷ []) ≡ pointed ns ++ decimal n
pointed_last [] n = refl
pointed_last (m ∷ []) n = sym (append_assoc (decimal m) (46 ∷ []) (decimal n))
pointed_last (m ∷ k ∷ ns) n = ap (λ t. decimal m ++ 46 ∷ t) (pointed_last (k ∷ ns) n) ∙ sym (append_assoc (decimal m) (46 ∷ pointed (k ∷ ns)) (decimal n))

pub text_led : (n : ℕ) (ns : List ℕ) → version_text (n ∷ ns) ≡ decimal n ++ led_by_points ns
text_led n [] = sym (append-nil (decimal n))
text_led n (k ∷ ns) = ap (λ t. decimal n ++ 46 ∷ t) (text_led k ns)

pub led_more : (ns : List ℕ) (n : ℕ) → led_by_points (ns ++ n ∷ []) ≡ led_by_points ns ++ (46 ∷ decimal n)
led_more [] n = ap (λ t. 46 ∷ t) (append-nil (decimal n))
led_more (m ∷ ns) n = ap (λ t. 46 ∷ (decimal m ++ t)) (led_more ns n) ∙ ap (λ t. 46 ∷ t) (sym (append_assoc (decimal m) (led_by_points ns) (46 ∷ decimal n)))

pub led_step : (old text more : List ℕ) (i : ℕ) → i < length more → text ≡ old ++ led_by_points (take i more) → (text ++ 46 ∷ []) ++ decimal (get_or more i 0) ≡ old ++ led_by_points (take (i + 1) more)
led_step old text more i h e =
    ap (λ t. (t ++ 46 ∷ []) ++ decimal (get_or more i 0)) e
    ∙ append_assoc (old ++ led_by_points (take i more)) (46 ∷ []) (decimal (get_or more i 0))
    ∙ append_assoc old (led_by_points (take i more)) (46 ∷ decimal (get_or more i 0))
    ∙ ap (λ t. old ++ t) (sym (led_more (take i more) (get_or more i 0)) ∙ ap led_by_points (sym (take_more more i 0 h)))

-- one more digit
pub number_step : (ds : List ℕ) (i number digit : ℕ) → i < length ds → length ds ≤ 9 → digit ≡ get_or ds i 0 - 48 → number_after number (drop i ds) ≡ number_after 0 ds → number < 10 ^ i → all_ascii_digits (drop i ds) ≡ true → (number_after (10 * number + digit) (drop (i + 1) ds) ≡ number_after 0 ds) × (10 * number + digit < 10 ^ (i + 1)) × (all_ascii_digits (drop (i + 1) ds) ≡ true)
number_step ds i number digit within few d e small all =
    let seen = digit_front (get_or ds i 0) (drop (i + 1) ds) (sym (at_drop_more all_ascii_digits ds i 0 within) ∙ all) in
    let ten : 10 ^ (i + 1) ≡ 10 ^ i * 10 = pow_more 10 i in
    (ap (λ x. number_after (10 * number + x) (drop (i + 1) ds)) d ∙ sym (at_drop_more (number_after number) ds i 0 within) ∙ e, omega (arith, ten, seen.0.0, seen.0.1), seen.1)

pub number_small : (i number : ℕ) → i < 9 → number < 10 ^ i → number < 10 ^ 8
number_small i number h k = let le : 10 ^ i ≤ 10 ^ 8 = pow-le-pow_right {n = 10} (omega arith) {i = i} {j = 8} (omega arith) in omega arith

pub digit_here : (ds : List ℕ) (i : ℕ) → i < length ds → all_ascii_digits (drop i ds) ≡ true → IsInRange 48 57 (get_or ds i 0)
digit_here ds i within all = (digit_front (get_or ds i 0) (drop (i + 1) ds) (sym (at_drop_more all_ascii_digits ds i 0 within) ∙ all)).0

pub numbers_last : (ns : List ℕ) (n : ℕ) → AllByRecursion IsNumber ns → IsNumber n → IsVersion (ns ++ n ∷ [])
numbers_last [] n h k = k
numbers_last (m ∷ []) n h k = (h.0, k)
numbers_last (m ∷ l ∷ ns) n h k = (h.0, numbers_last (l ∷ ns) n h.1 k)

pub numbers_more : (ns : List ℕ) (n : ℕ) → AllByRecursion IsNumber ns → IsNumber n → AllByRecursion IsNumber (ns ++ n ∷ [])
numbers_more [] n h k = (k, tt)
numbers_more (m ∷ ns) n h k = (h.0, numbers_more ns n h.1 k)

-- if a version's text begins with these numbers, so does the version
pub behind : (ps qs rest : List ℕ) → AllByRecursion IsNumber ps → IsVersion qs → pointed ps ++ rest ≡ version_text qs → (tail : List ℕ) × IsVersion tail × (qs ≡ ps ++ tail) × (rest ≡ version_text tail)
behind [] qs rest h v e = (qs, v, refl, e)
behind (p ∷ ps) [] rest h v e = absurd v
behind (p ∷ ps) (q ∷ []) rest h v e =
    let at : decimal p ++ (46 ∷ (pointed ps ++ rest)) ≡ decimal q ++ [] = sym (append_assoc (decimal p) (46 ∷ pointed ps) rest) ∙ e ∙ sym (append-nil (decimal q)) in
    let r = one_number p q (46 ∷ (pointed ps ++ rest)) [] h.0 v refl refl at in
    absurd (cc r.1)
behind (p ∷ ps) (q ∷ r ∷ qs) rest h v e =
    let at : decimal p ++ (46 ∷ (pointed ps ++ rest)) ≡ decimal q ++ (46 ∷ version_text (r ∷ qs)) = sym (append_assoc (decimal p) (46 ∷ pointed ps) rest) ∙ e in
    let o = one_number p q (46 ∷ (pointed ps ++ rest)) (46 ∷ version_text (r ∷ qs)) h.0 v.0 refl refl at in
    let tails : pointed ps ++ rest ≡ version_text (r ∷ qs) = cc o.1 in
    let b = behind ps (r ∷ qs) rest h.1 v.1 tails in
    (b.0, b.1, cc (o.0, b.2), b.3)

-- `version_text` is injective
pub one_version : (as' bs : List ℕ) → IsVersion as' → IsVersion bs → version_text as' ≡ version_text bs → as' ≡ bs
one_version [] bs v w e = absurd v
one_version (a ∷ []) [] v w e = absurd w
one_version (a ∷ b ∷ as') [] v w e = absurd w
one_version (a ∷ []) (c ∷ []) v w e = ap (λ n. n ∷ []) (decimal_injective a c (omega arith) (omega arith) e)
one_version (a ∷ []) (c ∷ d ∷ bs) v w e =
    let at : decimal a ++ [] ≡ decimal c ++ (46 ∷ version_text (d ∷ bs)) = append-nil (decimal a) ∙ e in
    absurd (cc (one_number a c [] (46 ∷ version_text (d ∷ bs)) v w.0 refl refl at).1)
one_version (a ∷ b ∷ as') (c ∷ []) v w e =
    let at : decimal a ++ (46 ∷ version_text (b ∷ as')) ≡ decimal c ++ [] = e ∙ sym (append-nil (decimal c)) in
    absurd (cc (one_number a c (46 ∷ version_text (b ∷ as')) [] v.0 w refl refl at).1)
one_version (a ∷ b ∷ as') (c ∷ d ∷ bs) v w e =
    let o = one_number a c (46 ∷ version_text (b ∷ as')) (46 ∷ version_text (d ∷ bs)) v.0 w.0 refl refl e in
    let tails : version_text (b ∷ as') ≡ version_text (d ∷ bs) = cc o.1 in
    let t = one_version (b ∷ as') (d ∷ bs) v.1 w.1 tails in
    cc (o.0, t)

-- if no number can be read, no version follows
pub no_number : (rest tail : List ℕ) → ((n : ℕ) (after : List ℕ) → IsNumber n → rest ≡ decimal n ++ after → begins_with_digit after ≡ true) → IsVersion tail → rest ≡ version_text tail → ⊥
no_number rest [] none v e = v
no_number rest (n ∷ []) none v e = false≢true (none n [] v (e ∙ sym (append-nil (decimal n))))
no_number rest (n ∷ m ∷ ns) none v e = false≢true (none n (46 ∷ version_text (m ∷ ns)) v.0 e)

-- in a version, only a point follows a number
pub no_other : (n : ℕ) (after tail : List ℕ) → IsNumber n → begins_with_digit after ≡ false → after ≢ [] → ((more : List ℕ) → after ≢ 46 ∷ more) → IsVersion tail → decimal n ++ after ≡ version_text tail → ⊥
no_other n after [] h d some ne v e = v
no_other n after (m ∷ []) h d some ne v e = some (one_number n m after [] h v d refl (e ∙ sym (append-nil (decimal m)))).1
no_other n after (m ∷ k ∷ ns) h d some ne v e = ne (version_text (k ∷ ns)) (one_number n m after (46 ∷ version_text (k ∷ ns)) h v.0 d refl e).1

module _ (text : List ℕ) (ps : List ℕ) (rest : List ℕ) (read : (text ≡ pointed ps ++ rest) × AllByRecursion IsNumber ps) where
  pub refused_number : ((n : ℕ) (after : List ℕ) → IsNumber n → rest ≡ decimal n ++ after → begins_with_digit after ≡ true) → (qs : List ℕ) → IsVersion qs → text ≢ version_text qs
  refused_number none qs v e = let b = behind ps qs rest read.1 v (sym read.0 ∙ e) in no_number rest b.0 none b.1 b.3

  module _ (n : ℕ) (after : List ℕ) (found : IsNumber n × (rest ≡ decimal n ++ after) × (begins_with_digit after ≡ false)) where
    pub refused_other : after ≢ [] → ((more : List ℕ) → after ≢ 46 ∷ more) → (qs : List ℕ) → IsVersion qs → text ≢ version_text qs
    refused_other some ne qs v e =
        let b = behind ps qs rest read.1 v (sym read.0 ∙ e) in
        no_other n after b.0 found.0 found.2 some ne b.1 (sym found.1 ∙ b.3)

    module _ (new : List ℕ) (pushed : new ≡ ps ++ n ∷ []) where
      pub read_last : after ≡ [] → IsVersion new × (text ≡ version_text new)
      read_last e = (
        subst IsVersion (sym pushed) (numbers_last ps n read.1 found.0),
        read.0 ∙ ap (λ t. pointed ps ++ t) (found.1 ∙ ap (λ t. decimal n ++ t) e ∙ append-nil (decimal n)) ∙ sym (pointed_last ps n) ∙ ap version_text (sym pushed),
      )

      pub read_more : (more : List ℕ) → after ≡ 46 ∷ more → (text ≡ pointed new ++ more) × AllByRecursion IsNumber new
      read_more more e = (
        read.0 ∙ ap (λ t. pointed ps ++ t) (found.1 ∙ ap (λ t. decimal n ++ t) e ∙ sym (append_assoc (decimal n) (46 ∷ []) more)) ∙ sym (append_assoc (pointed ps) (decimal n ++ 46 ∷ []) more) ∙ ap (λ t. t ++ more) (sym (pointed_more ps n) ∙ ap pointed (sym pushed)),
        subst (AllByRecursion IsNumber) (sym pushed) (numbers_more ps n read.1 found.0),
      )

pub only_version : (text new : List ℕ) → IsVersion new → text ≡ version_text new → (qs : List ℕ) → IsVersion qs → text ≡ version_text qs → new ≡ qs
only_version text new v e qs w f = one_version new qs v w (sym e ∙ f)

-- leading digits that are no number
-- a text and its two parts, cut at an index
pub cut_at : (text : List ℕ) (n : ℕ) {front back : List ℕ} → front ≡ take n text → back ≡ drop n text → text ≡ front ++ back
cut_at text n f b = sym (take-append-drop n text) ∙ sym (λ i. f i ++ b i)

pub not_number : (text digits rest : List ℕ) → text ≡ digits ++ rest → all_ascii_digits digits ≡ true → begins_with_digit rest ≡ false → ((0 < length digits) × (length digits ≤ 9) × (get_or digits 0 0 ≡ 48 → length digits ≡ 1) → ⊥) → (n : ℕ) (after : List ℕ) → IsNumber n → text ≡ decimal n ++ after → begins_with_digit after ≡ true
not_number text digits rest e all end none n after h f = by (begins_with_digit after) refl
  where
    by : (b : Bool) → begins_with_digit after ≡ b → b ≡ true
    by true q = refl
    by false q =
        let same = (one_cut (decimal n) digits after rest (decimal_digits n h) all q end (sym f ∙ e)).0 in
        absurd (none (subst (λ ds. (0 < length ds) × (length ds ≤ 9) × (get_or ds 0 0 ≡ 48 → length ds ≡ 1)) same (decimal_some n h, decimal_few n h, decimal_plain n h)))

pub is_number : (text digits rest : List ℕ) (n : ℕ) → text ≡ digits ++ rest → all_ascii_digits digits ≡ true → begins_with_digit rest ≡ false → (0 < length digits) × (length digits ≤ 9) × (get_or digits 0 0 ≡ 48 → length digits ≡ 1) → n ≡ number_after 0 digits → IsNumber n × (text ≡ decimal n ++ rest) × (begins_with_digit rest ≡ false)
is_number text digits rest n e all end ok value =
    let t = numeral_text digits all ok.0 ok.1 ok.2 in
    (subst IsNumber (sym value) t.0, e ∙ ap (λ ds. ds ++ rest) (t.1 ∙ ap decimal (sym value)), end)

-- the test of a version
pub version_from : (ps : List ℕ) → is_version ps ≡ true → IsVersion ps
version_from [] h = absurd (false≢true h)
version_from (n ∷ []) h = ltb-true n (10 ^ 9) h
version_from (n ∷ m ∷ ns) h = let p = and_parts (nat_lt n (10 ^ 9)) (is_version (m ∷ ns)) h in (ltb-true n (10 ^ 9) p.0, version_from (m ∷ ns) p.1)

pub version_to : (ps : List ℕ) → IsVersion ps → is_version ps ≡ true
version_to [] h = absurd h
version_to (n ∷ []) h = lt-ltb n (10 ^ 9) h
version_to (n ∷ m ∷ ns) h = and_from (nat_lt n (10 ^ 9)) (is_version (m ∷ ns)) (lt-ltb n (10 ^ 9) h.0) (version_to (m ∷ ns) h.1)

pub count_is : (bs : List ℕ) (n : ℕ) → n ≤ length bs → all_ascii_digits (take n bs) ≡ true → begins_with_digit (drop n bs) ≡ false → n ≡ digits_in bs
count_is [] n le all end = omega (arith, le)
count_is (b ∷ bs) zero le all end = rw end refl
count_is (b ∷ bs) (suc n) le all end =
    let d = digit_front b (take n bs) all in
    let k = count_is bs n (omega (arith, le)) d.1 end in
    rw (digit_test b d.0) (omega (arith, k))
