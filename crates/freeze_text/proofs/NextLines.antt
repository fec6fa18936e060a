-- The lines of a text behind another that ends its last line.
use Rattle.std.proofs.Common.{◌≡◌, ℕ, ◌+◌, ◌-◌, ◌<◌, true, false, cond, List, [], ◌∷◌, ◌++◌, length, take, drop, map, refl, sym, ap, ◌∙◌, subst, inl, inr, append_assoc, append-nil, length-append, arith}
use Rattle.std.specs.Prelude.{◌==◌, nat_eq, if◌then◌else◌}
use Rattle.std.specs.List.{ends_with, onto_first, slice_split, starts_with}
use Rattle.std.specs.Cmp.Lexicographic.{pointwise}
use Rattle.std.specs.Str.{IsUtf8}
use Rattle.std.specs.Str.Lines.{lines, lines_of_parts, strip_carriage_return}
use Rattle.std.proofs.lemmas.Bool.{and_parts, eqb-true, false≢true, or_cases}
use Rattle.std.proofs.lemmas.Bool.Decides.{nat_tests}
use Rattle.std.proofs.lemmas.List.{take-append-drop}
use Rattle.std.proofs.lemmas.List.Splits.{length-slice_split}
use Rattle.std.proofs.lemmas.Str.{IsUtf8-append, IsUtf8-from_ascii}
use Rattle.std.proofs.lemmas.Str.Ascii.{IsAscii-cons, IsAscii-nil}
use Rattle.cabal_lexer.specs.Lines.{Line, indent, is_comment, is_kept, kept_from, kept_line, kept_lines, mark, trim, trim_end, trim_start, without_mark}
use Rattle.cabal_lexer.specs.RoundTrip.{ends_with_return}
use Rattle.cabal_lexer.proofs.CanonicalLines.{BeginsAscii, kept_from-append, return-cons, without_mark-ascii}
use Rattle.freeze_text.specs.Text.{with_newline, ends_with_newline}

-- ---- cut at newlines

abbrev cut : List ℕ → List (List ℕ)
cut text = slice_split (λ b. b == 10) text

abbrev stripped : List (List ℕ) → List (List ℕ)
stripped parts = map strip_carriage_return parts

some-cut : (text : List ℕ) → 0 < length (cut text)
some-cut text = omega (arith, length-slice_split (λ b. b == 10) text)

first-onto : (b : ℕ) (xs ys : List (List ℕ)) → 0 < length xs → onto_first b (xs ++ ys) ≡ onto_first b xs ++ ys
first-onto b [] ys l = absurd (omega arith)
first-onto b (x ∷ xs) ys l = refl

cut-behind : (x y : List ℕ) → cut (x ++ 10 ∷ y) ≡ cut x ++ cut y
cut-behind [] y = refl
cut-behind (b ∷ x) y =
    elim (b == 10) as (λ t. cond t ([] ∷ cut (x ++ 10 ∷ y)) (onto_first b (cut (x ++ 10 ∷ y))) ≡ cond t ([] ∷ cut x) (onto_first b (cut x)) ++ cut y) [
      | true ↦ ap (λ parts. [] ∷ parts) (cut-behind x y)
      | false ↦ ap (onto_first b) (cut-behind x y) ∙ first-onto b (cut x) (cut y) (some-cut x)
    ]

parts-cons : (x : List ℕ) (parts : List (List ℕ)) → 0 < length parts → lines_of_parts (x ∷ parts) ≡ strip_carriage_return x ∷ lines_of_parts parts
parts-cons x [] l = absurd (omega arith)
parts-cons x (y ∷ more) l = refl

parts-behind : (xs ys : List (List ℕ)) → 0 < length ys → lines_of_parts (xs ++ ys) ≡ stripped xs ++ lines_of_parts ys
parts-behind [] ys l = refl
parts-behind (x ∷ xs) ys l =
    parts-cons x (xs ++ ys) (omega (arith, length-append xs ys)) ∙ ap (λ parts. strip_carriage_return x ∷ parts) (parts-behind xs ys l)

lines-behind : (x y : List ℕ) → lines (x ++ 10 ∷ y) ≡ stripped (cut x) ++ lines y
lines-behind x y = ap lines_of_parts (cut-behind x y) ∙ parts-behind (cut x) (cut y) (some-cut y)

-- ---- the byte-order mark

mark-behind : (x y : List ℕ) → without_mark (x ++ 10 ∷ y) ≡ without_mark x ++ 10 ∷ y
unfolding without_mark
mark-behind [] y = without_mark-ascii (10 ∷ y) (omega arith)
mark-behind (a ∷ []) y =
    let no : starts_with nat_eq (a ∷ 10 ∷ y) mark ≡ false = grind (arith, nat_tests) in
    let none : starts_with nat_eq (a ∷ []) mark ≡ false = grind (arith, nat_tests) in
    ap (λ t. if t then drop 3 (a ∷ 10 ∷ y) else a ∷ 10 ∷ y) no ∙ sym (ap (λ t. (if t then drop 3 (a ∷ []) else a ∷ []) ++ 10 ∷ y) none)
mark-behind (a ∷ b ∷ []) y =
    let no : starts_with nat_eq (a ∷ b ∷ 10 ∷ y) mark ≡ false = grind (arith, nat_tests) in
    let none : starts_with nat_eq (a ∷ b ∷ []) mark ≡ false = grind (arith, nat_tests) in
    ap (λ t. if t then drop 3 (a ∷ b ∷ 10 ∷ y) else a ∷ b ∷ 10 ∷ y) no ∙ sym (ap (λ t. (if t then drop 3 (a ∷ b ∷ []) else a ∷ b ∷ []) ++ 10 ∷ y) none)
mark-behind (a ∷ b ∷ c ∷ x) y =
    elim (starts_with nat_eq (a ∷ b ∷ c ∷ x) mark) as (λ t. (if t then drop 3 (a ∷ b ∷ c ∷ (x ++ 10 ∷ y)) else a ∷ b ∷ c ∷ (x ++ 10 ∷ y)) ≡ (if t then drop 3 (a ∷ b ∷ c ∷ x) else a ∷ b ∷ c ∷ x) ++ 10 ∷ y) [
      | true ↦ refl
      | false ↦ refl
    ]

-- ---- a carriage return at the end of the last line is no part of a line end

abbrev EndsPlainly : List (List ℕ) → Type 0
EndsPlainly [] = Unit {0}
EndsPlainly (x ∷ []) = ends_with_return x ≡ false
EndsPlainly (x ∷ y ∷ more) = EndsPlainly (y ∷ more)

plainly-more : (x : List ℕ) (parts : List (List ℕ)) → 0 < length parts → EndsPlainly parts → EndsPlainly (x ∷ parts)
plainly-more x [] l h = absurd (omega arith)
plainly-more x (y ∷ more) l h = h

plainly-less : (x : List ℕ) (parts : List (List ℕ)) → 0 < length parts → EndsPlainly (x ∷ parts) → EndsPlainly parts
plainly-less x [] l h = absurd (omega arith)
plainly-less x (y ∷ more) l h = h

plainly-onto : (a b : ℕ) (parts : List (List ℕ)) → EndsPlainly (onto_first b parts) → EndsPlainly (onto_first a (onto_first b parts))
plainly-onto a b [] h = return-cons a b [] ∙ h
plainly-onto a b (x ∷ []) h = return-cons a b x ∙ h
plainly-onto a b (x ∷ y ∷ more) h = h

empty-plainly : ends_with_return [] ≡ false
unfolding ends_with_return
empty-plainly = refl

cut-plainly : (x : List ℕ) → ends_with_return x ≡ false → EndsPlainly (cut x)
cut-plainly [] h = h
cut-plainly (a ∷ []) h = elim (a == 10) as (λ t. EndsPlainly (cond t ([] ∷ [] ∷ []) ((a ∷ []) ∷ []))) [ true ↦ empty-plainly | false ↦ h ]
cut-plainly (a ∷ b ∷ x) h =
    let rest = cut-plainly (b ∷ x) (sym (return-cons a b x) ∙ h) in
    elim (a == 10) as (λ t. EndsPlainly (cond t ([] ∷ cut (b ∷ x)) (onto_first a (cut (b ∷ x))))) [
      | true ↦ plainly-more [] (cut (b ∷ x)) (some-cut (b ∷ x)) rest
      | false ↦ elim (b == 10) as (λ t. EndsPlainly (cond t ([] ∷ cut x) (onto_first b (cut x))) → EndsPlainly (onto_first a (cond t ([] ∷ cut x) (onto_first b (cut x))))) [
        | true ↦ λ is. plainly-more (a ∷ []) (cut x) (some-cut x) (plainly-less [] (cut x) (some-cut x) is)
        | false ↦ λ is. plainly-onto a b (cut x) is
      ] rest
    ]

strip-plainly : (x : List ℕ) → ends_with_return x ≡ false → strip_carriage_return x ≡ x
unfolding ends_with_return
strip-plainly x h = ap (λ t. if t then take (length x - 1) x else x) h

none-kept : (k : ℕ) → kept_line k [] ≡ []
unfolding kept_line is_kept is_comment trim trim_end trim_start indent
none-kept k = refl

kept-plainly : (k : ℕ) (parts : List (List ℕ)) → EndsPlainly parts → kept_from k (lines_of_parts parts) ≡ kept_from k (stripped parts)
kept-plainly k [] h = refl
kept-plainly k ([] ∷ []) h = sym (ap (λ x. kept_line k x ++ []) (strip-plainly [] h) ∙ ap (λ l. l ++ []) (none-kept k))
kept-plainly k ((b ∷ x) ∷ []) h =
    let some : (length (b ∷ x) == 0) ≡ false = grind (arith, nat_tests) in
    ap (λ t. kept_from k (if t then [] else (b ∷ x) ∷ [])) some ∙ sym (ap (λ y. kept_line k y ++ []) (strip-plainly (b ∷ x) h))
kept-plainly k (x ∷ y ∷ more) h = ap (λ l. kept_line k (strip_carriage_return x) ++ l) (kept-plainly (k + 1) (y ∷ more) h)

return-past : (x : List ℕ) → ends_with_return x ≡ false → ends_with_return (drop 3 x) ≡ false
return-past [] h = h
return-past (a ∷ []) h = empty-plainly
return-past (a ∷ b ∷ []) h = empty-plainly
return-past (a ∷ b ∷ c ∷ []) h = empty-plainly
return-past (a ∷ b ∷ c ∷ d ∷ x) h = sym (return-cons c d x) ∙ sym (return-cons b c (d ∷ x)) ∙ sym (return-cons a b (c ∷ d ∷ x)) ∙ h

return-unmarked : (x : List ℕ) → ends_with_return x ≡ false → ends_with_return (without_mark x) ≡ false
unfolding without_mark
return-unmarked x h = elim (starts_with nat_eq x mark) as (λ t. ends_with_return (if t then drop 3 x else x) ≡ false) [ true ↦ return-past x h | false ↦ h ]

-- ---- kept lines

-- The kept lines of two texts are those of both, one behind the other. Those of the second are numbered from a later line.
pub record AreBehind (before text : List ℕ) : Type 0 where
  pub first : ℕ
  pub are : kept_lines (with_newline before ++ text) ≡ kept_lines before ++ kept_from first (lines text)

abbrev kept_before : List ℕ → List Line
kept_before x = kept_from 1 (stripped (cut (without_mark x)))

kept-behind : (x text : List ℕ) → kept_lines (x ++ 10 ∷ text) ≡ kept_before x ++ kept_from (1 + length (stripped (cut (without_mark x)))) (lines text)
kept-behind x text =
    ap (λ m. kept_from 1 (lines m)) (mark-behind x text) ∙ ap (kept_from 1) (lines-behind (without_mark x) text) ∙ kept_from-append 1 (stripped (cut (without_mark x))) (lines text)

newline-is : (l : List ℕ) → pointwise nat_eq (10 ∷ []) l ≡ true → l ≡ 10 ∷ []
newline-is [] h = absurd (false≢true h)
newline-is (b ∷ []) h = ap (λ n. n ∷ []) (sym (eqb-true 10 b (and_parts (nat_eq 10 b) true h).0))
newline-is (b ∷ c ∷ l) h = absurd (false≢true (and_parts (nat_eq 10 b) false h).1)

none-is : (x : List ℕ) → (length x == 0) ≡ true → x ≡ []
none-is [] h = refl
none-is (b ∷ x) h = absurd (grind (arith, nat_tests))

-- a text that ends with a newline
front-is : (x : List ℕ) → ends_with nat_eq x (10 ∷ []) ≡ true → x ≡ take (length x - 1) x ++ 10 ∷ []
front-is x h = sym (take-append-drop (length x - 1) x) ∙ ap (λ l. take (length x - 1) x ++ l) (newline-is (drop (length x - 1) x) h)

module _ (text : List ℕ) (ascii : BeginsAscii text) where
  behind-none : kept_lines text ≡ kept_lines [] ++ kept_from 1 (lines text)
  unfolding without_mark
  behind-none = ap (λ t. kept_from 1 (lines t)) (without_mark-ascii text ascii)

  behind-ended : (x : List ℕ) → kept_lines ((x ++ 10 ∷ []) ++ text) ≡ kept_lines (x ++ 10 ∷ []) ++ kept_from (1 + length (stripped (cut (without_mark x)))) (lines text)
  behind-ended x =
      ap kept_lines (append_assoc x (10 ∷ []) text) ∙ kept-behind x text
      ∙ ap (λ l. l ++ kept_from (1 + length (stripped (cut (without_mark x)))) (lines text)) (sym (kept-behind x [] ∙ append-nil (kept_before x)))

  behind-open : (x : List ℕ) → ends_with_return x ≡ false → kept_lines ((x ++ 10 ∷ []) ++ text) ≡ kept_lines x ++ kept_from (1 + length (stripped (cut (without_mark x)))) (lines text)
  behind-open x plainly =
      ap kept_lines (append_assoc x (10 ∷ []) text) ∙ kept-behind x text
      ∙ ap (λ l. l ++ kept_from (1 + length (stripped (cut (without_mark x)))) (lines text))
      (sym (kept-plainly 1 (cut (without_mark x)) (cut-plainly (without_mark x) (return-unmarked x plainly))))

  pub behind : (before : List ℕ) → ends_with_return before ≡ false → AreBehind before text
  behind before plainly =
      elim (ends_with_newline before) as (λ t. ends_with_newline before ≡ t → AreBehind before text) [
        | true ↦ λ is. elim (or_cases (length before == 0) (ends_with nat_eq before (10 ∷ [])) is) [
          | inl none ↦ subst (λ b. AreBehind b text) (sym (none-is before none)) (record { first = 1; are = behind-none })
          | inr newline ↦
              let x = take (length before - 1) before in
              let whole = front-is before newline in
              record {
                first = 1 + length (stripped (cut (without_mark x)));
                are = ap (λ t. kept_lines ((if t then before else before ++ 10 ∷ []) ++ text)) is
                    ∙ ap (λ b. kept_lines (b ++ text)) whole ∙ behind-ended x
                    ∙ ap (λ b. kept_lines b ++ kept_from (1 + length (stripped (cut (without_mark x)))) (lines text)) (sym whole);
              }
        ]
        | false ↦ λ no. record {
          first = 1 + length (stripped (cut (without_mark before)));
          are = ap (λ t. kept_lines ((if t then before else before ++ 10 ∷ []) ++ text)) no ∙ behind-open before plainly;
        }
      ] refl

-- ---- its bytes

pub ended-utf8 : (before : List ℕ) → IsUtf8 before → IsUtf8 (with_newline before)
ended-utf8 before h = elim (ends_with_newline before) as (λ t. IsUtf8 (if t then before else before ++ 10 ∷ [])) [
  | true ↦ h
  | false ↦ IsUtf8-append before (10 ∷ []) h (IsUtf8-from_ascii (10 ∷ []) (IsAscii-cons 10 [] (omega arith) IsAscii-nil))
]
