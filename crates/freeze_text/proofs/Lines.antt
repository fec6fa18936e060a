-- The lines of the text of constraints.
use Rattle.std.proofs.Common.{◌≡◌, ℕ, ◌+◌, ◌<◌, Bool, true, false, cond, not, ◌&&◌, List, [], ◌∷◌, ◌++◌, length, map, refl, sym, ap, ◌∙◌, subst, append_assoc, append-nil, arith}
use Rattle.std.specs.Prelude.{◌==◌, codes, reverse, slice_index, if◌then◌else◌}
use Rattle.std.specs.List.{list_all, prefix_len, AllByRecursion}
use Rattle.std.specs.Str.{IsAscii, IsUtf8}
use Rattle.std.specs.Str.Lines.{lines}
use Rattle.std.proofs.lemmas.Bool.{and_parts, and_from, false≢true}
use Rattle.std.proofs.lemmas.Bool.Decides.{nat_tests}
use Rattle.std.proofs.lemmas.List.{reverse-append}
use Rattle.std.proofs.lemmas.List.Folds.{list_all-append}
use Rattle.std.proofs.lemmas.Str.{IsUtf8-append, IsUtf8-nil, IsUtf8-from_ascii}
use Rattle.std.proofs.lemmas.Str.Ascii.{IsAscii-nil, IsAscii-cons}
use Rattle.plan_types.specs.Bytes.{is_blank}
use Rattle.plan_types.specs.declared.constraint.Constraint.{Constraint}
use Rattle.plan_types.specs.Name.{is_letter_or_digit}
use Rattle.common_laws.specs.Lists.{all-at, all-where}
use Rattle.cabal_lexer.specs.Lines.{Line, indent, is_comment, is_kept, kept_from, kept_line, kept_lines, trim, trim_end, trim_start}
use Rattle.cabal_lexer.specs.RoundTrip.{ends_with_return}
use Rattle.cabal_lexer.proofs.TextPieces.{OneLine, Piece}
use Rattle.cabal_lexer.proofs.CanonicalLines.{AllClean, Clean, joined, kept_line-printed, line_of, lines-joined, return-cons, utf8-joined, without_mark-ascii}
use Rattle.freeze_text.specs.Reads.{IsPlainConstraint}
use Rattle.freeze_text.specs.Text.{constraint_text, end_text, freeze_text, line_text, lines_text}
use Rattle.freeze_text.proofs.Plain.{constraint-plain, is_plain_byte, no-newline, no-return, plain-ascii, without-byte}
use Rattle.freeze_text.proofs.Solid.{Ends, constraint-begins, constraint-ends, ends-more}
use Rattle.freeze_text.proofs.Cut.{value_text, values}

abbrev indented : List ℕ → List ℕ
indented value = codes "    " ++ value

abbrev pub header : List ℕ
header = codes "constraints:"

comma-end : (last : Bool) → (if last then [] else codes ",") ++ 10 ∷ [] ≡ end_text last
comma-end true = refl
comma-end false = refl

line-is : (c : Constraint) (last : Bool) → line_text c last ≡ indented (value_text c last) ++ 10 ∷ []
line-is c last =
    ap (λ t. codes "    " ++ (constraint_text c ++ t)) (sym (comma-end last)) ∙ ap (λ t. codes "    " ++ t) (sym (append_assoc (constraint_text c) (if last then [] else codes ",") (10 ∷ [])))

lines-are : (constraints : List Constraint) → lines_text constraints ≡ joined (map indented (values constraints))
lines-are [] = refl
lines-are (c ∷ constraints) =
    ap (λ t. t ++ lines_text constraints) (line-is c (length constraints == 0)) ∙ ap (λ t. (indented (value_text c (length constraints == 0)) ++ 10 ∷ []) ++ t) (lines-are constraints)

pub text-is : (c : Constraint) (constraints : List Constraint) → freeze_text (c ∷ constraints) ≡ joined (header ∷ map indented (values (c ∷ constraints)))
text-is c constraints = ap (λ t. codes "constraints:\n" ++ t) (lines-are (c ∷ constraints))

off : (t : Bool) → not t ≡ true → t ≡ false
off true h = absurd (false≢true h)
off false h = refl

-- no newline is in it
one-line : (text : List ℕ) → list_all (λ b. not (b == 10)) text ≡ true → OneLine text
one-line text h = all-where (λ b. (b == 10) ≡ false) text (λ b k. off (b == 10) (all-at (λ b. not (b == 10)) text b h k))

-- no carriage return is at its end
no-end : (text : List ℕ) → list_all (λ b. not (b == 13)) text ≡ true → ends_with_return text ≡ false
unfolding ends_with_return
no-end [] h = refl
no-end (b ∷ []) h = off (b == 13) (and_parts (not (b == 13)) true h).0
no-end (b ∷ c ∷ text) h = return-cons b c text ∙ no-end (c ∷ text) (and_parts (not (b == 13)) (list_all (λ b. not (b == 13)) (c ∷ text)) h).1

letter-solid : (b : ℕ) → is_letter_or_digit b ≡ true → is_blank b ≡ false
letter-solid b h = grind (arith, nat_tests)

letter-apart : (b : ℕ) → is_letter_or_digit b ≡ true → (b == 45) ≡ false
letter-apart b h = grind (arith, nat_tests)

comma-utf8 : IsUtf8 (codes ",")
comma-utf8 = IsUtf8-from_ascii (codes ",") (plain-comma 44 (omega arith))
  where
    plain-comma : (b : ℕ) → b < 128 → IsAscii (b ∷ [])
    plain-comma b h = IsAscii-cons b [] h IsAscii-nil

blanks-utf8 : IsUtf8 (codes "    ")
blanks-utf8 = IsUtf8-from_ascii (codes "    ") (plain-ascii (codes "    ") refl)

module _ (c : Constraint) (is : IsPlainConstraint c) (last : Bool) where
  abbrev comma : List ℕ
  comma = if last then [] else codes ","

  lacks : (byte : ℕ) → ((b : ℕ) → is_plain_byte b ≡ true → (b == byte) ≡ false) → (44 == byte) ≡ false → list_all (λ b. not (b == byte)) (value_text c last) ≡ true
  lacks byte apart other =
      list_all-append (λ b. not (b == byte)) (constraint_text c) comma
      ∙ and_from (list_all (λ b. not (b == byte)) (constraint_text c)) (list_all (λ b. not (b == byte)) comma) (without-byte byte apart (constraint_text c) (constraint-plain c is))
      (elim last as (λ t. list_all (λ b. not (b == byte)) (if t then [] else codes ",") ≡ true) [ true ↦ refl | false ↦ ap (λ t. not t && true) other ])

  utf8 : IsUtf8 (value_text c last)
  utf8 =
      IsUtf8-append (constraint_text c) comma (IsUtf8-from_ascii (constraint_text c) (plain-ascii (constraint_text c) (constraint-plain c is)))
      (elim last as (λ t. IsUtf8 (if t then [] else codes ",")) [ true ↦ IsUtf8-nil | false ↦ comma-utf8 ])

  ends : Ends (value_text c last)
  ends = elim last as (λ t. Ends (constraint_text c ++ (if t then [] else codes ","))) [
    | true ↦ subst Ends (sym (append-nil (constraint_text c))) (constraint-ends c is)
    | false ↦ ends-more (constraint_text c) (codes ",") (record { front = []; final = 44; whole = refl; solid = refl })
  ]

  begins : value_text c last ≡ (constraint-begins c is).first ∷ ((constraint-begins c is).others ++ comma)
  begins = ap (λ t. t ++ comma) (constraint-begins c is).whole

  piece : Piece (value_text c last)
  unfolding indent
  piece =
      let h = constraint-begins c is in
      let e = ends in
      record {
        front = ap (prefix_len is_blank) begins ∙ ap (λ t. cond t (1 + prefix_len is_blank (h.others ++ comma)) 0) (letter-solid h.first h.plain);
        back = ap (λ t. prefix_len is_blank (reverse t)) e.whole ∙ ap (prefix_len is_blank) (reverse-append e.front (e.final ∷ [])) ∙ ap (λ t. cond t (1 + prefix_len is_blank (reverse e.front)) 0) e.solid;
        one_line = one-line (value_text c last) (lacks 10 no-newline refl);
        utf8 = utf8;
      }

  some : 0 < length (value_text c last)
  some = subst (λ t. 0 < length t) (sym begins) (omega arith)

  no-comment : is_comment (value_text c last) ≡ false
  unfolding is_comment
  no-comment = let h = constraint-begins c is in ap is_comment begins ∙ ap (λ t. t && (slice_index (h.first ∷ (h.others ++ comma)) 1 == 45)) (letter-apart h.first h.plain)

  clean : Clean (indented (value_text c last))
  clean = record {
    one_line = one-line (indented (value_text c last)) (lacks 10 no-newline refl);
    return = no-end (indented (value_text c last)) (lacks 13 no-return refl);
    utf8 = IsUtf8-append (codes "    ") (value_text c last) blanks-utf8 utf8;
  }

  kept : (k : ℕ) → kept_line k (indented (value_text c last)) ≡ line_of k 4 (value_text c last) ∷ []
  kept k = kept_line-printed k (codes "    ") (value_text c last) refl piece some no-comment

all-clean : (constraints : List Constraint) → AllByRecursion IsPlainConstraint constraints → AllClean (map indented (values constraints))
all-clean [] are = tt
all-clean (c ∷ constraints) are = (clean c are.0 (length constraints == 0), all-clean constraints are.1)

header-clean : Clean header
header-clean = record { one_line = one-line header refl; return = no-end header refl; utf8 = IsUtf8-from_ascii header (plain-ascii header refl) }

-- the lines behind the first
abbrev pub value_lines : ℕ → List (List ℕ) → List Line
value_lines k [] = []
value_lines k (value ∷ values) = line_of k 4 value ∷ value_lines (k + 1) values

kept-values : (constraints : List Constraint) → AllByRecursion IsPlainConstraint constraints → (k : ℕ) → kept_from k (map indented (values constraints)) ≡ value_lines k (values constraints)
kept-values [] are k = refl
kept-values (c ∷ constraints) are k =
    let last = length constraints == 0 in
    ap (λ l. l ++ kept_from (k + 1) (map indented (values constraints))) (kept c are.0 last k) ∙ ap (λ l. line_of k 4 (value_text c last) ∷ l) (kept-values constraints are.1 (k + 1))

kept-header : (k : ℕ) → kept_line k header ≡ line_of k 0 header ∷ []
unfolding kept_line is_kept is_comment trim trim_end trim_start indent
kept-header k = refl

module _ (c : Constraint) (constraints : List Constraint) (are : AllByRecursion IsPlainConstraint (c ∷ constraints)) where
  raws : List (List ℕ)
  raws = header ∷ map indented (values (c ∷ constraints))

  raws-clean : AllClean raws
  unfolding raws
  raws-clean = (header-clean, all-clean (c ∷ constraints) are)

  pub text-utf8 : IsUtf8 (freeze_text (c ∷ constraints))
  unfolding raws
  text-utf8 = subst IsUtf8 (sym (text-is c constraints)) (utf8-joined raws raws-clean)

  -- numbered from any line
  pub lines-from : (k : ℕ) → kept_from k (lines (freeze_text (c ∷ constraints))) ≡ line_of k 0 header ∷ value_lines (k + 1) (values (c ∷ constraints))
  unfolding raws
  lines-from k =
      ap (λ t. kept_from k (lines t)) (text-is c constraints)
      ∙ ap (kept_from k) (lines-joined raws raws-clean)
      ∙ ap (λ l. l ++ kept_from (k + 1) (map indented (values (c ∷ constraints)))) (kept-header k)
      ∙ ap (λ l. line_of k 0 header ∷ l) (kept-values (c ∷ constraints) are (k + 1))

  pub text-lines : kept_lines (freeze_text (c ∷ constraints)) ≡ line_of 1 0 header ∷ value_lines 2 (values (c ∷ constraints))
  text-lines = ap (λ t. kept_from 1 (lines t)) (without_mark-ascii (freeze_text (c ∷ constraints)) (omega arith)) ∙ lines-from 1
