-- Shared: the canonical text of a printable tree parses as the tree, and trees that are printable.
use Rattle.std.proofs.Common.{◌≡◌, ℕ, zero, suc, ◌+◌, ◌-◌, ◌<◌, inl, inr, Bool, true, false, List, [], ◌∷◌, ◌++◌, length, take, drop, get_or, refl, sym, ◌∙◌, ap, subst, arith, length-drop}
use Rattle.std.specs.Prelude.{not, ◌==◌, nat_eq, if◌then◌else◌}
use Rattle.std.specs.List.{list_all, slice_split, starts_with, position_or_len, before_first, after_first}
use Rattle.std.specs.Str.{IsUtf8}
use Rattle.std.specs.Str.Lines.{lines, lines_of_parts}
use Rattle.std.proofs.lemmas.List.{take_all}
use Rattle.std.proofs.lemmas.List.Elements.{All-take, All-cons, All-nil}
use Rattle.std.proofs.lemmas.List.Sums.{prefix_len_stops}
use Rattle.std.proofs.lemmas.List.Splits.{slice_split_none, slice_split_first}
use Rattle.std.proofs.lemmas.Str.{IsUtf8-take, IsUtf8-drop, IsUtf8-past_char, IsCharBoundary-before_ascii, IsCharBoundary-after_ascii}
use Rattle.std.proofs.lemmas.Bool.{cases_lt, not-true, and_parts}
use Rattle.std.proofs.lemmas.Bool.Decides.{nat_tests}
use Rattle.plan_types.specs.declared.element.Element.{Element}
use Rattle.cabal_lexer.specs.Lines.{Line, is_comment, is_kept, indent, trim, kept_line, kept_from, kept_lines, mark, without_mark}
use Rattle.cabal_lexer.specs.Fault.{StandsFor, IsTree}
use Rattle.cabal_lexer.specs.Canonical.{canonical}
use Rattle.cabal_lexer.specs.RoundTrip.{unnumbered, without_returns}
use Rattle.cabal_lexer.proofs.Runs.{front_passes}
use Rattle.cabal_lexer.specs.Printable.{OneLine, Printable}
use Rattle.cabal_lexer.proofs.TextPieces.{Piece-trim}
use Rattle.cabal_lexer.proofs.CanonicalLines.{lines-joined, utf8-joined, without_mark-ascii}
use Rattle.cabal_lexer.proofs.Again.{KeptTexts, none, printed-items, printable-items}

-- ---- the lines of a text in UTF-8

abbrev RawLines : List (List ℕ) → Type 0
RawLines [] = Unit {0}
RawLines (raw ∷ raws) = (OneLine raw × IsUtf8 raw) × RawLines raws

abbrev newline : ℕ → Bool
newline b = b == 10

line-from : (x : List ℕ) → list_all (λ b. not (newline b)) x ≡ true → OneLine x
line-from [] h = All-nil (λ b. (b == 10) ≡ false)
line-from (b ∷ x) h = All-cons (λ b. (b == 10) ≡ false) b x (not-true _ ((and_parts _ _ h).0)) (line-from x ((and_parts (not (newline b)) _ h).1))

before-line : (x : List ℕ) → OneLine (before_first newline x)
before-line x = line-from (before_first newline x) (front_passes (λ b. not (newline b)) x)

newline-at : (x : List ℕ) → position_or_len newline x < length x → get_or x (position_or_len newline x) 0 ≡ 10
newline-at x l = let stop = prefix_len_stops (λ b. not (newline b)) x 0 l in grind (arith, nat_tests)

raw-parts : (n : ℕ) (x : List ℕ) → length x < n → IsUtf8 x → RawLines (slice_split newline x)
raw-parts zero x l u = absurd (omega arith)
raw-parts (suc n) x l u = elim (cases_lt (position_or_len newline x) (length x)) [
  | inl h ↦
      let at = newline-at x h in
      let low : get_or x (position_or_len newline x) 0 < 128 = omega arith in
      subst RawLines (sym (slice_split_first newline x 0 h)) (
        (before-line x, IsUtf8-take x (position_or_len newline x) u (IsCharBoundary-before_ascii x (position_or_len newline x) h low)),
        raw-parts n (after_first newline x) (omega (arith, length-drop (position_or_len newline x + 1) x))
            (IsUtf8-drop x (position_or_len newline x + 1) u (IsCharBoundary-after_ascii x (position_or_len newline x) u h low)),
      )
  | inr h ↦
      let all : OneLine x = subst OneLine (take_all (position_or_len newline x) x h) (before-line x) in
      subst RawLines (sym (slice_split_none newline x all)) ((all, u), tt)
]

strip-at : (x : List ℕ) (b : Bool) → (get_or x (length x - 1) 0 == 13) ≡ b → OneLine x → IsUtf8 x →
    OneLine (if b then take (length x - 1) x else x) × IsUtf8 (if b then take (length x - 1) x else x)
strip-at x false e o u = (o, u)
strip-at [] true e o u = (All-take (λ b. (b == 10) ≡ false) (length {A = ℕ} [] - 1) [] o, cc)
strip-at (c ∷ x) true e o u =
    let last : get_or (c ∷ x) (length (c ∷ x) - 1) 0 ≡ 13 = grind (arith, nat_tests) in (
      All-take (λ b. (b == 10) ≡ false) (length (c ∷ x) - 1) (c ∷ x) o,
      IsUtf8-take (c ∷ x) (length (c ∷ x) - 1) u (IsCharBoundary-before_ascii (c ∷ x) (length (c ∷ x) - 1) (omega arith) (omega arith)),
    )

last-line : (b : Bool) (x : List ℕ) → OneLine x × IsUtf8 x → RawLines (if b then [] else x ∷ [])
last-line true x h = tt
last-line false x h = (h, tt)

raw-of_parts : (parts : List (List ℕ)) → RawLines parts → RawLines (lines_of_parts parts)
raw-of_parts [] h = tt
raw-of_parts (x ∷ []) h = last-line (length x == 0) x h.0
raw-of_parts (x ∷ y ∷ more) h = (strip-at x (get_or x (length x - 1) 0 == 13) refl h.0.0 h.0.1, raw-of_parts (y ∷ more) h.1)

raw-lines : (x : List ℕ) → IsUtf8 x → RawLines (lines x)
raw-lines x u = raw-of_parts (slice_split newline x) (raw-parts (suc (length x)) x (omega arith) u)

-- ---- the byte-order mark

marked : (x : List ℕ) → starts_with nat_eq x mark ≡ true → x ≡ mark ++ drop 3 x
marked [] h = cc
marked (a ∷ []) h = grind (arith, nat_tests)
marked (a ∷ b ∷ []) h = grind (arith, nat_tests)
marked (a ∷ b ∷ c ∷ x) h =
    let one : a ≡ 239 = grind (arith, nat_tests) in
    let two : b ≡ 187 = grind (arith, nat_tests) in
    let three : c ≡ 191 = grind (arith, nat_tests) in
    ap (λ v. v ∷ b ∷ c ∷ x) one ∙ ap (λ v. 239 ∷ v ∷ c ∷ x) two ∙ ap (λ v. 239 ∷ 187 ∷ v ∷ x) three

mark-at : (x : List ℕ) (b : Bool) → starts_with nat_eq x mark ≡ b → IsUtf8 x → IsUtf8 (if b then drop 3 x else x)
unfolding lib.Utf8.encode
mark-at x false e u = u
mark-at x true e u = IsUtf8-past_char x (drop 3 x) 65279 u (marked x e)

without_mark-utf8 : (x : List ℕ) → IsUtf8 x → IsUtf8 (without_mark x)
unfolding without_mark
without_mark-utf8 x u = mark-at x (starts_with nat_eq x mark) refl u

-- ---- kept lines

is_kept-parts : (x : List ℕ) → is_kept x ≡ true → (0 < length x) × (is_comment x ≡ false)
unfolding is_kept
is_kept-parts [] h = cc
is_kept-parts (b ∷ x) h = (omega arith, not-true _ ((and_parts (not (length (b ∷ x) == 0)) _ h).1))

kept-at : (k : ℕ) (raw : List ℕ) (more : List Line) (c : Bool) → is_kept (trim raw) ≡ c → OneLine raw → IsUtf8 raw → KeptTexts more →
    KeptTexts ((if c then record { number = k; indent = indent raw; text = trim raw } ∷ [] else []) ++ more)
kept-at k raw more false e o u h = h
kept-at k raw more true e o u h =
    let parts = is_kept-parts (trim raw) e in
    (record { piece = Piece-trim raw o u; some = parts.0; code = parts.1 }, h)

kept-texts : (k : ℕ) (raws : List (List ℕ)) → RawLines raws → KeptTexts (kept_from k raws)
unfolding kept_line
kept-texts k [] h = tt
kept-texts k (raw ∷ raws) h = kept-at k raw (kept_from (k + 1) raws) (is_kept (trim raw)) refl h.0.0 h.0.1 (kept-texts (k + 1) raws h.1)

pub kept_lines-texts : (text : List ℕ) → IsUtf8 text → KeptTexts (kept_lines text)
kept_lines-texts text u = kept-texts 1 (lines (without_mark text)) (raw-lines (without_mark text) (without_mark-utf8 text u))

-- ---- the round trip

pub printed_tree : (items : List Element) → Printable 1 items → (again : List Element) × IsTree (canonical items) again × (unnumbered again ≡ unnumbered items)
printed_tree items t =
    let p = printed-items t [] none 1 in
    let kept : kept_from 1 p.raws ≡ kept_lines (canonical items) =
    ap (kept_from 1) (sym (lines-joined p.raws p.clean)) ∙ ap (λ v. kept_from 1 (lines v)) (sym (without_mark-ascii (canonical items) p.ascii ∙ p.whole)) in (
      p.again,
      (subst IsUtf8 (sym p.whole) (utf8-joined p.raws p.clean), subst (λ v. StandsFor v p.again) kept (p.stands 0 (omega arith))),
      p.same,
    )

pub printable_tree : (bytes : List ℕ) (items : List Element) → IsTree bytes items → without_returns items ≡ true → Printable 1 items
printable_tree bytes items t r = printable-items t.1 (kept_lines-texts bytes t.0) r

pub round_trip : (bytes : List ℕ) (items : List Element) → IsTree bytes items → without_returns items ≡ true →
    (again : List Element) × IsTree (canonical items) again × (unnumbered again ≡ unnumbered items)
round_trip bytes items t r = printed_tree items (printable_tree bytes items t r)
