-- Shared: texts: their character boundaries and their lines.
use Rattle.std.proofs.Common.{◌≡◌, ℕ, zero, suc, ◌+◌, ◌-◌, ◌<◌, ◌≤◌, Bool, true, false, cond, List, [], ◌∷◌, ◌++◌, length, take, drop, get_or, refl, sym, ◌∙◌, ap, subst, arith, append_assoc, append-nil, length-drop}
use Rattle.std.specs.Prelude.{reverse, map, ◌==◌, nat_eq}
use Rattle.std.specs.Borrow.{Bor}
use Rattle.std.specs.List.{prefix_len, starts_with, slice_split}
use Rattle.std.specs.Str.{IsUtf8, IsCharBoundary}
use Rattle.std.specs.Str.Lines.{lines, lines_of_parts}
use Rattle.std.proofs.Math.Seq.{drop-append_seam}
use Rattle.std.proofs.lemmas.List.{take-append-drop, reverse-append, reverse-reverse, length-reverse, get_or-reverse, map-append, length-map}
use Rattle.std.proofs.lemmas.List.Sums.{prefix_len-le-length, prefix_len_passes, count_by-le-length}
use Rattle.std.proofs.lemmas.List.Splits.{length-slice_split}
use Rattle.std.proofs.lemmas.Str.{IsCharBoundary-end, IsCharBoundary-before_ascii, IsCharBoundary-after_ascii}
use Rattle.std.proofs.lemmas.Bool.Decides.{nat_tests}
use Rattle.cabal_lexer.specs.Opening.{is_name_byte, ends_with_brace}
use Rattle.plan_types.specs.Bytes.{begins_with, is_blank}
use Rattle.cabal_lexer.specs.Lines.{indent, trim_start, trim_end, kept_line, kept_from, mark, without_mark}
use Rattle.text_grammar.proofs.Boundaries.{PassesAscii}

boundary_end-at : (p : ℕ → Bool) (text : List ℕ) (n : ℕ) → PassesAscii p → n ≡ prefix_len p (reverse text) → IsCharBoundary text (length text - n)
boundary_end-at p text zero ascii e = subst (λ k. IsCharBoundary text k) (omega arith) (IsCharBoundary-end text)
boundary_end-at p text (suc n) ascii e =
    let le = prefix_len-le-length p (reverse text) in
    let len = length-reverse text in
    let same = get_or-reverse text n 0 (omega arith) in
    let low : get_or (reverse text) n 0 < 128 = ascii (get_or (reverse text) n 0) (prefix_len_passes p (reverse text) n 0 (omega arith)) in
    let at : length text - 1 - n ≡ length text - suc n = omega arith in
    subst (λ k. IsCharBoundary text k) at (IsCharBoundary-before_ascii text (length text - 1 - n) (omega arith) (subst (λ b. b < 128) same low))

-- the start of the longest suffix that passes is a character boundary
pub boundary_end : (p : ℕ → Bool) (text : List ℕ) → PassesAscii p → IsCharBoundary text (length text - prefix_len p (reverse text))
boundary_end p text ascii = boundary_end-at p text (prefix_len p (reverse text)) ascii refl

reverse-drop-reverse : (text : List ℕ) (n : ℕ) → n ≤ length text → reverse (drop n (reverse text)) ≡ take (length text - n) text
reverse-drop-reverse text n h =
    let m = length text - n in
    let parts = ap reverse (sym (take-append-drop m text)) ∙ reverse-append (take m text) (drop m text) in
    let len : n ≡ length (reverse (drop m text)) = omega (arith, length-reverse (drop m text), length-drop m text) in
    ap (λ v. reverse (drop n v)) parts
    ∙ ap (λ k. reverse (drop k (reverse (drop m text) ++ reverse (take m text)))) len
    ∙ ap reverse (drop-append_seam (reverse (drop m text)) (reverse (take m text)))
    ∙ reverse-reverse (take m text)

pub trailing-le : (text : List ℕ) → indent (reverse text) ≤ length text
unfolding indent
trailing-le text = omega (arith, prefix_len-le-length is_blank (reverse text), length-reverse text)

pub trim_end-take : (text : List ℕ) → take (length text - indent (reverse text)) text ≡ trim_end text
unfolding trim_end trim_start
trim_end-take text = sym (reverse-drop-reverse text (indent (reverse text)) (trailing-le text))

-- ---- openings

pub is_name_byte-ascii : PassesAscii is_name_byte
is_name_byte-ascii b h = grind (arith, nat_tests)

pub begins_with-boundary : (b : ℕ) (text : List ℕ) → b < 128 → IsUtf8 text → begins_with b text ≡ true → IsCharBoundary text 1
begins_with-boundary b [] low u h = cc
begins_with-boundary b (x ∷ xs) low u h =
    let same : x ≡ b = grind (arith, nat_tests) in
    subst (λ k. IsCharBoundary (x ∷ xs) k) (omega arith) (IsCharBoundary-after_ascii (x ∷ xs) 0 u (omega arith) (subst (λ v. v < 128) (sym same) low))

pub ends_with_brace-le : (text : List ℕ) → ends_with_brace text ≡ true → 1 ≤ length text
unfolding ends_with_brace
ends_with_brace-le [] h = cc
ends_with_brace-le (x ∷ xs) h = omega arith

pub ends_with_brace-boundary : (text : List ℕ) → ends_with_brace text ≡ true → IsCharBoundary text (length text - 1)
unfolding ends_with_brace
ends_with_brace-boundary text h =
    let some = ends_with_brace-le text h in
    let same : get_or text (length text - 1) 0 ≡ 123 = grind (arith, nat_tests) in
    IsCharBoundary-before_ascii text (length text - 1) (omega arith) (omega arith)

-- ---- lines

without-le : (s : List ℕ) (b : Bool) → length (cond b (drop 3 s) s) ≤ length s
without-le s true = omega (arith, length-drop 3 s)
without-le s false = omega arith

pub without_mark-le : (s : List ℕ) → length (without_mark s) ≤ length s
unfolding without_mark
without_mark-le s = without-le s (starts_with nat_eq s mark)

pub kept_from-push : (n : ℕ) (raws : List (List ℕ)) (raw : List ℕ) → kept_from n (raws ++ raw ∷ []) ≡ kept_from n raws ++ kept_line (n + length raws) raw
kept_from-push n [] raw = append-nil _ ∙ ap (λ k. kept_line k raw) (omega arith)
kept_from-push n (r ∷ raws) raw =
    ap (λ v. kept_line n r ++ v) (kept_from-push (n + 1) raws raw ∙ ap (λ k. kept_from (n + 1) raws ++ kept_line k raw) (omega arith))
    ∙ sym (append_assoc (kept_line n r) (kept_from (n + 1) raws) _)

last-le : (b : Bool) (x : List ℕ) → length (cond b [] (x ∷ [])) ≤ 1
last-le true x = omega arith
last-le false x = omega arith

lines_of_parts-le : (parts : List (List ℕ)) → length (lines_of_parts parts) ≤ length parts
lines_of_parts-le [] = omega arith
lines_of_parts-le (x ∷ []) = last-le (length x == 0) x
lines_of_parts-le (x ∷ y ∷ more) = omega (arith, lines_of_parts-le (y ∷ more))

pub lines-le : (text : List ℕ) → length (lines text) ≤ length text + 1
lines-le text =
    omega (arith, lines_of_parts-le (slice_split (λ b. b == 10) text), length-slice_split (λ b. b == 10) text, count_by-le-length (λ b. b == 10) text)

pub kept_from-yielded : (raws : List (Bor (List ℕ))) (raw : Bor (List ℕ)) →
    kept_from 1 (map (λ r. r.now) (raws ++ raw ∷ [])) ≡ kept_from 1 (map (λ r. r.now) raws) ++ kept_line (length raws + 1) raw.now
kept_from-yielded raws raw =
    ap (kept_from 1) (map-append (λ r. r.now) raws (raw ∷ []))
    ∙ kept_from-push 1 (map (λ r. r.now) raws) raw.now
    ∙ ap (λ k. kept_from 1 (map (λ r. r.now) raws) ++ kept_line k raw.now) (omega (arith, length-map raws (λ (r : Bor (List ℕ)). r.now)))
