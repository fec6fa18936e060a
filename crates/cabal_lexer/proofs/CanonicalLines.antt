-- Shared: the lines of a canonical text.
use Rattle.std.proofs.Common.{◌≡◌, ℕ, suc, ◌+◌, ◌-◌, ◌<◌, true, false, List, [], ◌∷◌, ◌++◌, length, take, drop, get_or, refl, sym, ◌∙◌, ap, arith, append_assoc}
use Rattle.std.specs.Prelude.{not, ◌&&◌, ◌==◌, nat_eq, flat_map, if◌then◌else◌}
use Rattle.std.specs.List.{list_all, slice_split, starts_with}
use Rattle.std.specs.Str.{IsUtf8}
use Rattle.std.specs.Str.Lines.{lines, lines_of_parts, strip_carriage_return}
use Rattle.std.proofs.lemmas.List.Splits.{slice_split_at, length-slice_split}
use Rattle.std.proofs.lemmas.Str.{IsUtf8-append, IsUtf8-nil}
use Rattle.std.proofs.lemmas.Bool.Decides.{nat_tests}
use Rattle.cabal_lexer.specs.Lines.{Line, indent, is_comment, is_kept, kept_line, kept_from, mark, without_mark}
use Rattle.plan_types.specs.Bytes.{is_blank}
use Rattle.cabal_lexer.specs.RoundTrip.{ends_with_return}
use Rattle.cabal_lexer.specs.Printable.{OneLine, Piece}
use Rattle.cabal_lexer.proofs.TextPieces.{trim-behind, indent-behind}

-- each line, followed by a line feed
abbrev pub joined : List (List ℕ) → List ℕ
joined raws = flat_map (λ raw. raw ++ 10 ∷ []) raws

pub record Clean (raw : List ℕ) : Type 0 where
  pub one_line : OneLine raw
  pub return : ends_with_return raw ≡ false
  pub utf8 : IsUtf8 raw

abbrev pub AllClean : List (List ℕ) → Type 0
AllClean [] = Unit {0}
AllClean (raw ∷ raws) = Clean raw × AllClean raws

pub clean-append : (a b : List (List ℕ)) → AllClean a → AllClean b → AllClean (a ++ b)
clean-append [] b h k = k
clean-append (raw ∷ a) b h k = (h.0, clean-append a b h.1 k)

-- ---- lines of a joined text

strip-clean : (raw : List ℕ) → ends_with_return raw ≡ false → strip_carriage_return raw ≡ raw
unfolding ends_with_return
strip-clean raw h = ap (λ b. if b then take (length raw - 1) raw else raw) h

parts-cons : (x : List ℕ) (parts : List (List ℕ)) → 0 < length parts → lines_of_parts (x ∷ parts) ≡ strip_carriage_return x ∷ lines_of_parts parts
parts-cons x [] l = absurd (omega arith)
parts-cons x (y ∷ more) l = refl

pub lines-joined : (raws : List (List ℕ)) → AllClean raws → lines (joined raws) ≡ raws
lines-joined [] h = refl
lines-joined (raw ∷ raws) h =
    ap lines (append_assoc raw (10 ∷ []) (joined raws))
    ∙ ap lines_of_parts (slice_split_at (λ b. b == 10) raw 10 (joined raws) h.0.one_line refl)
    ∙ parts-cons raw (slice_split (λ b. b == 10) (joined raws)) (omega (arith, length-slice_split (λ b. b == 10) (joined raws)))
    ∙ ap (λ v. v ∷ lines (joined raws)) (strip-clean raw h.0.return)
    ∙ ap (λ v. raw ∷ v) (lines-joined raws h.1)

newline-utf8 : IsUtf8 (10 ∷ [])
unfolding lib.Utf8.encode
newline-utf8 = (10 ∷ [], (refl, refl))

pub utf8-joined : (raws : List (List ℕ)) → AllClean raws → IsUtf8 (joined raws)
utf8-joined [] h = IsUtf8-nil
utf8-joined (raw ∷ raws) h = IsUtf8-append (raw ++ 10 ∷ []) (joined raws) (IsUtf8-append raw (10 ∷ []) h.0.utf8 newline-utf8) (utf8-joined raws h.1)

-- ---- the byte-order mark

abbrev pub BeginsAscii : List ℕ → Type 0
BeginsAscii [] = Unit {0}
BeginsAscii (b ∷ x) = b < 128

no-mark : (b : ℕ) (x : List ℕ) → b < 128 → starts_with nat_eq (b ∷ x) mark ≡ false
no-mark b x h = let no : nat_eq b 239 ≡ false = grind (arith, nat_tests) in grind (arith, nat_tests)

pub without_mark-ascii : (x : List ℕ) → BeginsAscii x → without_mark x ≡ x
unfolding without_mark
without_mark-ascii [] h = refl
without_mark-ascii (b ∷ x) h = ap (λ t. if t then drop 3 (b ∷ x) else (b ∷ x)) (no-mark b x h)

pub ascii-append : (x y : List ℕ) → BeginsAscii x → BeginsAscii y → BeginsAscii (x ++ y)
ascii-append [] y h k = k
ascii-append (b ∷ x) y h k = h

-- ---- carriage returns

pub return-cons : (b c : ℕ) (y : List ℕ) → ends_with_return (b ∷ c ∷ y) ≡ ends_with_return (c ∷ y)
unfolding ends_with_return
return-cons b c y =
    let more : length (b ∷ c ∷ y) - 1 ≡ suc (length y) = omega arith in
    let less : length y ≡ length (c ∷ y) - 1 = omega arith in
    ap (λ n. get_or (b ∷ c ∷ y) n 0 == 13) more ∙ ap (λ n. get_or (c ∷ y) n 0 == 13) less

pub return-append : (x y : List ℕ) → 0 < length y → ends_with_return (x ++ y) ≡ ends_with_return y
return-append [] y l = refl
return-append (b ∷ []) [] l = absurd (omega arith)
return-append (b ∷ []) (c ∷ y) l = return-cons b c y
return-append (b ∷ c ∷ x) y l = return-cons b c (x ++ y) ∙ return-append (c ∷ x) y l

-- ---- kept lines

pub kept_from-append : (k : ℕ) (a b : List (List ℕ)) → kept_from k (a ++ b) ≡ kept_from k a ++ kept_from (k + length a) b
kept_from-append k [] b = ap (λ n. kept_from n b) (omega arith)
kept_from-append k (raw ∷ a) b =
    ap (λ v. kept_line k raw ++ v) (kept_from-append (k + 1) a b ∙ ap (λ n. kept_from (k + 1) a ++ kept_from n b) (omega arith))
    ∙ sym (append_assoc (kept_line k raw) (kept_from (k + 1) a) (kept_from (k + length (raw ∷ a)) b))

is_kept-text : (x : List ℕ) → 0 < length x → is_comment x ≡ false → is_kept x ≡ true
unfolding is_kept
is_kept-text [] l h = absurd (omega arith)
is_kept-text (b ∷ x) l h = let no : (length (b ∷ x) == 0) ≡ false = grind (arith, nat_tests) in ap (λ v. not v && not (is_comment (b ∷ x))) no ∙ ap not h

abbrev pub line_of : ℕ → ℕ → List ℕ → Line
line_of k n x = record { number = k; indent = n; text = x }

pub kept_line-printed : (k : ℕ) (s x : List ℕ) → list_all is_blank s ≡ true → Piece x → 0 < length x → is_comment x ≡ false →
    kept_line k (s ++ x) ≡ line_of k (length s) x ∷ []
unfolding kept_line
kept_line-printed k s x h p l c =
    ap (λ v. if is_kept v then line_of k (indent (s ++ x)) v ∷ [] else []) (trim-behind s x h p)
    ∙ ap (λ b. if b then line_of k (indent (s ++ x)) x ∷ [] else []) (is_kept-text x l c)
    ∙ ap (λ n. line_of k n x ∷ []) (indent-behind s x h p)
