-- Shared: pieces of a text: of one line, without blanks at both ends.
use Rattle.std.proofs.Common.{◌≡◌, ℕ, zero, suc, ◌+◌, ◌-◌, ◌<◌, Bool, true, false, cond, List, [], ◌∷◌, ◌++◌, length, take, drop, refl, ◌∙◌, ap, subst, arith, append_assoc, one-add}
use Rattle.std.specs.Prelude.{reverse, ◌==◌}
use Rattle.std.specs.List.{prefix_len, list_all}
use Rattle.std.specs.Str.{IsUtf8}
use Rattle.std.proofs.Math.Seq.{drop-append_seam}
use Rattle.std.proofs.lemmas.List.{reverse-append, reverse-reverse, length-reverse}
use Rattle.std.proofs.lemmas.List.Elements.{All-take, All-drop, All-append}
use Rattle.std.proofs.lemmas.Str.{IsUtf8-take, IsUtf8-drop, IsUtf8-append}
use Rattle.cabal_lexer.specs.Lines.{indent, trim_start, trim_end, trim}
pub use Rattle.cabal_lexer.specs.Printable.{OneLine, Piece}
use Rattle.plan_types.specs.Bytes.{is_blank}
use Rattle.cabal_lexer.proofs.Texts.{boundary_end, trim_end-take}
use Rattle.std.proofs.lemmas.Bool.{and_parts}
use Rattle.text_grammar.proofs.Boundaries.{boundary_front, is_blank-ascii}

-- ---- prefixes that pass

pub prefix-past : (p : ℕ → Bool) (xs ys : List ℕ) → list_all p xs ≡ true → prefix_len p ys ≡ 0 → prefix_len p (xs ++ ys) ≡ length xs
prefix-past p [] ys h e = e
prefix-past p (x ∷ xs) ys h e =
    ap (λ b. cond b (1 + prefix_len p (xs ++ ys)) 0) ((and_parts (p x) (list_all p xs) h).0)
    ∙ ap (λ n. 1 + n) (prefix-past p xs ys ((and_parts (p x) (list_all p xs) h).1) e) ∙ one-add _

cond-zero : (c : Bool) (m n : ℕ) → cond c (1 + m) 0 ≡ 0 → cond c (1 + n) 0 ≡ 0
cond-zero true m n h = absurd (omega arith)
cond-zero false m n h = refl

pub front-take : (n : ℕ) (x : List ℕ) → indent x ≡ 0 → indent (take n x) ≡ 0
unfolding indent
front-take zero [] h = refl
front-take zero (b ∷ x) h = refl
front-take (suc n) [] h = refl
front-take (suc n) (b ∷ x) h = cond-zero (is_blank b) (prefix_len is_blank x) (prefix_len is_blank (take n x)) h

front-append : (x y : List ℕ) → indent x ≡ 0 → 0 < length x → indent (x ++ y) ≡ 0
unfolding indent
front-append [] y h l = absurd (omega arith)
front-append (b ∷ x) y h l = cond-zero (is_blank b) (prefix_len is_blank x) (prefix_len is_blank (x ++ y)) h

front-at : (b : ℕ) (x : List ℕ) → prefix_len is_blank (drop (prefix_len is_blank x) x) ≡ 0 → (c : Bool) → is_blank b ≡ c →
    prefix_len is_blank (drop (cond c (1 + prefix_len is_blank x) 0) (b ∷ x)) ≡ 0
front-at b x h true e = rw one-add h
front-at b x h false e = ap (λ c. cond c (1 + prefix_len is_blank x) 0) e

pub front-drop : (x : List ℕ) → indent (drop (indent x) x) ≡ 0
unfolding indent
front-drop [] = refl
front-drop (b ∷ x) = front-at b x (front-drop x) (is_blank b) refl

-- ---- trims

pub Piece-trim_end : (x : List ℕ) → indent x ≡ 0 → OneLine x → IsUtf8 x → Piece (trim_end x)
unfolding trim_end trim_start indent
Piece-trim_end x h o u =
    let m = length x - indent (reverse x) in record {
      front = subst (λ v. indent v ≡ 0) (trim_end-take x) (front-take m x h);
      back = ap indent (reverse-reverse (trim_start (reverse x))) ∙ front-drop (reverse x);
      one_line = subst OneLine (trim_end-take x) (All-take (λ b. (b == 10) ≡ false) m x o);
      utf8 = subst IsUtf8 (trim_end-take x) (IsUtf8-take x m u (boundary_end is_blank x is_blank-ascii));
    }

pub Piece-trim : (x : List ℕ) → OneLine x → IsUtf8 x → Piece (trim x)
unfolding trim trim_start indent
Piece-trim x o u =
    Piece-trim_end (trim_start x) (front-drop x) (All-drop (λ b. (b == 10) ≡ false) (indent x) x o) (IsUtf8-drop x (indent x) u (boundary_front is_blank x is_blank-ascii u))

pub start-same : (x : List ℕ) → indent x ≡ 0 → trim_start x ≡ x
unfolding trim_start
start-same x h = ap (λ n. drop n x) h

end-same : (x : List ℕ) → indent (reverse x) ≡ 0 → trim_end x ≡ x
unfolding trim_end
end-same x h = ap reverse (start-same (reverse x) h) ∙ reverse-reverse x

pub indent-behind : (s x : List ℕ) → list_all is_blank s ≡ true → Piece x → indent (s ++ x) ≡ length s
unfolding indent
indent-behind s x h p = prefix-past is_blank s x h p.front

pub trim_start-behind : (s x : List ℕ) → list_all is_blank s ≡ true → Piece x → trim_start (s ++ x) ≡ x
unfolding trim_start
trim_start-behind s x h p = ap (λ n. drop n (s ++ x)) (indent-behind s x h p) ∙ drop-append_seam s x

pub trim-behind : (s x : List ℕ) → list_all is_blank s ≡ true → Piece x → trim (s ++ x) ≡ x
unfolding trim
trim-behind s x h p = ap trim_end (trim_start-behind s x h p) ∙ end-same x p.back

pub trim-same : (x : List ℕ) → Piece x → trim x ≡ x
trim-same x p = trim-behind [] x refl p

-- two pieces with something between them
pub Piece-join : (x m y : List ℕ) → indent x ≡ 0 → OneLine x → IsUtf8 x → 0 < length x → OneLine m → IsUtf8 m → Piece y → 0 < length y → Piece (x ++ (m ++ y))
Piece-join x m y h o u l mo mu p k = record {
  front = front-append x (m ++ y) h l;
  back =
      ap indent (reverse-append x (m ++ y) ∙ ap (λ v. v ++ reverse x) (reverse-append m y) ∙ append_assoc (reverse y) (reverse m) (reverse x))
      ∙ front-append (reverse y) (reverse m ++ reverse x) p.back (rw (length-reverse y) k);
  one_line = All-append (λ b. (b == 10) ≡ false) x (m ++ y) o (All-append (λ b. (b == 10) ≡ false) m y mo p.one_line);
  utf8 = IsUtf8-append x (m ++ y) u (IsUtf8-append m y mu p.utf8);
}
