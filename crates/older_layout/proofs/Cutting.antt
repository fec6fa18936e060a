-- The first piece of a text: it ends at a character's boundary, and isn't empty.
use Rattle.std.proofs.Common.{◌≡◌, ℕ, zero, suc, ◌+◌, ◌-◌, ◌<◌, ◌≤◌, inl, inr, Bool, true, false, cond, List, [], ◌∷◌, length, take, drop, get_or, refl, sym, ◌∙◌, ap, subst, arith, one-add, length-drop}
use Rattle.std.specs.Prelude.{not, ◌&&◌, ◌==◌, if◌then◌else◌, nat_lt}
use Rattle.std.specs.List.{prefix_len}
use Rattle.std.specs.Str.{IsUtf8, IsCharBoundary}
use Rattle.std.proofs.lemmas.List.{get_or-take, length-take-le}
use Rattle.std.proofs.lemmas.Str.{IsCharBoundary-end, IsCharBoundary-before_ascii, IsCharBoundary-after_ascii}
use Rattle.std.proofs.lemmas.List.Sums.{prefix_len-le-length, prefix_len_stops}
use Rattle.std.proofs.lemmas.Bool.{cases_lt, and_parts}
use Rattle.std.proofs.lemmas.Bool.Decides.{nat_tests}
use Rattle.plan_types.specs.Bytes.{begins_with}
use Rattle.cabal_lexer.specs.Lines.{indent, trim_start, is_comment}
use Rattle.cabal_lexer.specs.Opening.{name_len}
use Rattle.cabal_lexer.proofs.Texts.{begins_with-boundary}
use Rattle.older_layout.specs.declared.cut.Kind.{Kind}
use Rattle.older_layout.specs.declared.cut.Kind.TheVariants.{Closes, OpensValues, OpensItems, Plain}
use Rattle.older_layout.specs.Cuts.{ends_word, after_name, is_field, has_value, brace_len, close_len, code_len, field_cut, section_cut, item_cut, value_cut, cut, uncommented}

-- ---- lengths

pub trim_start-le : (text : List ℕ) → length (trim_start text) ≤ length text
unfolding trim_start
trim_start-le text = omega (arith, length-drop (indent text) text)

uncommented-at : (c : Bool) (text : List ℕ) → length (if c then [] else trim_start text) ≤ length text
uncommented-at true text = omega arith
uncommented-at false text = trim_start-le text

pub uncommented-le : (text : List ℕ) → length (uncommented text) ≤ length text
unfolding uncommented
uncommented-le text = uncommented-at (is_comment (trim_start text)) text

-- ---- boundaries

-- a prefix that a byte in ASCII ends, ends at a boundary
pub boundary_stop : (p : ℕ → Bool) (text : List ℕ) → ((b : ℕ) → p b ≡ false → b < 128) → IsCharBoundary text (prefix_len p text)
boundary_stop p text low = elim (cases_lt (prefix_len p text) (length text)) [
  | inl h ↦ IsCharBoundary-before_ascii text (prefix_len p text) h (low (get_or text (prefix_len p text) 0) (prefix_len_stops p text 0 h))
  | inr h ↦ let le = prefix_len-le-length p text in subst (λ n. IsCharBoundary text n) (omega arith) (IsCharBoundary-end text)
]

brace-low : (b : ℕ) → (not (b == 123) && not (b == 125)) ≡ false → b < 128
brace-low b h = grind (arith, nat_tests)

close-low : (b : ℕ) → not (b == 125) ≡ false → b < 128
close-low b h = grind (arith, nat_tests)

pub brace-boundary : (text : List ℕ) → IsCharBoundary text (brace_len text)
unfolding brace_len
brace-boundary text = boundary_stop (λ b. not (b == 123) && not (b == 125)) text brace-low

brace_len-le : (text : List ℕ) → brace_len text ≤ length text
unfolding brace_len
brace_len-le text = prefix_len-le-length (λ b. not (b == 123) && not (b == 125)) text

begun-at : (text : List ℕ) (n : ℕ) (b : ℕ) → begins_with b (drop n text) ≡ true → (n < length text) × (get_or text n 0 ≡ b)
begun-at [] zero b h = cc
begun-at [] (suc n) b h = cc
begun-at (c ∷ text) zero b h = (omega arith, grind (arith, nat_tests))
begun-at (c ∷ text) (suc n) b h = let p = begun-at text n b h in (omega (arith, p.0), p.1)

-- a text that `--` follows ends with a blank
code-at : (b : ℕ) (text : List ℕ) (c : Bool) → (ends_word b && is_comment text) ≡ c →
    (code_len text < length text → (1 ≤ code_len text) × (ends_word (get_or text (code_len text - 1) 0) ≡ true)) →
    (if c then 1 else 1 + code_len text) < length (b ∷ text) →
    (1 ≤ (if c then 1 else 1 + code_len text)) × (ends_word (get_or (b ∷ text) ((if c then 1 else 1 + code_len text) - 1) 0) ≡ true)
code-at b text true e below h = (omega arith, (and_parts (ends_word b) (is_comment text) e).0)
code-at b text false e below h =
    let p = below (omega arith) in
    let at : 1 + code_len text - 1 ≡ suc (code_len text - 1) = omega (arith, p.0) in
    (omega arith, ap (λ n. ends_word (get_or (b ∷ text) n 0)) at ∙ p.1)

code-blank : (text : List ℕ) → code_len text < length text → (1 ≤ code_len text) × (ends_word (get_or text (code_len text - 1) 0) ≡ true)
code-blank [] h = absurd (omega arith)
code-blank (b ∷ text) h = code-at b text (ends_word b && is_comment text) refl (code-blank text) h

abbrev pub length_of : Kind × ℕ → ℕ
length_of c = c.1

blank-low : (b : ℕ) → ends_word b ≡ true → b < 128
blank-low b h = grind (arith, nat_tests)

module _ (text : List ℕ) (u : IsUtf8 text) where
  code-boundary : code_len (take (brace_len text) text) < length (take (brace_len text) text) → IsCharBoundary text (code_len (take (brace_len text) text))
  code-boundary h =
      let n = brace_len text in
      let k = code_len (take n text) in
      let len = length-take-le n text (brace_len-le text) in
      let p = code-blank (take n text) h in
      let le = brace_len-le text in
      let same = get_or-take n text (k - 1) 0 (omega (arith, p.0)) in
      let low : get_or text (k - 1) 0 < 128 = blank-low _ (ap ends_word (sym same) ∙ p.1) in
      subst (λ i. IsCharBoundary text i) (omega (arith, p.0)) (IsCharBoundary-after_ascii text (k - 1) u (omega (arith, p.0)) low)

  head-boundary : IsCharBoundary text (length (take (brace_len text) text))
  head-boundary = subst (λ i. IsCharBoundary text i) (sym (length-take-le (brace_len text) text (brace_len-le text))) (brace-boundary text)

  past-boundary : begins_with 123 (drop (brace_len text) text) ≡ true → IsCharBoundary text (length (take (brace_len text) text) + 1)
  past-boundary h =
      let p = begun-at text (brace_len text) 123 h in
      let at : brace_len text + 1 ≡ length (take (brace_len text) text) + 1 = ap (λ n. n + 1) (sym (length-take-le (brace_len text) text (brace_len-le text))) in
      subst (λ i. IsCharBoundary text i) at (IsCharBoundary-after_ascii text (brace_len text) u p.0 (omega (arith, p.1)))

  field-boundary : (opens none : Bool) → begins_with 123 (drop (brace_len text) text) ≡ opens →
      IsCharBoundary text (length_of (if opens && none then (OpensValues, length (take (brace_len text) text) + 1) else (Plain, length (take (brace_len text) text))))
  field-boundary true true e = past-boundary e
  field-boundary true false e = head-boundary
  field-boundary false none e = head-boundary

  section-boundary : (coded opens : Bool) → nat_lt (code_len (take (brace_len text) text)) (length (take (brace_len text) text)) ≡ coded →
      begins_with 123 (drop (brace_len text) text) ≡ opens →
      IsCharBoundary text (length_of (if coded then (Plain, code_len (take (brace_len text) text))
      else (if opens then (OpensItems, length (take (brace_len text) text) + 1) else (Plain, length (take (brace_len text) text)))))
  section-boundary true opens c e = code-boundary (grind (arith, nat_tests))
  section-boundary false true c e = past-boundary e
  section-boundary false false c e = head-boundary

  item-boundary : (closes field : Bool) → begins_with 125 text ≡ closes →
      IsCharBoundary text (length_of (if closes then (Closes, 1)
      else (if field then field_cut (take (brace_len text) text) (begins_with 123 (drop (brace_len text) text))
      else section_cut (take (brace_len text) text) (begins_with 123 (drop (brace_len text) text)))))
  unfolding field_cut section_cut
  item-boundary true field e = begins_with-boundary 125 text (omega arith) u e
  item-boundary false true e = field-boundary _ _ refl
  item-boundary false false e = section-boundary _ _ refl refl

  value-boundary : (closes : Bool) → begins_with 125 text ≡ closes → IsCharBoundary text (length_of (if closes then (Closes, 1) else (Plain, close_len text)))
  unfolding close_len
  value-boundary true e = begins_with-boundary 125 text (omega arith) u e
  value-boundary false e = boundary_stop (λ b. not (b == 125)) text close-low

  pub cut-boundary : (in_values : Bool) → IsCharBoundary text (cut in_values text).1
  unfolding item_cut value_cut
  cut-boundary true = value-boundary _ refl
  cut-boundary false = item-boundary _ _ refl

-- ---- progress

field-some : (head : List ℕ) (opens none : Bool) → is_field head ≡ true → 1 ≤ length_of (if opens && none then (OpensValues, length head + 1) else (Plain, length head))
unfolding is_field after_name name_len trim_start indent
field-some [] opens none e = cc
field-some (b ∷ head) true true e = omega arith
field-some (b ∷ head) true false e = omega arith
field-some (b ∷ head) false none e = omega arith

code-some : (b : ℕ) (text : List ℕ) (c : Bool) → 1 ≤ (if c then 1 else 1 + code_len text)
code-some b text true = omega arith
code-some b text false = omega arith

-- a section's head, or a brace
section-some : (head : List ℕ) (coded opens : Bool) → nat_lt (code_len head) (length head) ≡ coded → (head ≡ [] → opens ≡ true) →
    1 ≤ length_of (if coded then (Plain, code_len head) else (if opens then (OpensItems, length head + 1) else (Plain, length head)))
section-some [] true opens e h = absurd cc
section-some [] false true e h = omega arith
section-some [] false false e h = let no = h refl in absurd cc
section-some (b ∷ head) true opens e h = code-some b head (ends_word b && is_comment head)
section-some (b ∷ head) false true e h = omega arith
section-some (b ∷ head) false false e h = omega arith

stop-brace : (b : ℕ) (c : Bool) (n : ℕ) (text : List ℕ) → (not (b == 123) && not (b == 125)) ≡ c → (b == 125) ≡ false → take (cond c (1 + n) 0) (b ∷ text) ≡ [] →
    begins_with 123 (drop (cond c (1 + n) 0) (b ∷ text)) ≡ true
stop-brace b true n text e h k = let some : b ∷ take n text ≡ [] = ap (λ m. take m (b ∷ text)) (sym (one-add n)) ∙ k in absurd cc
stop-brace b false n text e h k = grind (arith, nat_tests)

head-none : (text : List ℕ) → 0 < length text → begins_with 125 text ≡ false → take (brace_len text) text ≡ [] → begins_with 123 (drop (brace_len text) text) ≡ true
unfolding brace_len
head-none [] l h k = absurd (omega arith)
head-none (b ∷ text) l h k = stop-brace b _ (prefix_len (λ b. not (b == 123) && not (b == 125)) text) text refl h k

item-some : (text : List ℕ) (closes field : Bool) → 0 < length text → begins_with 125 text ≡ closes → is_field (take (brace_len text) text) ≡ field →
    1 ≤ length_of (if closes then (Closes, 1)
    else (if field then field_cut (take (brace_len text) text) (begins_with 123 (drop (brace_len text) text))
    else section_cut (take (brace_len text) text) (begins_with 123 (drop (brace_len text) text))))
unfolding field_cut section_cut
item-some text true field l e f = omega arith
item-some text false true l e f =
    field-some (take (brace_len text) text) (begins_with 123 (drop (brace_len text) text)) (not (has_value (take (brace_len text) text))) f
item-some text false false l e f = section-some (take (brace_len text) text) _ (begins_with 123 (drop (brace_len text) text)) refl (head-none text l e)

close-some : (b : ℕ) (text : List ℕ) (c : Bool) → (b == 125) ≡ c → 1 ≤ length_of (if c then (Closes, 1) else (Plain, cond (not c) (1 + close_len text) 0))
close-some b text true e = omega arith
close-some b text false e = omega arith

value-some : (text : List ℕ) → 0 < length text → 1 ≤ length_of (value_cut text)
unfolding value_cut close_len
value-some [] l = absurd (omega arith)
value-some (b ∷ text) l = close-some b text (b == 125) refl

pub cut-some : (in_values : Bool) (text : List ℕ) → 0 < length text → 1 ≤ (cut in_values text).1
unfolding item_cut
cut-some true text l = value-some text l
cut-some false text l = item-some text _ _ l refl refl

pub rest-shorter : (in_values : Bool) (text : List ℕ) → 0 < length text → length (uncommented (drop (cut in_values text).1 text)) < length text
rest-shorter in_values text l =
    omega (arith, cut-some in_values text l, uncommented-le (drop (cut in_values text).1 text), length-drop (cut in_values text).1 text)
