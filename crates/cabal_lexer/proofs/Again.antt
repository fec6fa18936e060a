-- Shared: the canonical text of a printable tree parses as the same tree, except for line numbers.
use Rattle.std.proofs.Common.{◌≡◌, ℕ, zero, suc, ◌+◌, ◌-◌, ◌<◌, ◌≤◌, Bool, true, false, cond, List, [], ◌∷◌, ◌++◌, length, take, drop, refl, sym, ◌∙◌, ap, subst, arith, append_assoc, length-append}
use Rattle.std.specs.Prelude.{reverse, map, not, ◌&&◌, ◌||◌, ◌==◌, nat_le, if◌then◌else◌}
use Rattle.std.specs.declared.result.Result.TheVariants.{Ok}
use Rattle.std.specs.List.{prefix_len, list_all, list_any}
use Rattle.std.specs.Str.{IsUtf8, IsAscii}
use Rattle.std.proofs.lemmas.List.Elements.{All-append, All-drop, All-take, All-cons, All-nil}
use Rattle.std.proofs.lemmas.List.{reverse-append}
use Rattle.std.proofs.lemmas.List.Folds.{list_all-append, flat_map-map}
use Rattle.std.proofs.lemmas.Str.{IsUtf8-append, IsUtf8-nil, IsUtf8-from_ascii, IsUtf8-take, IsUtf8-drop}
use Rattle.cabal_lexer.proofs.Texts.{is_name_byte-ascii, begins_with-boundary, ends_with_brace-boundary, trim_end-take}
use Rattle.std.proofs.lemmas.Bool.Decides.{nat_tests}
use Rattle.std.proofs.lemmas.Grind.{flat_map-append}
use Rattle.plan_types.specs.declared.element.Element.{Element, fold-Element}
use Rattle.plan_types.specs.declared.element.Element.TheVariants.{Field, Section}
use Rattle.plan_types.specs.Name.{is_letter}
use Rattle.cabal_lexer.specs.Lines.{Line, indent, trim_start, trim_end, trim, is_comment, kept_line, kept_from}
use Rattle.plan_types.specs.Bytes.{is_blank, begins_with}
use Rattle.cabal_lexer.specs.Opening.{Opening, field, braced_field, section, braced_section, is_name_byte, name_len, lower_case, is_lone, ends_with_brace, before_brace, opening}
use Rattle.cabal_lexer.specs.Layout.{ends, Ends, Inside, Begins, texts, first_value, Stands, nothing, element, Block, run, braced_run, indented, enclosed}
use Rattle.cabal_lexer.specs.Canonical.{value_lines, field_text, section_line, items_text, element_text}
use Rattle.cabal_lexer.specs.Folds.{text-field, text-section, zero-field, zero-section, return-field, return-section}
use Rattle.cabal_lexer.specs.RoundTrip.{zero_layer, unnumbered, ends_with_return, return_layer, without_returns}
use Rattle.cabal_lexer.specs.Printable.{OneLine, Piece, IsName, IsKeptText, Further, Values, WithoutReturns, AreArgs, Printable}
use Rattle.cabal_lexer.specs.Printable as printable
use Rattle.cabal_lexer.proofs.TextPieces.{Piece-join, Piece-trim, Piece-trim_end, front-take, front-drop, start-same}
use Rattle.cabal_lexer.proofs.Beginnings.{IsName-lower, Named, opening-parts, within-ok, within-from, opening-bare_field, opening-field, opening-bare_section, opening-section}
use Rattle.cabal_lexer.proofs.CanonicalLines.{joined, Clean, AllClean, clean-append, BeginsAscii, ascii-append, return-append, return-cons, kept_from-append, line_of, kept_line-printed}
use Rattle.std.proofs.lemmas.Bool.{not-true, and_parts, and_from}
use Rattle.text_grammar.proofs.Boundaries.{boundary_front, is_blank-ascii}

-- ---- properties of parsed lines

abbrev pub KeptTexts : List Line → Type 0
KeptTexts [] = Unit {0}
KeptTexts (line ∷ lines) = IsKeptText line.text × KeptTexts lines

kept-front : (a b : List Line) → KeptTexts (a ++ b) → KeptTexts a
kept-front [] b h = tt
kept-front (line ∷ a) b h = (h.0, kept-front a b h.1)

kept-back : (a b : List Line) → KeptTexts (a ++ b) → KeptTexts b
kept-back [] b h = h
kept-back (line ∷ a) b h = kept-back a b h.1

further : (lines : List Line) → KeptTexts lines → Further (texts lines)
further [] h = tt
further (line ∷ lines) h = (h.0, further lines h.1)

values-from_texts : (lines : List Line) → KeptTexts lines → Values (texts lines)
values-from_texts [] h = tt
values-from_texts (line ∷ lines) h = (h.0.piece, h.0.some, further lines h.1)

values-from_first : (first : List ℕ) (lines : List Line) → Piece first → KeptTexts lines → Values (first_value first ++ texts lines)
values-from_first [] lines p h = values-from_texts lines h
values-from_first (b ∷ first) lines p h = (p, omega arith, further lines h)

-- ---- the indent of a printed line

pub record IsIndent (s : List ℕ) : Type 0 where
  pub blanks : list_all is_blank s ≡ true
  pub one_line : OneLine s
  pub utf8 : IsUtf8 s
  pub ascii : BeginsAscii s

indent-more : (s t : List ℕ) → IsIndent s → IsIndent t → IsIndent (s ++ t)
indent-more s t i j = record {
  blanks = list_all-append is_blank s t ∙ ap (λ b. b && list_all is_blank t) i.blanks ∙ j.blanks;
  one_line = All-append (λ b. (b == 10) ≡ false) s t i.one_line j.one_line;
  utf8 = IsUtf8-append s t i.utf8 j.utf8;
  ascii = ascii-append s t i.ascii j.ascii;
}

-- ---- one printed element

pub record PrintedItem (s : List ℕ) (depth k : ℕ) (text : List ℕ) (item : Element) : Type 0 where
  pub first : List ℕ
  pub others : List (List ℕ)
  pub whole : text ≡ joined (first ∷ others)
  pub clean : AllClean (first ∷ others)
  pub ascii : BeginsAscii text
  pub line : Line
  pub at : line.indent ≡ length s
  pub kept : kept_line k first ≡ line ∷ []
  pub again : Element
  pub block : (rest : List Line) → Ends (line.indent + 1) false rest → Block depth false line (kept_from (k + 1) others) rest again
  pub same : fold-Element Element zero_layer again ≡ fold-Element Element zero_layer item

pub record PrintedItems (s : List ℕ) (depth k : ℕ) (text : List ℕ) (items : List Element) : Type 0 where
  pub raws : List (List ℕ)
  pub whole : text ≡ joined raws
  pub clean : AllClean raws
  pub ascii : BeginsAscii text
  pub again : List Element
  pub stands : (bound : ℕ) → bound ≤ length s → Stands bound depth false (kept_from k raws) again
  pub same : unnumbered again ≡ unnumbered items
  pub top : (bound : ℕ) → length s < bound → Ends bound false (kept_from k raws)

no-items : (s : List ℕ) (depth k : ℕ) → PrintedItems s depth k [] []
no-items s depth k = record {
  raws = [];
  whole = refl;
  clean = tt;
  ascii = tt;
  again = [];
  stands = λ bound h. nothing;
  same = refl;
  top = λ bound h. tt;
}

inside-from : (bound : ℕ) (line : Line) → bound ≤ line.indent → ends bound false line ≡ false
inside-from bound line h = grind (arith, nat_tests)

ends-from : (bound : ℕ) (line : Line) → line.indent < bound → ends bound false line ≡ true
ends-from bound line h = grind (arith, nat_tests)

more-items : (s : List ℕ) (depth k : ℕ) (a b : List ℕ) (item : Element) (items : List Element) (p : PrintedItem s depth k a item) →
    PrintedItems s depth (k + 1 + length p.others) b items → PrintedItems s depth k (a ++ b) (item ∷ items)
more-items s depth k a b item items p q =
    let cut : kept_from k (p.first ∷ p.others ++ q.raws) ≡ p.line ∷ kept_from (k + 1) p.others ++ kept_from (k + 1 + length p.others) q.raws =
    ap (λ v. v ++ kept_from (k + 1) (p.others ++ q.raws)) p.kept ∙ ap (λ v. p.line ∷ v) (kept_from-append (k + 1) p.others q.raws) in
    record {
      raws = p.first ∷ p.others ++ q.raws;
      whole = ap (λ v. v ++ b) p.whole ∙ ap (λ v. joined (p.first ∷ p.others) ++ v) q.whole ∙ sym (flat_map-append (λ raw. raw ++ 10 ∷ []) (p.first ∷ p.others) q.raws);
      clean = clean-append (p.first ∷ p.others) q.raws p.clean q.clean;
      ascii = ascii-append a b p.ascii q.ascii;
      again = p.again ∷ q.again;
      stands = λ bound h. subst (λ v. Stands bound depth false v (p.again ∷ q.again)) (sym cut)
          (element p.line (kept_from (k + 1) p.others) (kept_from (k + 1 + length p.others) q.raws) (inside-from bound p.line (subst (λ n. bound ≤ n) (sym p.at) h))
          (p.block (kept_from (k + 1 + length p.others) q.raws) (q.top (p.line.indent + 1) (subst (λ n. length s < n + 1) (sym p.at) (omega arith)))) (q.stands bound h));
      same = ap (λ v. v ∷ unnumbered q.again) p.same ∙ ap (λ v. fold-Element Element zero_layer item ∷ v) q.same;
      top = λ bound h. subst (λ v. Ends bound false v) (sym cut) (ends-from bound p.line (subst (λ n. n < bound) (sym p.at) h));
    }

two : IsIndent (32 ∷ 32 ∷ [])
unfolding lib.Utf8.encode
two = record {
  blanks = refl;
  one_line = All-cons (λ b. (b == 10) ≡ false) 32 (32 ∷ []) refl (All-cons (λ b. (b == 10) ≡ false) 32 [] refl (All-nil (λ b. (b == 10) ≡ false)));
  utf8 = (32 ∷ 32 ∷ [], (refl, refl));
  ascii = omega arith;
}

four : IsIndent (32 ∷ 32 ∷ 32 ∷ 32 ∷ [])
four = indent-more (32 ∷ 32 ∷ []) (32 ∷ 32 ∷ []) two two

pub none : IsIndent []
none = record { blanks = refl; one_line = All-nil (λ b. (b == 10) ≡ false); utf8 = IsUtf8-nil; ascii = tt }

clean-line : (s x : List ℕ) → IsIndent s → Piece x → 0 < length x → ends_with_return x ≡ false → Clean (s ++ x)
clean-line s x i p l r = record {
  one_line = All-append (λ b. (b == 10) ≡ false) s x i.one_line p.one_line;
  return = return-append s x l ∙ r;
  utf8 = IsUtf8-append s x i.utf8 p.utf8;
}

-- ---- names

name-some : (name : List ℕ) → IsName name → 0 < length name
name-some [] n = let h = n.letter in absurd cc
name-some (b ∷ name) n = omega arith

not-blank : (b : ℕ) → is_name_byte b ≡ true → is_blank b ≡ false
not-blank b h = grind (arith, nat_tests)

not-newline : (b : ℕ) → is_name_byte b ≡ true → (b == 10) ≡ false
not-newline b h = grind (arith, nat_tests)

not-return : (b : ℕ) → is_name_byte b ≡ true → (b == 13) ≡ false
not-return b h = grind (arith, nat_tests)

low-byte : (b : ℕ) → is_name_byte b ≡ true → b < 128
low-byte b h = grind (arith, nat_tests)

letter-hyphen : (b : ℕ) → (is_letter b || false) ≡ true → (b == 45) ≡ false
letter-hyphen b h = grind (arith, nat_tests)

all-reverse : (p : ℕ → Bool) (x : List ℕ) → list_all p x ≡ true → list_all p (reverse x) ≡ true
all-reverse p [] h = refl
all-reverse p (b ∷ x) h =
    ap (list_all p) (reverse-append (b ∷ []) x) ∙ list_all-append p (reverse x) (b ∷ [])
    ∙ and_from _ _ (all-reverse p x ((and_parts (p b) (list_all p x) h).1)) (and_from _ _ ((and_parts (p b) (list_all p x) h).0) refl)

bytes-front : (x : List ℕ) → list_all is_name_byte x ≡ true → indent x ≡ 0
unfolding indent
bytes-front [] h = refl
bytes-front (b ∷ x) h = ap (λ c. cond c (1 + prefix_len is_blank x) 0) (not-blank b ((and_parts (is_name_byte b) (list_all is_name_byte x) h).0))

bytes-return : (x : List ℕ) → list_all is_name_byte x ≡ true → ends_with_return x ≡ false
unfolding ends_with_return
bytes-return [] h = refl
bytes-return (b ∷ []) h = not-return b ((and_parts (is_name_byte b) true h).0)
bytes-return (b ∷ c ∷ x) h = return-cons b c x ∙ bytes-return (c ∷ x) ((and_parts (is_name_byte b) (list_all is_name_byte (c ∷ x)) h).1)

bytes-line : (x : List ℕ) → list_all is_name_byte x ≡ true → OneLine x
bytes-line [] h = All-nil (λ b. (b == 10) ≡ false)
bytes-line (b ∷ x) h = All-cons (λ b. (b == 10) ≡ false) b x (not-newline b ((and_parts (is_name_byte b) (list_all is_name_byte x) h).0)) (bytes-line x ((and_parts (is_name_byte b) (list_all is_name_byte x) h).1))

bytes-ascii : (x : List ℕ) → list_all is_name_byte x ≡ true → IsAscii x
bytes-ascii [] h k = omega arith
bytes-ascii (b ∷ x) h zero = low-byte b ((and_parts (is_name_byte b) (list_all is_name_byte x) h).0)
bytes-ascii (b ∷ x) h (suc k) = bytes-ascii x ((and_parts (is_name_byte b) (list_all is_name_byte x) h).1) k

bytes-low : (x : List ℕ) → list_all is_name_byte x ≡ true → BeginsAscii x
bytes-low [] h = tt
bytes-low (b ∷ x) h = low-byte b ((and_parts (is_name_byte b) (list_all is_name_byte x) h).0)

name-code : (name rest : List ℕ) → list_any is_letter name ≡ true → is_comment name ≡ false → is_comment (name ++ rest) ≡ false
unfolding is_comment
name-code [] rest h c = absurd cc
name-code (a ∷ []) [] h c = c
name-code (a ∷ []) (b ∷ rest) h c = ap (λ v. v && (b == 45)) (letter-hyphen a h)
name-code (a ∷ b ∷ name) rest h c = c

name-piece : (name : List ℕ) → IsName name → Piece name
name-piece name n = record {
  front = bytes-front name n.bytes;
  back = bytes-front (reverse name) (all-reverse is_name_byte name n.bytes);
  one_line = bytes-line name n.bytes;
  utf8 = IsUtf8-from_ascii name (bytes-ascii name n.bytes);
}

-- a name and more, as a piece
named-piece : (name m y : List ℕ) → IsName name → OneLine m → IsUtf8 m → Piece y → 0 < length y → Piece (name ++ (m ++ y))
named-piece name m y n o u p l = let q = name-piece name n in Piece-join name m y q.front q.one_line q.utf8 (name-some name n) o u p l

colon : Piece (58 ∷ [])
unfolding lib.Utf8.encode indent
colon = record { front = refl; back = refl; one_line = All-cons (λ b. (b == 10) ≡ false) 58 [] refl (All-nil (λ b. (b == 10) ≡ false)); utf8 = (58 ∷ [], (refl, refl)) }

space-utf8 : IsUtf8 (32 ∷ [])
unfolding lib.Utf8.encode
space-utf8 = (32 ∷ [], (refl, refl))

space-line : OneLine (32 ∷ [])
space-line = All-cons (λ b. (b == 10) ≡ false) 32 [] refl (All-nil (λ b. (b == 10) ≡ false))

-- ---- the texts of lines

line-text : (s n r t : List ℕ) → s ++ n ++ (r ++ 10 ∷ t) ≡ (s ++ (n ++ r)) ++ (10 ∷ []) ++ t
line-text s n r t = simp append_assoc refl

-- ---- values

abbrev value_raws : List ℕ → List (List ℕ) → List (List ℕ)
value_raws s values = map (λ value. (s ++ 32 ∷ 32 ∷ 32 ∷ 32 ∷ []) ++ value) values

module _ (s : List ℕ) (i : IsIndent s) where
  value-kept : (k : ℕ) (value : List ℕ) → IsKeptText value →
      kept_line k ((s ++ 32 ∷ 32 ∷ 32 ∷ 32 ∷ []) ++ value) ≡ line_of k (length (s ++ 32 ∷ 32 ∷ 32 ∷ 32 ∷ [])) value ∷ []
  value-kept k value h =
      kept_line-printed k (s ++ 32 ∷ 32 ∷ 32 ∷ 32 ∷ []) value (indent-more s (32 ∷ 32 ∷ 32 ∷ 32 ∷ []) i four).blanks h.piece h.some h.code

  values-texts : (k : ℕ) (values : List (List ℕ)) → Further values → texts (kept_from k (value_raws s values)) ≡ values
  values-texts k [] h = refl
  values-texts k (value ∷ values) h =
      ap (λ v. texts (v ++ kept_from (k + 1) (value_raws s values))) (value-kept k value h.0) ∙ ap (λ v. value ∷ v) (values-texts (k + 1) values h.1)

  values-inside : (k : ℕ) (values : List (List ℕ)) → Further values → Inside (length s + 1) false (kept_from k (value_raws s values))
  values-inside k [] h = refl
  values-inside k (value ∷ values) h =
      let deep : length s + 1 ≤ length (s ++ 32 ∷ 32 ∷ 32 ∷ 32 ∷ []) = omega (arith, length-append s (32 ∷ 32 ∷ 32 ∷ 32 ∷ [])) in
      ap (λ v. list_all (λ line. not (ends (length s + 1) false line)) (v ++ kept_from (k + 1) (value_raws s values))) (value-kept k value h.0)
      ∙ ap (λ b. not b && list_all (λ line. not (ends (length s + 1) false line)) (kept_from (k + 1) (value_raws s values)))
      (inside-from (length s + 1) (line_of k (length (s ++ 32 ∷ 32 ∷ 32 ∷ 32 ∷ [])) value) deep)
      ∙ values-inside (k + 1) values h.1

  values-clean : (values : List (List ℕ)) → Further values → list_all (λ value. not (ends_with_return value)) values ≡ true → AllClean (value_raws s values)
  values-clean [] h r = tt
  values-clean (value ∷ values) h r = (
    clean-line (s ++ 32 ∷ 32 ∷ 32 ∷ 32 ∷ []) value (indent-more s (32 ∷ 32 ∷ 32 ∷ 32 ∷ []) i four) h.0.piece h.0.some (not-true _ ((and_parts _ _ r).0)),
    values-clean values h.1 ((and_parts (not (ends_with_return value)) _ r).1),
  )

  values-whole : (values : List (List ℕ)) → value_lines s values ≡ joined (value_raws s values)
  unfolding value_lines
  values-whole values = sym (flat_map-map (λ raw. raw ++ 10 ∷ []) (λ value. (s ++ 32 ∷ 32 ∷ 32 ∷ 32 ∷ []) ++ value) values)

-- ---- printed fields

first-one : (first : List ℕ) → 0 < length first → first_value first ≡ first ∷ []
first-one [] l = absurd (omega arith)
first-one (b ∷ first) l = refl

lone-kept : (first : List ℕ) → is_lone 123 first ≡ true → is_comment first ≡ false
unfolding is_lone is_comment
lone-kept [] h = refl
lone-kept (a ∷ []) h = let no : (a == 45) ≡ false = grind (arith, nat_tests) in ap (λ v. v && false) no
lone-kept (a ∷ b ∷ x) h = grind (arith, nat_tests)

line-low : (s x t : List ℕ) → BeginsAscii s → BeginsAscii x → BeginsAscii ((s ++ x) ++ (10 ∷ []) ++ t)
line-low [] [] t h k = omega arith
line-low [] (c ∷ x) t h k = k
line-low (b ∷ s) x t h k = h

name-low : (name rest : List ℕ) → IsName name → BeginsAscii (name ++ rest)
name-low [] rest n = let h = name-some [] n in absurd (omega arith)
name-low (b ∷ name) rest n = bytes-low (b ∷ name) n.bytes

module _ (s : List ℕ) (i : IsIndent s) (depth k number : ℕ) (low : nat_le depth 64 ≡ true) (name : List ℕ) (n : IsName name) where
  -- a field with a known first line, and the further values on their own lines
  field-lines : (x first : List ℕ) (given more : List (List ℕ)) (text : List ℕ) → Piece x → 0 < length x → is_comment x ≡ false → ends_with_return x ≡ false → BeginsAscii x →
      opening x ≡ Ok (field name first) → Further more → list_all (λ value. not (ends_with_return value)) more ≡ true → first_value first ++ more ≡ given →
      text ≡ joined ((s ++ x) ∷ value_raws s more) → PrintedItem s depth k text (Field number name given)
  field-lines x first given more text p l c r a o f returns all w = record {
    first = s ++ x;
    others = value_raws s more;
    whole = w;
    clean = (clean-line s x i p l r, values-clean s i more f returns);
    ascii = subst BeginsAscii (sym w) (line-low s x (joined (value_raws s more)) i.ascii a);
    line = line_of k (length s) x;
    at = refl;
    kept = kept_line-printed k s x i.blanks p l c;
    again = Field k name (first_value first ++ texts (kept_from (k + 1) (value_raws s more)));
    block = λ rest e. run (within-from depth (opening x) (field name first) o low) (values-inside s i (k + 1) more f) e;
    same =
        zero-field k name (first_value first ++ texts (kept_from (k + 1) (value_raws s more)))
        ∙ ap (λ v. Field 0 name (first_value first ++ v)) (values-texts s i (k + 1) more f)
        ∙ ap (λ v. Field 0 name v) all
        ∙ sym (zero-field number name given);
  }

  -- a field without a value after its colon
  bare-field : (values : List (List ℕ)) (text : List ℕ) → Further values → list_all (λ value. not (ends_with_return value)) values ≡ true →
      text ≡ s ++ name ++ (58 ∷ 10 ∷ value_lines s values) → PrintedItem s depth k text (Field number name values)
  unfolding ends_with_return
  bare-field values text f r w =
      field-lines (name ++ 58 ∷ []) [] values values text
      (named-piece name [] (58 ∷ []) n (All-nil (λ b. (b == 10) ≡ false)) IsUtf8-nil colon (omega arith))
      (omega (arith, length-append name (58 ∷ [])))
      (name-code name (58 ∷ []) n.letter n.code) (return-append name (58 ∷ []) (omega arith)) (name-low name (58 ∷ []) n) (opening-bare_field name n) f r refl
      (w ∙ line-text s name (58 ∷ []) (value_lines s values) ∙ ap (λ v. (s ++ (name ++ 58 ∷ [])) ++ (10 ∷ []) ++ v) (values-whole s i values))

  first-field : (first : List ℕ) (values : List (List ℕ)) (text : List ℕ) → Piece first → 0 < length first → is_lone 123 first ≡ false → ends_with_return first ≡ false →
      Further values → list_all (λ value. not (ends_with_return value)) values ≡ true →
      text ≡ s ++ name ++ (58 ∷ 32 ∷ (first ++ 10 ∷ value_lines s values)) → PrintedItem s depth k text (Field number name (first ∷ values))
  unfolding lib.Utf8.encode
  first-field first values text p l lone fr f r w =
      field-lines (name ++ 58 ∷ 32 ∷ first) first (first ∷ values) values text
      (named-piece name (58 ∷ 32 ∷ []) first n (All-append (λ b. (b == 10) ≡ false) (58 ∷ []) (32 ∷ []) colon.one_line space-line) (58 ∷ 32 ∷ [], (refl, refl)) p l)
      (omega (arith, length-append name (58 ∷ 32 ∷ first)))
      (name-code name (58 ∷ 32 ∷ first) n.letter n.code)
      (return-append name (58 ∷ 32 ∷ first) (omega arith) ∙ return-append (58 ∷ 32 ∷ []) first l ∙ fr) (name-low name (58 ∷ 32 ∷ first) n)
      (opening-field name first n p lone) f r (ap (λ v. v ++ values) (first-one first l))
      (w ∙ line-text s name (58 ∷ 32 ∷ first) (value_lines s values) ∙ ap (λ v. (s ++ (name ++ 58 ∷ 32 ∷ first)) ++ (10 ∷ []) ++ v) (values-whole s i values))

  field-by : (first : List ℕ) (values : List (List ℕ)) (c : Bool) → is_lone 123 first ≡ c → Piece first → 0 < length first → Further values →
      list_all (λ value. not (ends_with_return value)) (first ∷ values) ≡ true → PrintedItem s depth k (field_text s name (first ∷ values)) (Field number name (first ∷ values))
  unfolding field_text value_lines
  field-by first values true e p l f r =
      bare-field (first ∷ values) _ (record { piece = p; some = l; code = lone-kept first e }, f) r
      (ap (λ b. if b then s ++ name ++ (58 ∷ 10 ∷ []) ++ value_lines s (first ∷ values) else s ++ name ++ (58 ∷ 32 ∷ []) ++ first ++ (10 ∷ []) ++ value_lines s values) e
      ∙ append_assoc (s ++ name) (58 ∷ 10 ∷ []) (value_lines s (first ∷ values)))
  field-by first values false e p l f r =
      first-field first values _ p l e (not-true _ ((and_parts (not (ends_with_return first)) _ r).0)) f ((and_parts (not (ends_with_return first)) _ r).1)
      (ap (λ b. if b then s ++ name ++ (58 ∷ 10 ∷ []) ++ value_lines s (first ∷ values) else s ++ name ++ (58 ∷ 32 ∷ []) ++ first ++ (10 ∷ []) ++ value_lines s values) e
      ∙ simp append_assoc refl)

  field-printed : (values : List (List ℕ)) → Values values → list_all (λ value. not (ends_with_return value)) values ≡ true →
      PrintedItem s depth k (field_text s name values) (Field number name values)
  unfolding field_text value_lines
  field-printed [] f r = bare-field [] _ tt refl refl
  field-printed (first ∷ values) f r = field-by first values (is_lone 123 first) refl f.0 f.1 f.2 r

  -- ---- printed sections

  module _ (items : List Element) (inner : PrintedItems (s ++ 32 ∷ 32 ∷ []) (depth + 1) (k + 1) (items_text items (s ++ 32 ∷ 32 ∷ [])) items) where
    section-lines : (x args : List ℕ) (text : List ℕ) → Piece x → 0 < length x → is_comment x ≡ false → ends_with_return x ≡ false → BeginsAscii x →
        opening x ≡ Ok (section name args) → text ≡ (s ++ x) ++ (10 ∷ []) ++ items_text items (s ++ 32 ∷ 32 ∷ []) →
        PrintedItem s depth k text (Section number name args items)
    section-lines x args text p l c r a o w =
        let deep : length s + 1 ≤ length (s ++ 32 ∷ 32 ∷ []) = omega (arith, length-append s (32 ∷ 32 ∷ [])) in
        let all : text ≡ joined ((s ++ x) ∷ inner.raws) = w ∙ ap (λ v. (s ++ x) ++ (10 ∷ []) ++ v) inner.whole in
        record {
          first = s ++ x;
          others = inner.raws;
          whole = all;
          clean = (clean-line s x i p l r, inner.clean);
          ascii = subst BeginsAscii (sym all) (line-low s x (joined inner.raws) i.ascii a);
          line = line_of k (length s) x;
          at = refl;
          kept = kept_line-printed k s x i.blanks p l c;
          again = Section k name args inner.again;
          block = λ rest e. indented (within-from depth (opening x) (section name args) o low) (inner.stands (length s + 1) deep) e;
          same = zero-section k name args inner.again ∙ ap (λ v. Section 0 name args v) inner.same ∙ sym (zero-section number name args items);
        }

    section-printed : (args : List ℕ) → Piece args → begins_with 58 args ≡ false → ends_with_brace args ≡ false → ends_with_return args ≡ false →
        PrintedItem s depth k (section_line s name args ++ items_text items (s ++ 32 ∷ 32 ∷ [])) (Section number name args items)
    unfolding section_line
    section-printed [] p c e r =
        section-lines name [] _ (name-piece name n) (name-some name n) n.code (bytes-return name n.bytes) (bytes-low name n.bytes) (opening-bare_section name n)
        refl
    section-printed (b ∷ args) p c e r =
        section-lines (name ++ 32 ∷ b ∷ args) (b ∷ args) _ (named-piece name (32 ∷ []) (b ∷ args) n space-line space-utf8 p (omega arith))
        (omega (arith, length-append name (32 ∷ b ∷ args)))
        (name-code name (32 ∷ b ∷ args) n.letter n.code)
        (return-append name (32 ∷ b ∷ args) (omega arith) ∙ return-append (32 ∷ []) (b ∷ args) (omega arith) ∙ r) (name-low name (32 ∷ b ∷ args) n)
        (opening-section name (b ∷ args) n p c e)
        (simp append_assoc refl)

-- ---- the parts of a parsed line

begins-take : (b n : ℕ) (x : List ℕ) → begins_with b x ≡ false → begins_with b (take n x) ≡ false
begins-take b zero [] h = refl
begins-take b zero (c ∷ x) h = refl
begins-take b (suc n) [] h = refl
begins-take b (suc n) (c ∷ x) h = h

begins-end : (b : ℕ) (x : List ℕ) → begins_with b x ≡ false → begins_with b (trim_end x) ≡ false
begins-end b x h = subst (λ v. begins_with b v ≡ false) (trim_end-take x) (begins-take b (length x - indent (reverse x)) x h)

record Rest (rest : List ℕ) : Type 0 where
  front : indent rest ≡ 0
  one_line : OneLine rest
  utf8 : IsUtf8 rest

rest-of : (text : List ℕ) → Piece text → Rest (trim_start (drop (name_len text) text))
unfolding trim_start name_len indent
rest-of text p =
    let after : IsUtf8 (drop (name_len text) text) = IsUtf8-drop text (name_len text) p.utf8 (boundary_front is_name_byte text is_name_byte-ascii p.utf8) in
    let x = drop (name_len text) text in
    record {
      front = front-drop x;
      one_line = All-drop (λ b. (b == 10) ≡ false) (indent x) x (All-drop (λ b. (b == 10) ≡ false) (name_len text) text p.one_line);
      utf8 = IsUtf8-drop x (indent x) after (boundary_front is_blank x is_blank-ascii after);
    }

begins-trim : (rest : List ℕ) → Rest rest → begins_with 58 rest ≡ false → begins_with 58 (trim rest) ≡ false
unfolding trim
begins-trim rest q h = begins-end 58 (trim_start rest) (subst (λ v. begins_with 58 v ≡ false) (sym (start-same rest q.front)) h)

trim-piece : (rest : List ℕ) → Rest rest → Piece (trim rest)
trim-piece rest q = Piece-trim rest q.one_line q.utf8

first-piece : (rest : List ℕ) → Rest rest → begins_with 58 rest ≡ true → Piece (trim (drop 1 rest))
first-piece rest q h =
    Piece-trim (drop 1 rest) (All-drop (λ b. (b == 10) ≡ false) 1 rest q.one_line) (IsUtf8-drop rest 1 q.utf8 (begins_with-boundary 58 rest (omega arith) q.utf8 h))

brace-piece : (args : List ℕ) → Piece args → ends_with_brace args ≡ true → Piece (before_brace args)
unfolding before_brace
brace-piece args p h =
    Piece-trim_end (take (length args - 1) args) (front-take (length args - 1) args p.front) (All-take (λ b. (b == 10) ≡ false) (length args - 1) args p.one_line)
    (IsUtf8-take args (length args - 1) p.utf8 (ends_with_brace-boundary args h))

brace-begins : (args : List ℕ) → begins_with 58 args ≡ false → begins_with 58 (before_brace args) ≡ false
unfolding before_brace
brace-begins args h = begins-end 58 (take (length args - 1) args) (begins-take 58 (length args - 1) args h)

record FieldParts (depth : ℕ) (name : List ℕ) : Type 0 where
  name_is : IsName name
  low : nat_le depth 64 ≡ true

module _ (depth : ℕ) (line : Line) (h : IsKeptText line.text) where
  name-parts : (o : Opening) (name : List ℕ) → Begins depth line o → name ≡ lower_case (take (name_len line.text) line.text) → FieldParts depth name
  name-parts o name b e =
      let w = within-ok depth (opening line.text) o b in
      let q = opening-parts line.text o w.0 in
      record { name_is = subst IsName (sym e) (IsName-lower line.text h.code q.0); low = w.1 }

  named-parts : (o : Opening) → Begins depth line o → Named (lower_case (take (name_len line.text) line.text)) (trim_start (drop (name_len line.text) line.text)) o
  named-parts o b = (opening-parts line.text o (within-ok depth (opening line.text) o b).0).1

  first-part : (name first : List ℕ) → Begins depth line (field name first) → Piece first
  first-part name first b =
      let q = named-parts (field name first) b in
      subst Piece (sym q.1) (first-piece _ (rest-of line.text h.piece) q.3)

  args-part : (name args : List ℕ) → Begins depth line (section name args) → Piece args × (begins_with 58 args ≡ false) × (ends_with_brace args ≡ false)
  args-part name args b =
      let q = named-parts (section name args) b in
      let r = rest-of line.text h.piece in
      (subst Piece (sym q.1) (trim-piece _ r), subst (λ v. begins_with 58 v ≡ false) (sym q.1) (begins-trim _ r q.2), q.3)

  braced_args-part : (name args : List ℕ) → Begins depth line (braced_section name args) → Piece args × (begins_with 58 args ≡ false) × (ends_with_brace args ≡ false)
  braced_args-part name args b =
      let q = named-parts (braced_section name args) b in
      let r = rest-of line.text h.piece in
      (subst Piece (sym q.1) (brace-piece _ (trim-piece _ r) q.4), subst (λ v. begins_with 58 v ≡ false) (sym q.1) (brace-begins _ (begins-trim _ r q.2)), q.3)

-- ---- a tree

pub printed-items : {depth : ℕ} {items : List Element} → Printable depth items → (s : List ℕ) → IsIndent s → (k : ℕ) → PrintedItems s depth k (items_text items s) items
printed-items {depth} printable.nothing s i k = no-items s depth k
printed-items {depth} (printable.field {name = name} {values = values} {items = items} line low n v r more) s i k =
    let p = subst (λ t. PrintedItem s depth k t (Field line name values)) (sym (text-field line name values s)) (field-printed s i depth k line low name n values v r) in
    more-items s depth k (element_text (Field line name values) s) (items_text items s) (Field line name values) items p (printed-items more s i (k + 1 + length p.others))
printed-items {depth} (printable.section {name = name} {args = args} {inside = inside} {items = items} line low n a t more) s i k =
    let p = subst (λ v. PrintedItem s depth k v (Section line name args inside)) (sym (text-section line name args inside s))
    (section-printed s i depth k line low name n inside (printed-items t (s ++ 32 ∷ 32 ∷ []) (indent-more s (32 ∷ 32 ∷ []) i two) (k + 1)) args a.piece a.no_colon a.no_brace a.return) in
    more-items s depth k (element_text (Section line name args inside) s) (items_text items s) (Section line name args inside) items p (printed-items more s i (k + 1 + length p.others))

-- ---- the tree of lines is printable

mutual
  pub printable-items : {bound depth : ℕ} {braced : Bool} {lines : List Line} {items : List Element} → Stands bound depth braced lines items → KeptTexts lines →
      without_returns items ≡ true → Printable depth items
  printable-items nothing h r = printable.nothing
  printable-items (element {items = items} {item = item} line block rest e b t) h r =
      printable-item b h.0 (kept-front block rest h.1) ((and_parts _ _ r).0) items
      (printable-items t (kept-back block rest h.1) ((and_parts (fold-Element Bool return_layer item) _ r).1))

  pub printable-item : {depth : ℕ} {braced : Bool} {line : Line} {block rest : List Line} {item : Element} → Block depth braced line block rest item → IsKeptText line.text → KeptTexts block →
      fold-Element Bool return_layer item ≡ true → (others : List Element) → Printable depth others → Printable depth (item ∷ others)
  printable-item {depth} {braced} {line} (run {name = name} {first = first} {values = values} b i x) h g r others more =
      let q = name-parts depth line h (field name first) name b (named-parts depth line h (field name first) b).0 in
      let all = first_value first ++ texts values in
      printable.field line.number q.low q.name_is (values-from_first first values (first-part depth line h name first b) g) (sym (return-field line.number name all) ∙ r) more
  printable-item {depth} {braced} {line} (braced_run {name = name} values close b i c) h g r others more =
      let q = name-parts depth line h (braced_field name) name b (named-parts depth line h (braced_field name) b) in
      printable.field line.number q.low q.name_is (values-from_texts values (kept-front values (close ∷ []) g)) (sym (return-field line.number name (texts values)) ∙ r) more
  printable-item {depth} {braced} {line} (indented {name = name} {args = args} {items = items} b t x) h g r others more =
      let q = name-parts depth line h (section name args) name b (named-parts depth line h (section name args) b).0 in
      let a = args-part depth line h name args b in
      let plain = sym (return-section line.number name args items) ∙ r in
      printable.section line.number q.low q.name_is (record { piece = a.0; no_colon = a.1; no_brace = a.2; return = not-true _ ((and_parts _ (without_returns items) plain).0) })
      (printable-items t g ((and_parts (not (ends_with_return args)) (without_returns items) plain).1)) more
  printable-item {depth} {braced} {line} (enclosed {name = name} {args = args} {items = items} block close b t c) h g r others more =
      let q = name-parts depth line h (braced_section name args) name b (named-parts depth line h (braced_section name args) b).0 in
      let a = braced_args-part depth line h name args b in
      let plain = sym (return-section line.number name args items) ∙ r in
      printable.section line.number q.low q.name_is (record { piece = a.0; no_colon = a.1; no_brace = a.2; return = not-true _ ((and_parts _ (without_returns items) plain).0) })
      (printable-items t (kept-front block (close ∷ []) g) ((and_parts (not (ends_with_return args)) (without_returns items) plain).1)) more
