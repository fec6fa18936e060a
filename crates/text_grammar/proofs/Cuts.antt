-- The words of a text, from left to right.
use Rattle.std.proofs.Common.{◌≡◌, ◌<◌, ℕ, suc, ◌+◌, Bool, true, false, not, cond, List, [], ◌∷◌, length, take, drop, get_or, refl, sym, subst, ap, ◌∙◌, arith, inl, inr}
use Rattle.std.specs.Prelude.{filter}
use Rattle.std.specs.List.{prefix_len, slice_split, onto_first}
use Rattle.std.specs.Str.{IsCharBoundary}
use Rattle.std.proofs.lemmas.Bool.{cases_lt}
use Rattle.std.proofs.lemmas.Bool.Decides.{nat_tests}
use Rattle.std.proofs.lemmas.List.Folds.{length-prefix_len}
use Rattle.std.proofs.lemmas.List.Splits.{slice_split-cons_yes, slice_split-cons_no}
use Rattle.std.proofs.lemmas.List.Sums.{prefix_len-le-length, prefix_len_stops}
use Rattle.std.proofs.lemmas.Str.{IsCharBoundary-end, IsCharBoundary-before_ascii}
use Rattle.std.proofs.lemmas.Bool.{not-false}
use Rattle.text_grammar.specs.Words.{is_between, is_filled}
use Rattle.text_grammar.specs.declared.word.Between.{Between}
use Rattle.text_grammar.specs.declared.word.Between.TheVariants.{Spaces, SpacesAndCommas, BlanksAndCommas}
use Rattle.text_grammar.proofs.Boundaries.{PassesAscii}

pub is_between-ascii : (between : Between) → PassesAscii (is_between between)
is_between-ascii Spaces b h = grind (arith, nat_tests)
is_between-ascii SpacesAndCommas b h = grind (arith, nat_tests)
is_between-ascii BlanksAndCommas b h = grind (arith, nat_tests)

is_filled-yes : (xs : List ℕ) → 0 < length xs → is_filled xs ≡ true
is_filled-yes [] h = absurd (omega (arith, h))
is_filled-yes (x ∷ xs) h = refl

module _ (p : ℕ → Bool) where
  abbrev pub pieces : List ℕ → List (List ℕ)
  pieces text = filter is_filled (slice_split p text)

  -- the length of the first word
  abbrev pub until : List ℕ → ℕ
  until text = prefix_len (λ b. not (p b)) text

  after-cons : (b : ℕ) (bs : List ℕ) (t : Bool) → p b ≡ t → pieces (drop (prefix_len p bs) bs) ≡ pieces bs → pieces (drop (cond t (1 + prefix_len p bs) 0) (b ∷ bs)) ≡ pieces (b ∷ bs)
  after-cons b bs true e ih =
      let one : 1 + prefix_len p bs ≡ suc (prefix_len p bs) = omega arith in
      ap (λ n. pieces (drop n (b ∷ bs))) one ∙ ih ∙ sym (ap (filter is_filled) (slice_split-cons_yes p b bs e))
  after-cons b bs false e ih = refl

  -- leading separators don't change the words
  pub after : (text : List ℕ) → pieces (drop (prefix_len p text) text) ≡ pieces text
  after [] = refl
  after (b ∷ bs) = after-cons b bs (p b) refl (after bs)

  abbrev First : List ℕ → ℕ → Type 0
  First text n = (tail : List (List ℕ)) × (slice_split p text ≡ take n text ∷ tail) × (pieces (drop n text) ≡ filter is_filled tail)

  first-cons : (b : ℕ) (bs : List ℕ) (t : Bool) → p b ≡ t → First bs (until bs) → First (b ∷ bs) (cond (not t) (1 + until bs) 0)
  first-cons b bs true e ih = (slice_split p bs, slice_split-cons_yes p b bs e, ap (filter is_filled) (slice_split-cons_yes p b bs e))
  first-cons b bs false e ih =
      let one : suc (until bs) ≡ 1 + until bs = omega arith in
      subst (First (b ∷ bs)) one (ih.0, slice_split-cons_no p b bs e ∙ ap (onto_first b) ih.1, ih.2)

  first : (text : List ℕ) → First text (until text)
  first [] = ([], refl, refl)
  first (b ∷ bs) = first-cons b bs (p b) refl (first bs)

  pub one_word : (text : List ℕ) → 0 < until text → pieces text ≡ take (until text) text ∷ pieces (drop (until text) text)
  one_word text some =
      let f = first text in
      let w = take (until text) text in
      let filled = is_filled-yes w (omega (arith, length-prefix_len (λ b. not (p b)) text)) in
      ap (filter is_filled) f.1 ∙ ap (λ t. cond t (w ∷ filter is_filled f.0) (filter is_filled f.0)) filled ∙ ap (λ l. w ∷ l) (sym f.2)

  no_word-cons : (b : ℕ) (bs : List ℕ) (t : Bool) → p b ≡ t → (until (drop (prefix_len p bs) bs) ≡ 0 → pieces (drop (prefix_len p bs) bs) ≡ []) →
      until (drop (cond t (1 + prefix_len p bs) 0) (b ∷ bs)) ≡ 0 → pieces (drop (cond t (1 + prefix_len p bs) 0) (b ∷ bs)) ≡ []
  no_word-cons b bs true e ih =
      let one : suc (prefix_len p bs) ≡ 1 + prefix_len p bs = omega arith in
      subst (λ n. until (drop n (b ∷ bs)) ≡ 0 → pieces (drop n (b ∷ bs)) ≡ []) one ih
  no_word-cons b bs false e ih =
      λ h. absurd (let k : 1 + until bs ≡ 0 = sym (ap (λ t. cond (not t) (1 + until bs) 0) e) ∙ h in omega (arith, k))

  -- separators only
  pub no_word : (text : List ℕ) → until (drop (prefix_len p text) text) ≡ 0 → pieces (drop (prefix_len p text) text) ≡ []
  no_word [] h = refl
  no_word (b ∷ bs) h = no_word-cons b bs (p b) refl (no_word bs) h

  -- the end of a word is a character boundary
  pub boundary_until : (text : List ℕ) → PassesAscii p → IsCharBoundary text (until text)
  boundary_until text ascii = elim (cases_lt (until text) (length text)) [
    | inl lt ↦ IsCharBoundary-before_ascii text (until text) lt (ascii (get_or text (until text) 0) (not-false _ (prefix_len_stops (λ b. not (p b)) text 0 lt)))
    | inr ge ↦ let le = prefix_len-le-length (λ b. not (p b)) text in
        subst (λ n. IsCharBoundary text n) (omega arith) (IsCharBoundary-end text)
  ]
