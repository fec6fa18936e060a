-- The pieces of a pattern match the same names as the pattern.
use Rattle.std.proofs.Common.{◌≡◌, ◌≢◌, ℕ, ◌≤◌, Bool, true, false, cond, ◌&&◌, ◌||◌, List, [], ◌∷◌, ◌++◌, length, Option, Some, None, refl, sym, ap, ◌∙◌, append_assoc, arith, if◌then◌else◌, Bor}
use Rattle.std.specs.Prelude.{◌==◌, nat_eq}
use Rattle.std.specs.List.{ends_with, list_any, onto_first}
use Rattle.std.specs.Option.{MatchOption, option_copied}
use Rattle.std.proofs.lemmas.Bool.{eqb-true, eq-eqb, or_right}
use Rattle.std.proofs.lemmas.Bool.Decides.{Decides-eqb}
use Rattle.std.proofs.lemmas.List.{length-append}
use Rattle.std.proofs.lemmas.List.Splits.{length-slice_split, slice_split-cons_no, slice_split-cons_yes}
use Rattle.std.proofs.lemmas.Slice.Eq.{bytes_eq-Decides, ends_is}
use Rattle.std.proofs.Math.Bool.{or_comm}
use Rattle.plan_types.specs.Bytes.{same_text}
use Rattle.project_paths.specs.Pieces.{behind, behind_front, cut, ends_so, first_of, match_behind, match_pieces, passes}
use Rattle.project_paths.specs.Wildcards.{fits, fits_byte, tails}

same-bool : (a b : Bool) → (a ≡ true → b ≡ true) → (b ≡ true → a ≡ true) → a ≡ b
same-bool true b to from = sym (to refl)
same-bool false true to from = from refl
same-bool false false to from = refl

-- ---- the tails of a text

any-tail : (test : List ℕ → Bool) (text : List ℕ) → list_any test (tails text) ≡ true → (front : List ℕ) × (tail : List ℕ) × (text ≡ front ++ tail) × (test tail ≡ true)
any-tail test [] h = ([], [], refl, or_comm false (test []) ∙ h)
any-tail test (b ∷ bs) h = by (any-tail test bs) (test (b ∷ bs)) refl h
  where
    by : (list_any test (tails bs) ≡ true → (front : List ℕ) × (tail : List ℕ) × (bs ≡ front ++ tail) × (test tail ≡ true)) → (t : Bool) → test (b ∷ bs) ≡ t → (t || list_any test (tails bs)) ≡ true
        → (front : List ℕ) × (tail : List ℕ) × (b ∷ bs ≡ front ++ tail) × (test tail ≡ true)
    by more true e h = ([], b ∷ bs, refl, e)
    by more false e h = let found = more h in (b ∷ found.0, found.1, ap (λ l. b ∷ l) found.2, found.3)

tail-any : (test : List ℕ → Bool) (front tail : List ℕ) → test tail ≡ true → list_any test (tails (front ++ tail)) ≡ true
tail-any test [] [] h = or_comm (test []) false ∙ h
tail-any test [] (b ∷ bs) h = ap (λ t. t || list_any test (tails bs)) h
tail-any test (f ∷ front) tail h = or_right (test (f ∷ front ++ tail)) (list_any test (tails (front ++ tail))) (tail-any test front tail h)

pub ends-so : (piece text : List ℕ) (ends : Bool) → ends ≡ ends_with nat_eq text piece → ends ≡ ends_so piece text
ends-so piece text ends is =
    let both = ends_is Decides-eqb text piece ends is in
    same-bool ends (ends_so piece text)
    (λ t. let front = both.0 t in ap (ends_so piece) front ∙ tail-any (same_text piece) _ piece ((bytes_eq-Decides piece piece).1 refl))
    (λ t.
    let found = any-tail (same_text piece) text t in
    both.1 found.0 (found.2 ∙ ap (λ l. found.0 ++ l) (sym ((bytes_eq-Decides piece found.1).0 found.3))))

-- ---- a piece at the front

pub front-is : (piece text rest : List ℕ) → behind_front piece text ≡ Some rest → text ≡ piece ++ rest
front-is [] text rest e = cc e
front-is (p ∷ ps) [] rest e = absurd (cc e)
front-is (p ∷ ps) (b ∷ bs) rest e = by (front-is ps bs rest) (p == b) refl e
  where
    by : (behind_front ps bs ≡ Some rest → bs ≡ ps ++ rest) → (t : Bool) → (p == b) ≡ t → cond t (behind_front ps bs) None ≡ Some rest → b ∷ bs ≡ p ∷ ps ++ rest
    by more true same e = ap (λ c. c ∷ bs) (sym (eqb-true p b same)) ∙ ap (λ l. p ∷ l) (more e)
    by more false other e = absurd (cc e)

pub is-front : (piece rest : List ℕ) → behind_front piece (piece ++ rest) ≡ Some rest
is-front [] rest = refl
is-front (p ∷ ps) rest = ap (λ t. cond t (behind_front ps (ps ++ rest)) None) (eq-eqb p p refl) ∙ is-front ps rest

pub no-front : (piece text : List ℕ) → ((rest : List ℕ) → text ≡ piece ++ rest → ⊥) → behind_front piece text ≡ None
no-front piece text never = by (behind_front piece text) refl
  where
    by : (found : Option (List ℕ)) → behind_front piece text ≡ found → found ≡ None
    by None e = refl
    by (Some rest) e = absurd (never rest (front-is piece text rest e))

-- to strip a prefix is `behind_front`
pub stripped : (piece text : List ℕ) (found : Option (Bor (List ℕ))) → MatchOption found ((rest : List ℕ) → text ≢ piece ++ rest) (λ rest. text ≡ piece ++ rest.now) → option_copied found ≡ behind_front piece text
stripped piece text None is = sym (no-front piece text is)
stripped piece text (Some rest) is = sym (ap (behind_front piece) is ∙ is-front piece rest.now)

-- ---- the first occurrence of a piece leaves the most

rest-of : (piece rest front tail : List ℕ) → piece ++ rest ≡ front ++ tail → length piece ≤ length front → (between : List ℕ) × (rest ≡ between ++ tail)
rest-of [] rest front tail e le = (front, e)
rest-of (p ∷ ps) rest [] tail e le = absurd (omega (arith, le))
rest-of (p ∷ ps) rest (f ∷ fs) tail e le =
    let behind : ps ++ rest ≡ fs ++ tail = cc e in
    rest-of ps rest fs tail behind (omega (arith, le))

absorbed : (a b : Bool) → (b ≡ true → a ≡ true) → a ≡ (a || b)
absorbed true b h = refl
absorbed false true h = h refl
absorbed false false h = refl

module _ (test : List ℕ → Bool) (more : (b : ℕ) (bs : List ℕ) → test bs ≡ true → test (b ∷ bs) ≡ true) where
  longer : (front tail : List ℕ) → test tail ≡ true → test (front ++ tail) ≡ true
  longer [] tail h = h
  longer (b ∷ front) tail h = more b (front ++ tail) (longer front tail h)

  passed : (found : Option (List ℕ)) → passes test found ≡ true → (rest : List ℕ) × (found ≡ Some rest) × (test rest ≡ true)
  passed None h = absurd (cc h)
  passed (Some rest) h = (rest, refl, h)

  abbrev from : List ℕ → List ℕ → Bool
  from piece tail = passes test (behind_front piece tail)

  later : (piece : List ℕ) (b : ℕ) (bs rest : List ℕ) → behind_front piece (b ∷ bs) ≡ Some rest → list_any (from piece) (tails bs) ≡ true → test rest ≡ true
  later piece b bs rest first h =
      let found = any-tail (from piece) bs h in
      let front = found.0 in
      let at = passed (behind_front piece found.1) found.3 in
      let whole : piece ++ rest ≡ (b ∷ front ++ piece) ++ at.0 =
      sym (front-is piece (b ∷ bs) rest first) ∙ ap (λ l. b ∷ l) (found.2 ∙ ap (λ l. front ++ l) (front-is piece found.1 at.0 at.1) ∙ sym (append_assoc front piece at.0)) in
      let size = length-append front piece in
      let between = rest-of piece rest (b ∷ front ++ piece) at.0 whole (omega (arith, size)) in
      ap test between.1 ∙ longer between.0 at.0 at.2

  greedy : (piece text : List ℕ) → passes test (behind piece text) ≡ list_any (from piece) (tails text)
  greedy piece [] = or_comm false (from piece [])
  greedy piece (b ∷ bs) = by (greedy piece bs) (behind_front piece (b ∷ bs)) refl
    where
      by : passes test (behind piece bs) ≡ list_any (from piece) (tails bs) → (found : Option (List ℕ)) → behind_front piece (b ∷ bs) ≡ found
          → passes test (first_of found (behind piece bs)) ≡ (passes test found || list_any (from piece) (tails bs))
      by after None e = after
      by after (Some rest) e = absorbed (test rest) (list_any (from piece) (tails bs)) (later piece b bs rest e)

-- pieces behind a star match a text iff they match a suffix of it
behind-any : (piece : List ℕ) (pieces : List (List ℕ)) (text : List ℕ) → match_behind (piece ∷ pieces) text ≡ list_any (match_pieces (piece ∷ pieces)) (tails text)
behind-any piece [] text = refl
behind-any piece (next ∷ pieces) text = greedy (match_behind (next ∷ pieces)) (more (behind-any next pieces)) piece text
  where
    more : ((text : List ℕ) → match_behind (next ∷ pieces) text ≡ list_any (match_pieces (next ∷ pieces)) (tails text)) → (b : ℕ) (bs : List ℕ) → match_behind (next ∷ pieces) bs ≡ true → match_behind (next ∷ pieces) (b ∷ bs) ≡ true
    more any b bs h = any (b ∷ bs) ∙ or_right (match_pieces (next ∷ pieces) (b ∷ bs)) (list_any (match_pieces (next ∷ pieces)) (tails bs)) (sym (any bs) ∙ h)

-- ---- a pattern

never-none : (pattern : List ℕ) → cut pattern ≡ [] → ⊥
never-none pattern e =
    let size = length-slice_split (λ b. b == 42) pattern in
    let none = ap length e in
    omega (arith, size, none)

module _ (p : ℕ) (ps : List ℕ) (text : List ℕ) where
  fits-star : (p == 42) ≡ true → list_any (fits ps) (tails text) ≡ fits (p ∷ ps) text
  fits-star e = ap (λ t. if t then list_any (fits ps) (tails text) else fits_byte p (fits ps) text) (sym e)

  fits-other : (p == 42) ≡ false → fits_byte p (fits ps) text ≡ fits (p ∷ ps) text
  fits-other e = ap (λ t. if t then list_any (fits ps) (tails text) else fits_byte p (fits ps) text) (sym e)

star : (pieces : List (List ℕ)) (text : List ℕ) → (pieces ≡ [] → ⊥) → match_pieces ([] ∷ pieces) text ≡ list_any (match_pieces pieces) (tails text)
star [] text never = absurd (never refl)
star (piece ∷ pieces) text never = behind-any piece pieces text

byte : (p : ℕ) (pieces : List (List ℕ)) (text : List ℕ) → (pieces ≡ [] → ⊥) → match_pieces (onto_first p pieces) text ≡ fits_byte p (match_pieces pieces) text
byte p [] text never = absurd (never refl)
byte p (piece ∷ []) [] never = refl
byte p (piece ∷ []) (b ∷ bs) never = refl
byte p (piece ∷ next ∷ pieces) [] never = refl
byte p (piece ∷ next ∷ pieces) (b ∷ bs) never = by (p == b)
  where
    by : (t : Bool) → passes (match_behind (next ∷ pieces)) (cond t (behind_front piece bs) None) ≡ (t && passes (match_behind (next ∷ pieces)) (behind_front piece bs))
    by true = refl
    by false = refl

pub fits-pieces : (pattern text : List ℕ) → match_pieces (cut pattern) text ≡ fits pattern text
fits-pieces [] [] = refl
fits-pieces [] (b ∷ bs) = refl
fits-pieces (p ∷ ps) text = by (λ i text. fits-pieces ps text i) (p == 42) refl
  where
    by : match_pieces (cut ps) ≡ fits ps → (t : Bool) → (p == 42) ≡ t → match_pieces (cut (p ∷ ps)) text ≡ fits (p ∷ ps) text
    by rest true e =
        ap (λ pieces. match_pieces pieces text) (slice_split-cons_yes (λ b. b == 42) p ps e) ∙ star (cut ps) text (never-none ps)
        ∙ ap (λ test. list_any test (tails text)) rest ∙ fits-star p ps text e
    by rest false e =
        ap (λ pieces. match_pieces pieces text) (slice_split-cons_no (λ b. b == 42) p ps e) ∙ byte p (cut ps) text (never-none ps)
        ∙ ap (λ test. fits_byte p test text) rest ∙ fits-other p ps text e

-- ---- one step: the first of several pieces is matched

pub first-behind : (piece : List ℕ) (pieces : List (List ℕ)) (text : List ℕ) → (pieces ≡ [] → ⊥) → match_behind (piece ∷ pieces) text ≡ passes (match_behind pieces) (behind piece text)
first-behind piece [] text never = absurd (never refl)
first-behind piece (next ∷ pieces) text never = refl

pub first-front : (piece : List ℕ) (pieces : List (List ℕ)) (text : List ℕ) → (pieces ≡ [] → ⊥) → match_pieces (piece ∷ pieces) text ≡ passes (match_behind pieces) (behind_front piece text)
first-front piece [] text never = absurd (never refl)
first-front piece (next ∷ pieces) text never = refl
