-- Shared: cutting a text at its commas.
use Rattle.std.proofs.Common.{◌≡◌, ℕ, ◌+◌, ◌<◌, ◌≤◌, Bool, true, false, not, ◌&&◌, List, [], ◌∷◌, ◌++◌, length, map, Bor, take, get_or, refl, sym, ap, ◌∙◌, subst, append_assoc, arith}
use Rattle.std.specs.Prelude.{◌==◌}
use Rattle.std.proofs.lemmas.Bool.{and_from, true≢false, eqb-true}
use Rattle.std.proofs.lemmas.List.{take_more, take_all, map-append}
use Rattle.std.proofs.Math.Bool.{and_assoc}
use Rattle.entry_text.specs.Entries.{depth_behind, left_open, commas_inside, Pieces, joined, are_blanks, without_last}

pub open_push : (depth : ℕ) (text : List ℕ) (b : ℕ) → left_open depth (text ++ b ∷ []) ≡ depth_behind (left_open depth text) b
open_push depth [] b = refl
open_push depth (x ∷ xs) b = open_push (depth_behind depth x) xs b

pub inside_push : (depth : ℕ) (text : List ℕ) (b : ℕ) → commas_inside depth (text ++ b ∷ []) ≡ (commas_inside depth text && not (b == 44 && left_open depth text == 0))
inside_push depth [] b = by (not (b == 44 && depth == 0))
  where
    by : (t : Bool) → (t && true) ≡ (true && t)
    by true = refl
    by false = refl
inside_push depth (x ∷ xs) b =
    ap (λ t. not (x == 44 && depth == 0) && t) (inside_push (depth_behind depth x) xs b)
    ∙ sym (and_assoc (not (x == 44 && depth == 0)) (commas_inside (depth_behind depth x) xs) (not (b == 44 && left_open (depth_behind depth x) xs == 0)))

-- a blank last piece of several
pub blank_last : (piece : List ℕ) (pieces : List (List ℕ)) (end : List ℕ) → are_blanks end ≡ true → without_last (piece ∷ (pieces ++ end ∷ [])) ≡ piece ∷ pieces
blank_last piece [] end h = rw h refl
blank_last piece (next ∷ []) end h = ap (λ t. piece ∷ t) (blank_last next [] end h)
blank_last piece (next ∷ more ∷ pieces) end h = ap (λ t. piece ∷ t) (blank_last next (more ∷ pieces) end h)

pub other_last : (pieces : List (List ℕ)) (end : List ℕ) → are_blanks end ≡ false → without_last (pieces ++ end ∷ []) ≡ pieces ++ end ∷ []
other_last [] end h = refl
other_last (piece ∷ []) end h = rw h refl
other_last (piece ∷ next ∷ []) end h = ap (λ t. piece ∷ t) (other_last (next ∷ []) end h)
other_last (piece ∷ next ∷ more ∷ pieces) end h = ap (λ t. piece ∷ t) (other_last (next ∷ more ∷ pieces) end h)

-- one more byte, which is no separator
pub one_more : (text : List ℕ) (at depth next : ℕ) → at < length text → depth ≡ left_open 0 (take at text) → commas_inside 0 (take at text) ≡ true
    → (get_or text at 0 == 44 && depth == 0) ≡ false → next ≡ depth_behind depth (get_or text at 0)
    → (next ≡ left_open 0 (take (at + 1) text)) × (commas_inside 0 (take (at + 1) text) ≡ true)
one_more text at depth next h is inside not_end e =
    let longer = take_more text at 0 h in (
      e ∙ ap (λ d. depth_behind d (get_or text at 0)) is ∙ sym (open_push 0 (take at text) (get_or text at 0)) ∙ ap (left_open 0) (sym longer),
      ap (commas_inside 0) longer ∙ inside_push 0 (take at text) (get_or text at 0)
          ∙ and_from (commas_inside 0 (take at text)) (not (get_or text at 0 == 44 && left_open 0 (take at text) == 0)) inside
          (ap not (ap (λ d. get_or text at 0 == 44 && d == 0) (sym is) ∙ not_end)),
    )

-- a piece and its comma, in front of more pieces
pub joined_to : (text piece rest : List ℕ) (pieces : List (List ℕ)) → text ≡ piece ++ 44 ∷ rest → commas_inside 0 piece ≡ true → left_open 0 piece ≡ 0 → Pieces rest pieces → Pieces text (piece ∷ pieces)
joined_to text piece rest pieces e inside closed p = subst (λ t. Pieces t (piece ∷ pieces)) (sym e) (joined inside closed p)

-- the last item of a list, by its index
pub with_last : {X : Type 0} (xs : List X) (n : ℕ) (d : X) → n + 1 ≡ length xs → xs ≡ take n xs ++ get_or xs n d ∷ []
with_last xs n d e = sym (take_all (n + 1) xs (omega arith)) ∙ take_more xs n d (omega arith)

pub blank_ends : (pieces front : List (List ℕ)) (end : List ℕ) → pieces ≡ front ++ end ∷ [] → (length front == 0) ≡ false → are_blanks end ≡ true → front ≡ without_last pieces
blank_ends pieces [] end e some h = absurd (true≢false some)
blank_ends pieces (piece ∷ front) end e some h = sym (ap without_last e ∙ blank_last piece front end h)

pub other_ends : (pieces front : List (List ℕ)) (end : List ℕ) → pieces ≡ front ++ end ∷ [] → are_blanks end ≡ false → pieces ≡ without_last pieces
other_ends pieces front end e h = e ∙ sym (ap without_last e ∙ other_last front end h)

pub one_ends : (pieces front : List (List ℕ)) (end : List ℕ) → pieces ≡ front ++ end ∷ [] → (length front == 0) ≡ true → pieces ≡ without_last pieces
one_ends pieces [] end e none = e ∙ sym (ap without_last e)
one_ends pieces (piece ∷ front) end e none = absurd (omega (arith, eqb-true (length (piece ∷ front)) 0 none))

abbrev pub texts : List (Bor (List ℕ)) → List (List ℕ)
texts parts = map (λ part. part.now) parts

pub last_text : (parts : List (Bor (List ℕ))) (n : ℕ) (d : Bor (List ℕ)) → n + 1 ≡ length parts → texts parts ≡ texts (take n parts) ++ (get_or parts n d).now ∷ []
last_text parts n d e = ap texts (with_last parts n d e) ∙ map-append (λ part. part.now) (take n parts) (get_or parts n d ∷ [])

pub push_text : (parts : List (Bor (List ℕ))) (part : Bor (List ℕ)) (more : List (List ℕ)) → texts parts ++ (part.now ∷ more) ≡ texts (parts ++ part ∷ []) ++ more
push_text parts part more = sym (append_assoc (texts parts) (part.now ∷ []) more) ∙ ap (λ t. t ++ more) (sym (map-append (λ part. part.now) parts (part ∷ [])))

-- some part, where a default value is needed
pub some_borrow : (parts : List (Bor (List ℕ))) → 1 ≤ length parts → Bor (List ℕ)
some_borrow [] h = absurd (omega (arith, h))
some_borrow (part ∷ parts) h = part
