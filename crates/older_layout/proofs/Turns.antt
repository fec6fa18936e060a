-- One piece more of a line, and one `}` more at its start.
use Rattle.std.proofs.Common.{◌≡◌, ℕ, zero, suc, ◌<◌, ◌≤◌, Bool, true, false, List, [], ◌∷◌, ◌++◌, length, drop, refl, sym, ◌∙◌, ap, subst, arith, append_assoc}
use Rattle.std.specs.Prelude.{◌||◌, min, if◌then◌else◌}
use Rattle.std.specs.Str.{IsUtf8, IsCharBoundary}
use Rattle.plan_types.specs.Bytes.{begins_with}
use Rattle.cabal_lexer.proofs.Texts.{begins_with-boundary}
use Rattle.cabal_lexer.specs.Lines.{Line, indent}
use Rattle.older_layout.specs.declared.state.State.{State}
use Rattle.older_layout.specs.Cuts.{Piece, first_piece, uncommented}
use Rattle.older_layout.specs.States.{in_values, after, closed}
use Rattle.older_layout.specs.Relaid.{begins_with_brace, piece_line, inline, cut_up, behind, close_of, closers, in_front}
use Rattle.older_layout.proofs.Cutting.{uncommented-le}

-- the lines of at most m pieces complete the found ones, and lead to the last state
abbrev pub Completes : Bool → ℕ → ℕ → State → List ℕ → List Line → List Line → State → ℕ → Type 0
Completes opens number indent state rest found all last m =
    (length rest ≤ m) × (found ++ (cut_up m opens number indent state rest).0 ≡ all) × ((cut_up m opens number indent state rest).1 ≡ last)

turn : (n : ℕ) (opens : Bool) (number indent : ℕ) (state : State) (rest : List ℕ) (found all : List Line) (last : State) → 0 < length rest →
    length (first_piece (in_values state) opens rest).rest < length rest → Completes opens number indent state rest found all last n →
    (m : ℕ) × Completes opens number inline (after (first_piece (in_values state) opens rest) state) (first_piece (in_values state) opens rest).rest
    (found ++ piece_line number indent (first_piece (in_values state) opens rest) ∷ []) all last m
turn n opens number indent state [] found all last some shorter h = absurd (omega arith)
turn zero opens number indent state (b ∷ rest) found all last some shorter h = let le = h.0 in absurd (omega arith)
turn (suc n) opens number indent state (b ∷ rest) found all last some shorter h =
    let le = h.0 in
    let piece = first_piece (in_values state) opens (b ∷ rest) in
    (n, (omega arith, append_assoc found (piece_line number indent piece ∷ []) (cut_up n opens number inline (after piece state) piece.rest).0 ∙ h.1, h.2))

pub next : (n : ℕ) (opens : Bool) (number indent : ℕ) (state later : State) (rest more : List ℕ) (piece : Piece) (found new all : List Line) (last : State) →
    0 < length rest → length piece.rest < length rest → piece ≡ first_piece (in_values state) opens rest →
    new ≡ found ++ piece_line number indent piece ∷ [] → later ≡ after piece state → more ≡ piece.rest →
    Completes opens number indent state rest found all last n → (m : ℕ) × Completes opens number inline later more new all last m
next n opens number indent state later rest more piece found new all last some shorter p f s r h =
    rw f (rw s (rw r (rw p (turn n opens number indent state rest found all last some (subst (λ (q : Piece). length q.rest < length rest) p shorter) h))))

-- ---- closers

-- at most m `}` complete the found lines, and lead to the last state and the last line
abbrev pub Closes : State → Line → List Line → List Line → State × Line → ℕ → Type 0
Closes state rest found all last m = (length rest.text ≤ m) × (found ++ (closers m state rest).0 ≡ all) × ((closers m state rest).1 ≡ last)

close-at : (n : ℕ) (b : Bool) (state : State) (rest : Line) → b ≡ true →
    (if b then in_front (close_of rest) (closers n (closed state) (behind rest)) else ([], (state, rest))) ≡ in_front (close_of rest) (closers n (closed state) (behind rest))
close-at n true state rest e = refl
close-at n false state rest e = absurd cc

pub next-close : (n : ℕ) (state : State) (rest : Line) (found all : List Line) (last : State × Line) → begins_with 125 rest.text ≡ true →
    length (behind rest).text < length rest.text → Closes state rest found all last n → (m : ℕ) × Closes (closed state) (behind rest) (found ++ close_of rest ∷ []) all last m
next-close zero state rest found all last e shorter h = let le = h.0 in absurd (omega arith)
next-close (suc n) state rest found all last e shorter h =
    let le = h.0 in
    let one = close-at n (begins_with 125 rest.text) state rest e in (
      n,
      (
        omega arith,
        append_assoc found (close_of rest ∷ []) (closers n (closed state) (behind rest)).0 ∙ ap (λ (v : List Line × (State × Line)). found ++ v.0) (sym one) ∙ h.1,
        ap (λ (v : List Line × (State × Line)). v.1) (sym one) ∙ h.2,
      ),
    )

-- what follows a brace is shorter
behind-at : (b : Bool) (number n k : ℕ) (text : List ℕ) (line : Line) → b ≡ true → length (uncommented (drop 1 text)) < k →
    length (if b then record { number = number; indent = n; text = uncommented (drop 1 text) } else line).text < k
behind-at true number n k text line e h = h
behind-at false number n k text line e h = absurd cc

drop-shorter : (text : List ℕ) → begins_with 125 text ≡ true → length (drop 1 text) < length text
drop-shorter [] h = absurd cc
drop-shorter (b ∷ text) h = omega arith

or-right : (a b : Bool) → b ≡ true → (a || b) ≡ true
or-right true b h = refl
or-right false b h = h

pub behind-shorter : (line : Line) → begins_with 125 line.text ≡ true → length (behind line).text < length line.text
unfolding behind
behind-shorter line e =
    behind-at (begins_with_brace line.text) line.number (min (indent (drop 1 line.text)) inline) (length line.text) line.text line (or-right _ _ e)
    (omega (arith, uncommented-le (drop 1 line.text), drop-shorter line.text e))

front-at : (a b : Bool) (text : List ℕ) → begins_with 123 text ≡ a → begins_with 125 text ≡ b → (a || b) ≡ true → IsUtf8 text → IsCharBoundary text 1
front-at true b text e f h u = begins_with-boundary 123 text (omega arith) u e
front-at false true text e f h u = begins_with-boundary 125 text (omega arith) u f
front-at false false text e f h u = absurd cc

pub front-boundary : (text : List ℕ) → begins_with_brace text ≡ true → IsUtf8 text → IsCharBoundary text 1
front-boundary text h u = front-at _ _ text refl refl h u
