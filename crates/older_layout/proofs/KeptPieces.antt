-- The lines that are laid out again hold texts of lines.
use Rattle.std.proofs.Common.{◌≡◌, ℕ, zero, suc, ◌+◌, ◌-◌, ◌<◌, ◌≤◌, inl, inr, Bool, true, false, cond, List, [], ◌∷◌, ◌++◌, length, take, drop, get_or, refl, sym, ◌∙◌, ap, subst, arith, length-append}
use Rattle.std.specs.Prelude.{reverse, not, ◌&&◌, ◌==◌, if◌then◌else◌}
use Rattle.std.specs.List.{prefix_len}
use Rattle.std.specs.Str.{IsUtf8, IsCharBoundary}
use Rattle.std.proofs.Math.Bool.{and-false}
use Rattle.std.proofs.Math.Seq.{take-append_seam}
use Rattle.std.proofs.lemmas.Bool.{cases_lt}
use Rattle.std.proofs.lemmas.List.{reverse-append, take-append-drop, length-take-le, get_or-reverse}
use Rattle.std.proofs.lemmas.List.Elements.{All-take, All-drop, All-cons, All-nil}
use Rattle.std.proofs.lemmas.List.Sums.{prefix_len_passes}
use Rattle.std.proofs.lemmas.Str.{IsUtf8-take, IsUtf8-drop, IsUtf8-nil}
use Rattle.plan_types.specs.Bytes.{is_blank, begins_with}
use Rattle.cabal_lexer.specs.Lines.{Line, indent, trim_start, trim_end, is_comment}
use Rattle.cabal_lexer.specs.Printable.{OneLine, Piece, IsKeptText}
use Rattle.cabal_lexer.proofs.Texts.{trim_end-take}
use Rattle.cabal_lexer.proofs.TextPieces.{Piece-trim_end, Piece-join, front-take, front-drop}
use Rattle.cabal_lexer.proofs.Again.{KeptTexts}
use Rattle.text_grammar.proofs.Boundaries.{boundary_front, is_blank-ascii}
use Rattle.older_layout.specs.declared.cut.Kind.{Kind}
use Rattle.older_layout.specs.declared.state.State.{State}
use Rattle.cabal_lexer.specs.Opening.{name_len}
use Rattle.older_layout.specs.Cuts.{after_name, is_field, cut, uncommented, last_piece, first_piece}
use Rattle.older_layout.specs.States.{in_values, goes_on, layout_field, in_layout, begun, closed, after}
use Rattle.older_layout.specs.Relaid.{opens, begins_with_brace, inline, piece_text, first_indent, in_front, cut_up, pieces, behind, close_of, closers, item_line, whole_line, raised_line, laid, relaid_from}
use Rattle.older_layout.proofs.Cutting.{cut-boundary, cut-some}
use Rattle.older_layout.proofs.Turns.{front-boundary}

-- ---- texts

-- the rest of a line: a text of one line, and no comment
record IsRest (text : List ℕ) : Type 0 where
  piece : Piece text
  code : is_comment text ≡ false

rest-of : {text : List ℕ} → IsKeptText text → IsRest text
rest-of h = record { piece = h.piece; code = h.code }

no-rest : IsRest []
unfolding indent is_comment
no-rest = record { piece = record { front = refl; back = refl; one_line = All-nil (λ b. (b == 10) ≡ false); utf8 = IsUtf8-nil }; code = refl }

back-drop : (n : ℕ) (x : List ℕ) → indent (reverse x) ≡ 0 → indent (reverse (drop n x)) ≡ 0
back-drop n x h =
    let whole : reverse x ≡ reverse (drop n x) ++ reverse (take n x) = ap reverse (sym (take-append-drop n x)) ∙ reverse-append (take n x) (drop n x) in
    subst (λ v. indent v ≡ 0) (take-append_seam (reverse (drop n x)) (reverse (take n x)))
    (front-take (length (reverse (drop n x))) (reverse (drop n x) ++ reverse (take n x)) (subst (λ v. indent v ≡ 0) whole h))

uncommented-at : (c : Bool) (x : List ℕ) → is_comment (trim_start x) ≡ c → indent (reverse x) ≡ 0 → OneLine x → IsUtf8 x → IsRest (if c then [] else trim_start x)
unfolding trim_start indent
uncommented-at true x e back line u = no-rest
uncommented-at false x e back line u = record {
  piece = record {
    front = front-drop x;
    back = back-drop (indent x) x back;
    one_line = All-drop (λ b. (b == 10) ≡ false) (indent x) x line;
    utf8 = IsUtf8-drop x (indent x) u (boundary_front is_blank x is_blank-ascii u);
  };
  code = e;
}

uncommented-rest : (x : List ℕ) → indent (reverse x) ≡ 0 → OneLine x → IsUtf8 x → IsRest (uncommented x)
unfolding uncommented
uncommented-rest x back line u = uncommented-at (is_comment (trim_start x)) x refl back line u

-- what follows a boundary
rest-behind : (text : List ℕ) (n : ℕ) → IsRest text → IsCharBoundary text n → IsRest (uncommented (drop n text))
rest-behind text n r b =
    uncommented-rest (drop n text) (back-drop n text r.piece.back) (All-drop (λ b. (b == 10) ≡ false) n text r.piece.one_line) (IsUtf8-drop text n r.piece.utf8 b)

comment-take : (n : ℕ) (x : List ℕ) → is_comment x ≡ false → is_comment (take n x) ≡ false
unfolding is_comment
comment-take zero [] h = refl
comment-take zero (a ∷ x) h = refl
comment-take (suc n) [] h = refl
comment-take (suc zero) (a ∷ []) h = and-false (a == 45)
comment-take (suc (suc n)) (a ∷ []) h = and-false (a == 45)
comment-take (suc zero) (a ∷ b ∷ x) h = and-false (a == 45)
comment-take (suc (suc n)) (a ∷ b ∷ x) h = h

-- a text that begins with no blank isn't blank
front-byte : (b : ℕ) (x : List ℕ) (c : Bool) → is_blank b ≡ c → cond c (1 + prefix_len is_blank x) 0 ≡ 0 → is_blank b ≡ false
front-byte b x true e h = absurd (omega arith)
front-byte b x false e h = e

trailing-less : (x : List ℕ) → indent x ≡ 0 → 0 < length x → indent (reverse x) < length x
unfolding indent
trailing-less [] h l = absurd (omega arith)
trailing-less (b ∷ x) h l = elim (cases_lt (indent (reverse (b ∷ x))) (length (b ∷ x))) [
  | inl k ↦ k
  | inr k ↦
      let last = length (b ∷ x) - 1 in
      let blank = prefix_len_passes is_blank (reverse (b ∷ x)) last 0 (omega arith) in
      let same = get_or-reverse (b ∷ x) last 0 (omega arith) in
      let at : length (b ∷ x) - 1 - last ≡ 0 = omega arith in
      let first : is_blank b ≡ true = ap is_blank (sym (same ∙ ap (λ n. get_or (b ∷ x) n 0) at)) ∙ blank in
      let other = front-byte b x (is_blank b) refl h in
      absurd cc
]

trim-some : (x : List ℕ) → indent x ≡ 0 → 0 < length x → 0 < length (trim_end x)
trim-some x h l =
    let m = length x - indent (reverse x) in
    let less = trailing-less x h l in
    let len = length-take-le m x (omega arith) in
    subst (λ v. 0 < length v) (trim_end-take x) (omega (arith, less, len))

comment-end : (x : List ℕ) → is_comment x ≡ false → is_comment (trim_end x) ≡ false
comment-end x h = subst (λ v. is_comment v ≡ false) (trim_end-take x) (comment-take (length x - indent (reverse x)) x h)

take-some : (n : ℕ) (x : List ℕ) → 1 ≤ n → 0 < length x → 0 < length (take n x)
take-some zero x h l = absurd (omega arith)
take-some (suc n) [] h l = absurd (omega arith)
take-some (suc n) (b ∷ x) h l = omega arith

-- the text of a cut piece
cut-text : (text : List ℕ) (n : ℕ) → IsRest text → 1 ≤ n → 0 < length text → IsCharBoundary text n → IsKeptText (trim_end (take n text))
cut-text text n r some l b = record {
  piece = Piece-trim_end (take n text) (front-take n text r.piece.front) (All-take (λ b. (b == 10) ≡ false) n text r.piece.one_line) (IsUtf8-take text n r.piece.utf8 b);
  some = trim-some (take n text) (front-take n text r.piece.front) (take-some n text some l);
  code = comment-end (take n text) (comment-take n text r.code);
}

space-line : OneLine (32 ∷ [])
space-line = All-cons (λ b. (b == 10) ≡ false) 32 [] refl (All-nil (λ b. (b == 10) ≡ false))

space-utf8 : IsUtf8 (32 ∷ [])
unfolding lib.Utf8.encode
space-utf8 = (32 ∷ [], (refl, refl))

brace : Piece (123 ∷ [])
unfolding lib.Utf8.encode indent
brace = record { front = refl; back = refl; one_line = All-cons (λ b. (b == 10) ≡ false) 123 [] refl (All-nil (λ b. (b == 10) ≡ false)); utf8 = (123 ∷ [], (refl, refl)) }

close : IsKeptText (125 ∷ [])
unfolding lib.Utf8.encode indent is_comment
close = record {
  piece = record { front = refl; back = refl; one_line = All-cons (λ b. (b == 10) ≡ false) 125 [] refl (All-nil (λ b. (b == 10) ≡ false)); utf8 = (125 ∷ [], (refl, refl)) };
  some = omega arith;
  code = refl;
}

comment-raised : (x : List ℕ) → 0 < length x → is_comment x ≡ false → is_comment (x ++ 32 ∷ 123 ∷ []) ≡ false
unfolding is_comment
comment-raised [] l h = absurd (omega arith)
comment-raised (a ∷ []) l h = and-false (a == 45)
comment-raised (a ∷ b ∷ x) l h = h

raised-text : (x : List ℕ) → IsKeptText x → IsKeptText (x ++ 32 ∷ 123 ∷ [])
raised-text x h = record {
  piece = Piece-join x (32 ∷ []) (123 ∷ []) h.piece.front h.piece.one_line h.piece.utf8 h.some space-line space-utf8 brace (omega arith);
  some = omega (arith, length-append x (32 ∷ 123 ∷ []));
  code = comment-raised x h.some h.code;
}

-- ---- pieces

piece-at : (c o : Bool) (kind : Kind) (text rest : List ℕ) → IsKeptText text → IsRest rest →
    IsKeptText (piece_text (if c then last_piece o text else record { kind = kind; text = text; raised = false; rest = rest }))
    × IsRest (if c then last_piece o text else record { kind = kind; text = text; raised = false; rest = rest }).rest
unfolding last_piece
piece-at true true kind text rest t r = (raised-text text t, no-rest)
piece-at true false kind text rest t r = (t, no-rest)
piece-at false o kind text rest t r = (t, r)

piece-kept : (v o : Bool) (text : List ℕ) → IsRest text → 0 < length text → IsKeptText (piece_text (first_piece v o text)) × IsRest (first_piece v o text).rest
unfolding first_piece
piece-kept v o text r l =
    let b = cut-boundary text r.piece.utf8 v in
    piece-at _ o (cut v text).0 (trim_end (take (cut v text).1 text)) (uncommented (drop (cut v text).1 text)) (cut-text text (cut v text).1 r (cut-some v text l) l b) (rest-behind text (cut v text).1 r b)

cut-kept : (n : ℕ) (o : Bool) (number at : ℕ) (state : State) (text : List ℕ) → IsRest text → KeptTexts (cut_up n o number at state text).0
cut-kept zero o number at state text r = tt
cut-kept (suc n) o number at state [] r = tt
cut-kept (suc n) o number at state (b ∷ text) r =
    let p = piece-kept (in_values state) o (b ∷ text) r (omega arith) in
    (p.0, cut-kept n o number inline (after (first_piece (in_values state) o (b ∷ text)) state) (first_piece (in_values state) o (b ∷ text)).rest p.1)

-- ---- braces at the start of a line

behind-at : (c : Bool) (number n : ℕ) (line : Line) → begins_with_brace line.text ≡ c → IsRest line.text →
    IsRest (if c then record { number = number; indent = n; text = uncommented (drop 1 line.text) } else line).text
behind-at true number n line e r = rest-behind line.text 1 r (front-boundary line.text e r.piece.utf8)
behind-at false number n line e r = r

behind-kept : (line : Line) → IsRest line.text → IsRest (behind line).text
unfolding behind
behind-kept line r = behind-at _ line.number _ line refl r

closers-at : (c : Bool) (line : Line) (state : State) (found : List Line × (State × Line)) → IsRest line.text → KeptTexts found.0 × IsRest found.1.1.text →
    KeptTexts (if c then in_front (close_of line) found else ([], (state, line))).0 × IsRest (if c then in_front (close_of line) found else ([], (state, line))).1.1.text
closers-at true line state found r h = ((close, h.0), h.1)
closers-at false line state found r h = (tt, r)

closers-kept : (n : ℕ) (state : State) (line : Line) → IsRest line.text → KeptTexts (closers n state line).0 × IsRest (closers n state line).1.1.text
closers-kept zero state line r = (tt, r)
closers-kept (suc n) state line r =
    closers-at (begins_with 125 line.text) line state (closers n (closed state) (behind line)) r (closers-kept n (closed state) (behind line) (behind-kept line r))

-- ---- lines

kept-append : (a b : List Line) → KeptTexts a → KeptTexts b → KeptTexts (a ++ b)
kept-append [] b h k = k
kept-append (line ∷ a) b h k = (h.0, kept-append a b h.1 k)

field-some : (text : List ℕ) (o : Bool) (v : Bool) → (v && layout_field text o) ≡ true → 0 < length text
unfolding layout_field is_field after_name name_len trim_start indent
field-some [] o true h = absurd cc
field-some [] o false h = absurd cc
field-some (b ∷ text) o v h = omega arith

item-at : (c : Bool) (o : Bool) (state : State) (line : Line) → (not (in_values state) && layout_field line.text o) ≡ c → IsRest line.text →
    KeptTexts (if c then (line ∷ [], in_layout state line.indent) else pieces o state line).0
item-at true o state line e r = (record { piece = r.piece; some = field-some line.text o (not (in_values state)) e; code = r.code }, tt)
item-at false o state line e r = cut-kept (length line.text) o line.number (first_indent state line) state line.text r

item-kept : (o : Bool) (state : State) (line : Line) → IsRest line.text → KeptTexts (item_line o state line).0
unfolding item_line
item-kept o state line r = item-at _ o state line refl r

whole-kept : (o : Bool) (state : State) (line : Line) → IsRest line.text → KeptTexts (whole_line o state line).0
whole-kept o state line r =
    let c = closers-kept (length line.text) state line r in
    kept-append (closers (length line.text) state line).0 _ c.0 (item-kept o (closers (length line.text) state line).1.0 (closers (length line.text) state line).1.1 c.1)

raised-at : (c o : Bool) (state : State) (line : Line) → IsRest line.text → KeptTexts (if c then pieces o state line else whole_line o state line).0
raised-at true o state line r = cut-kept (length line.text) o line.number (first_indent state line) state line.text r
raised-at false o state line r = whole-kept o state line r

raised-kept : (o : Bool) (state : State) (line : Line) → IsRest line.text → KeptTexts (raised_line o state line).0
unfolding raised_line
raised-kept o state line r = raised-at (in_values state) o state line r

laid-at : (c d o : Bool) (state : State) (line : Line) → IsKeptText line.text →
    KeptTexts (if c then (line ∷ [], state) else (if d then raised_line o (begun state) (behind line) else whole_line o (begun state) line)).0
laid-at true d o state line h = (h, tt)
laid-at false true o state line h = raised-kept o (begun state) (behind line) (behind-kept line (rest-of h))
laid-at false false o state line h = whole-kept o (begun state) line (rest-of h)

laid-kept : (o : Bool) (state : State) (line : Line) → IsKeptText line.text → KeptTexts (laid o state line).0
unfolding laid
laid-kept o state line h = laid-at (goes_on state line) state.raised o state line h

pub relaid-kept : (state : State) (lines : List Line) → KeptTexts lines → KeptTexts (relaid_from state lines)
relaid-kept state [] h = tt
relaid-kept state (line ∷ lines) h =
    kept-append (laid (opens lines) state line).0 _ (laid-kept (opens lines) state line h.0) (relaid-kept (laid (opens lines) state line).1 lines h.1)
