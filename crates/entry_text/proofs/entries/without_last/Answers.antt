use Rattle.std.proofs.Common.{◌≡◌, ◌-◌, length, take, sym, ap, ◌∙◌, false, true, arith}
use Rattle.std.specs.Prelude.{◌==◌}
use Rattle.std.proofs.lemmas.List.{length-map}
use Rattle.entry_text.proofs.CommaCuts.{texts, last_text, some_borrow, blank_ends, other_ends, one_ends}
use Rattle.entry_text.proofs.entries.without_last.Goals as goal

pub returns-in-len1-up : goal.returns-in-len1-up
returns-in-len1-up c =
    let pieces = c.args.pieces.now in
    let n = length pieces - 1 in
    let some : (length (texts (take n pieces)) == 0) ≡ false = ap (λ k. k == 0) (length-map (take n pieces) (λ piece. piece.now)) ∙ sym c.is_empty.ensures ∙ c.if-not-is_empty.true in
    blank_ends (texts pieces) (texts (take n pieces)) _ (last_text pieces n _ (omega arith)) some (sym c.are_blanks.ensures ∙ c.if-are_blanks.true)

pub returns-in_default-2 : goal.returns-in_default-2
returns-in_default-2 c =
    let pieces = c.args.pieces.now in
    let n = length pieces - 1 in
    other_ends (texts pieces) (texts (take n pieces)) _ (last_text pieces n _ (omega arith)) (sym c.are_blanks.ensures ∙ c.if-are_blanks.false)

pub returns-in_default-3 : goal.returns-in_default-3
returns-in_default-3 c =
    let pieces = c.args.pieces.now in
    let n = length pieces - 1 in
    let one : (length (texts (take n pieces)) == 0) ≡ true = ap (λ k. k == 0) (length-map (take n pieces) (λ piece. piece.now)) ∙ sym c.is_empty.ensures ∙ c.if-not-is_empty.false in
    one_ends (texts pieces) (texts (take n pieces)) _ (last_text pieces n (some_borrow pieces c.in-len1-up.len_at_least) (omega arith)) one
