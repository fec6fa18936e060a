use Rattle.std.proofs.Common.{◌≡◌, ◌<◌, ◌+◌, ◌-◌, [], ◌∷◌, length, take, drop, sym, subst, ap, ◌∙◌, arith, take_all}
use Rattle.std.specs.List.{prefix_len}
use Rattle.std.specs.Str.Lines.{lines, strip_carriage_return}
use Rattle.std.proofs.lemmas.List.{length-drop}
use Rattle.replay_text.proofs.Cut.{goes, last_weaker, lines_last, lines_more}
use Rattle.replay_text.proofs.lines.first_line.Goals as goal

pub returns-then-end-text : goal.returns-then-end-text
returns-then-end-text c =
    let text = c.args.text.now in
    let whole : prefix_len goes text ≡ length text = sym c.line_length-end.ensures.value ∙ c.if-end-text.true in
    last_weaker c.last_line.result _ _ (λ p. (p.0.now ≡ text) × (p.1.now ≡ []) × (0 < length text)) (λ p. (lines text ≡ p.0.now ∷ lines p.1.now) × (length p.1.now < length text)) c.last_line.ensures
    (λ e. ap lines e)
    (λ p h. (lines_last text whole h.2 ∙ ap (λ l. l ∷ []) (sym h.0) ∙ ap (λ l. p.0.now ∷ lines l) (sym h.1), subst (λ l. length l < length text) (sym h.1) h.2))

pub returns : goal.returns
returns c =
    let text = c.args.text.now in
    let end = c.line_length-end.result in
    let within = c.line_length-end.ensures.within in
    let n = c.if-end-text.false in
    let lt : end < length text = omega (arith, within, n) in
    let short : length (drop (end + 1) text) ≡ length text - (end + 1) = length-drop (end + 1) text in
    let rest : take (length text - (end + 1)) (drop (end + 1) text) ≡ drop (end + 1) text = take_all (length text - (end + 1)) (drop (end + 1) text) (omega (arith, short)) in
    let e = c.line_length-end.ensures.value in
    let more : lines text ≡ strip_carriage_return (take end text) ∷ lines (drop (end + 1) text) =
    subst (λ k. lines text ≡ strip_carriage_return (take k text) ∷ lines (drop (k + 1) text)) (sym e) (lines_more text (subst (λ k. k < length text) e lt)) in (
      more ∙ ap (λ l. l ∷ lines (drop (end + 1) text)) (sym c.without_return.ensures) ∙ ap (λ l. c.without_return.result.now ∷ lines l) (sym rest),
      subst (λ l. length l < length text) (sym rest) (omega (arith, short, lt)),
    )
