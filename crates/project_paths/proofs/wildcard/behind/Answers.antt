use Rattle.std.proofs.Common.{◌≡◌, Some, ap, sym, ◌∙◌, ◌+◌, ◌-◌, length, drop, take}
use Rattle.std.specs.Option.{option_copied}
use Rattle.std.proofs.lemmas.List.{length-drop}
use Rattle.std.proofs.Math.Seq.{take-length}
use Rattle.project_paths.proofs.Finds.{found-behind, not-behind}
use Rattle.project_paths.proofs.wildcard.behind.Goals as goal

pub returns-in_err-place : goal.returns-in_err-place
returns-in_err-place c = ap option_copied c.from_residual.ensures ∙ sym (not-behind c.args.piece.now c.args.text.now c.in_err-place.ensures)

pub returns : goal.returns
returns c =
    let piece = c.args.piece.now in
    let text = c.args.text.now in
    let k = c.in_ok-place.place in
    let end = k + length piece in
    let whole : take (length text - end) (drop end text) ≡ drop end text =
    ap (λ n. take n (drop end text)) (sym (length-drop end text)) ∙ take-length (drop end text) in
    ap (λ needle. Some (take (length text - (k + length needle)) (drop (k + length needle) text))) c.needle.ensures
    ∙ ap Some whole ∙ sym (found-behind piece text k c.in_ok-place.ensures)
