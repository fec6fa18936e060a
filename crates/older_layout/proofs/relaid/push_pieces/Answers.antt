use Rattle.std.proofs.Common.{◌<◌, [], ◌∷◌, ◌++◌, length, ◌∙◌, ap, arith}
use Rattle.std.proofs.lemmas.Bool.Decides.{nat_tests}
use Rattle.older_layout.specs.Cuts.{first_piece}
use Rattle.older_layout.specs.Relaid.{piece_line}
use Rattle.older_layout.proofs.Turns.{next}
use Rattle.older_layout.proofs.relaid.push_pieces.Goals as goal

pub loop-rest-preserved : goal.loop-rest-preserved
loop-rest-preserved c =
    let rest = c.loop-rest.rest.now in
    let found = c.loop-rest.found.items in
    let piece = c.first_piece-piece.result in
    let test = c.loop-rest-test.ensures in
    let some : 0 < length rest = grind (arith, nat_tests) in
    let first = c.first_piece-piece.ensures.value ∙ ap (λ v. first_piece v c.args.opens rest) c.in_values.ensures in
    let pushed = c.in_ok-push_piece.ensures ∙ ap (λ n. found ++ piece_line n c.loop-rest.indent piece ∷ []) c.number.ensures in
    let h = c.loop-rest.invariant.1 in (
      c.rest-rest.utf8,
      next h.0 c.args.opens c.args.line.now.number c.loop-rest.indent c.loop-rest.state c.after-state.result rest c.rest-rest.result.now piece found c.push_piece.new.found.items _ _
          some c.first_piece-piece.ensures.shorter first pushed c.after-state.ensures c.rest-rest.ensures h.1,
    )
