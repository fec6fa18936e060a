use Rattle.std.proofs.Common.{◌∙◌, ap, sym, subst, length, drop, arith}
use Rattle.std.specs.Str.{IsCharBoundary}
use Rattle.older_layout.specs.Cuts.{Piece, uncommented, last_piece}
use Rattle.older_layout.proofs.Cutting.{length_of, cut-boundary, rest-shorter}
use Rattle.older_layout.proofs.cut.first_piece.Goals as goal

pub split_at-requires : goal.split_at-requires
split_at-requires c =
    let text = c.args.text.now in
    subst (λ n. IsCharBoundary text n) (sym (ap length_of c.cut-kind.ensures)) (cut-boundary text c.utf8.text c.args.in_values)

pub returns-then-not-has_value-clause-shorter : goal.returns-then-not-has_value-clause-shorter
unfolding last_piece
returns-then-not-has_value-clause-shorter c = let none = ap (λ (p : Piece). length p.rest) c.last_piece.ensures in omega (arith, none, c.requires)

pub returns-else-not-in_values-clause-shorter : goal.returns-else-not-in_values-clause-shorter
returns-else-not-in_values-clause-shorter c =
    let text = c.args.text.now in
    let same = ap length (c.after-rest.ensures.value ∙ ap uncommented (c.split_at.ensures.back ∙ ap (λ n. drop n text) (ap length_of c.cut-kind.ensures))) in
    omega (arith, same, rest-shorter c.args.in_values text c.requires)
