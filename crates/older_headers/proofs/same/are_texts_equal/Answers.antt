use Rattle.std.proofs.Common.{◌≡◌, sym, subst}
use Rattle.std.specs.Bool.{Decides}
use Rattle.std.specs.Cmp.Lexicographic.{bytes_decides, pointwise_decides}
use Rattle.older_headers.proofs.same.are_texts_equal.Goals as goal

pub returns : goal.returns
returns c = subst (λ r. Decides r (c.args.values.now ≡ c.args.others.now)) (sym c.eq.ensures) (pointwise_decides bytes_decides c.args.values.now c.args.others.now)
