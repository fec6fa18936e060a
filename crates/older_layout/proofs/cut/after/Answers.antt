use Rattle.std.proofs.Common.{length, arith, ap}
use Rattle.older_layout.proofs.Cutting.{trim_start-le}
use Rattle.older_layout.proofs.cut.after.Goals as goal

pub returns-else-is_comment-clause-within : goal.returns-else-is_comment-clause-within
returns-else-is_comment-clause-within c = let same = ap length c.trim_start-text.ensures in omega (arith, trim_start-le c.args.text.now, same)
