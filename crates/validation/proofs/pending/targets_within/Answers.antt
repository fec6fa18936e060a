use Rattle.std.proofs.Common.{◌∙◌, sym}
use Rattle.validation.proofs.Weighed.{none-owned}
use Rattle.validation.proofs.pending.targets_within.Goals as goal

pub returns-then-not-is_same : goal.returns-then-not-is_same
returns-then-not-is_same c = c.new.ensures ∙ sym (none-owned c.args.demands.now c.args.owner c.args.from c.requires (sym c.is_same.ensures ∙ c.if-not-is_same.true))
