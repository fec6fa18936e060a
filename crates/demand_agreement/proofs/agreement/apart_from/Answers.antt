use Rattle.std.proofs.Common.{◌∙◌, sym}
use Rattle.demand_agreement.proofs.Alike.{none-apart}
use Rattle.demand_agreement.proofs.agreement.apart_from.Goals as goal

pub returns-then-is_alike : goal.returns-then-is_alike
returns-then-is_alike g c =
    c.new-then-is_alike.ensures.items
    ∙ sym (none-apart c.args.trail.now (g.A.Asked.demands c.args.asked.now) c.args.owner c.args.target (c.is_alike.ensures c.if-is_alike.true))
