use Rattle.std.proofs.Common.{◌∙◌, sym, ap}
use Rattle.validation.specs.Pending.{count_before}
use Rattle.validation.proofs.Weighed.{before-is}
use Rattle.validation.proofs.pending.Pending.before.Goals as goal

pub returns : goal.returns
returns c =
    let i = c.self.inside in
    c.count.ensures ∙ sym (before-is i.stack.now i.addition.now.choice i.addition.now.demands) ∙ ap count_before c.self.view_is
