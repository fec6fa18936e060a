use Rattle.std.proofs.Common.{◌≡◌, ◌≢◌, ◌<◌, ◌%◌, ◌↔◌, IsSome, length, ap, sym, ◌∙◌}
use Rattle.version_range.proofs.RelaxedCuts.{lifted_by, kept_by}
use Rattle.version_range.proofs.cuts.without_stop.Goals as goal

pub returns-then-len-eq0 : goal.returns-then-len-eq0
returns-then-len-eq0 c =
    let ends = c.args.ends.now in
    let len : length ends.items ≡ c.len.result = sym (c.len.ensures ∙ ends.ok.0) in
    let even : length ends.items % 2 ≡ 0 = ap (λ n. n % 2) len ∙ c.if-len-eq0.true in
    let variant : IsSome c.pop.result ↔ (0 < length ends.items) = rw (← ends.ok.0) c.pop.ensures.variant in
    let lifted = lifted_by ends.items c.pop.new.self.items c.pop.result c.requires even c.pop.ensures.items variant in
    record { ends = lifted.0; relaxed = lifted.1 }

pub returns-else-len-eq0-clause-relaxed : goal.returns-else-len-eq0-clause-relaxed
returns-else-len-eq0-clause-relaxed c =
    let ends = c.args.ends.now in
    let len : length ends.items ≡ c.len.result = sym (c.len.ensures ∙ ends.ok.0) in
    let odd : length ends.items % 2 ≢ 0 = λ e. c.if-len-eq0.false (sym (ap (λ n. n % 2) len) ∙ e) in
    kept_by ends.items c.requires odd
