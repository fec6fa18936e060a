use Rattle.std.proofs.Common.{◌≢◌, [], length, refl, ap, sym, ◌∙◌}
use Rattle.std.proofs.lemmas.Bool.{false≢true, eq-eqb}
use Rattle.version_range.proofs.RelaxedCuts.{lowered_by}
use Rattle.version_range.proofs.cuts.from_least.Goals as goal

pub returns-clause-ends : goal.returns-clause-ends
returns-clause-ends c =
    let ends = c.args.ends.now in
    let some : ends.items ≢ [] = λ e. false≢true (sym c.if-is_empty.false ∙ c.is_empty.ensures ∙ eq-eqb ends.len 0 (ends.ok.0 ∙ ap length e)) in
    (lowered_by ends.items _ c.make_least.new.self c.requires some refl c.make_least.ensures).0

pub returns-clause-relaxed : goal.returns-clause-relaxed
returns-clause-relaxed c =
    let ends = c.args.ends.now in
    let some : ends.items ≢ [] = λ e. false≢true (sym c.if-is_empty.false ∙ c.is_empty.ensures ∙ eq-eqb ends.len 0 (ends.ok.0 ∙ ap length e)) in
    (lowered_by ends.items _ c.make_least.new.self c.requires some refl c.make_least.ensures).1
