use Rattle.std.proofs.Common.{ap, ◌∙◌, sym, take, arith}
use Rattle.std.proofs.lemmas.List.{take_all}
use Rattle.stanza_imports.specs.Lines.{lesser}
use Rattle.stanza_imports.proofs.BadVisibilities.{worst, worst-push, worst_of}
use Rattle.common_laws.specs.Lists.{take_at}
use Rattle.stanza_imports.proofs.stanzas.first_bad_visibility.Goals as goal

pub loop-one-preserved : goal.loop-one-preserved
loop-one-preserved c =
    let items = c.as_slice-one-items.result.now in
    let i = c.loop-one.one-index in
    c.lesser-first.ensures
    ∙ (λ j. lesser (c.loop-one.invariant j) (c.bad_visibility.ensures j))
    ∙ sym (worst-push (take i items) c.one-item.result)
    ∙ ap worst (sym (take_at items i c.one-item.result (omega arith) c.one-item.is))

pub returns : goal.returns
returns c sections stand =
    c.loop-one.invariant
    ∙ ap worst (take_all c.loop-one.one-index c.as_slice-one-items.result.now (omega arith) ∙ c.as_slice-one-items.ensures.value)
    ∙ worst_of sections c.args.bodies.now stand
