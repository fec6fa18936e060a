use Rattle.std.proofs.Common.{List, ◌++◌, sym, ap, ◌∙◌, take, arith}
use Rattle.section_syntax.specs.declared.part.SectionPart.{SectionPart}
use Rattle.std.proofs.lemmas.Bool.{ltb-true, ltb-false}
use Rattle.stanza_imports.proofs.WalkSteps.{none_entered, entered, entered_cost, with_frame, with_cost}
use Rattle.stanza_imports.specs.Walk.{left_parts, frames_parts, left_cost}
use Rattle.stanza_imports.proofs.stanzas.enter.Goals as goal

pub returns-in_default-clause-parts : goal.returns-in_default-clause-parts
returns-in_default-clause-parts c = none_entered c.args.branches c.args.stanzas.now c.args.stanza _ (ltb-false _ _ (sym c.in_default.ensures.lookup.0))

pub returns-clause-parts : goal.returns-clause-parts
returns-clause-parts c =
    let stanzas = c.args.stanzas.now in
    with_frame _ c.args.frames.now.items c.in_ok-push.ensures.items
    ∙ ap (λ (v : List SectionPart). v ++ frames_parts c.args.frames.now.items)
    (ap (left_parts c.args.branches (take c.args.stanza stanzas)) c.as_slice.ensures.value
    ∙ entered stanzas c.args.stanza c.in-Some.body.now (ltb-true _ _ (sym c.in-Some.ensures.lookup.0)) c.in-Some.ensures.lookup.1 c.args.branches)

pub returns-clause-cost : goal.returns-clause-cost
returns-clause-cost c =
    let stanzas = c.args.stanzas.now in
    let e = with_cost _ c.args.frames.now.items c.in_ok-push.ensures.items in
    let k = ap (left_cost (take c.args.stanza stanzas)) c.as_slice.ensures.value
    ∙ entered_cost stanzas c.args.stanza c.in-Some.body.now (ltb-true _ _ (sym c.in-Some.ensures.lookup.0)) c.in-Some.ensures.lookup.1 in
    omega arith
