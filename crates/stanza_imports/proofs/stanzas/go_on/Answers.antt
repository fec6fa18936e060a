use Rattle.std.proofs.Common.{List, ◌∷◌, ◌++◌, ap, ◌∙◌, refl, map, length, take, drop, ◌-◌, arith}
use Rattle.section_syntax.specs.declared.part.SectionPart.{SectionPart}
use Rattle.stanza_imports.specs.declared.stanzas.ImportStep.{ImportStep}
use Rattle.stanza_imports.specs.declared.stanzas.ImportStep.TheVariants as step
use Rattle.stanza_imports.proofs.WalkSteps.{walked_part, walked_import, first_step, cost_left, with_frame, with_cost}
use Rattle.stanza_imports.specs.Bodies.{placed_part}
use Rattle.stanza_imports.specs.Walk.{frames_parts}
use Rattle.stanza_imports.proofs.stanzas.go_on.Goals as goal

pub returns-in_ok-push-in-Part-2-clause-parts : goal.returns-in_ok-push-in-Part-2-clause-parts
returns-in_ok-push-in-Part-2-clause-parts c =
    let steps = c.args.steps.now in
    let rest = take (length steps - 1) (drop 1 steps) in
    walked_part c.args.branches c.in_ok-inner-in-Part.inner c.args.stanzas.now steps rest c.args.placed.now.items
    (record { branches = c.in_ok-inner-in-Part.inner; part = c.in-Part.part }) (frames_parts c.args.frames.now.items)
    (first_step steps c.step-item.result c.in-len1-up.len_at_least c.step-item.is ∙ ap (λ (s : ImportStep). s ∷ rest) c.in-Part.is)
    c.in_ok-inner-in-Part.ensures refl c.in_ok-push-in-Part.ensures.items (with_frame _ c.args.frames.now.items c.in_ok-push-in-Part-2.ensures.items)

pub returns-in_ok-push-in-Part-2-clause-cost : goal.returns-in_ok-push-in-Part-2-clause-cost
returns-in_ok-push-in-Part-2-clause-cost c =
    let steps = c.args.steps.now in
    let rest = take (length steps - 1) (drop 1 steps) in
    let new = with_cost _ c.args.frames.now.items c.in_ok-push-in-Part-2.ensures.items in
    let left = cost_left c.args.stanzas.now steps rest (step.Part c.in-Part.part)
    (first_step steps c.step-item.result c.in-len1-up.len_at_least c.step-item.is ∙ ap (λ (s : ImportStep). s ∷ rest) c.in-Part.is) in
    omega arith

pub returns-in_ok-enter-in-Import-clause-parts : goal.returns-in_ok-enter-in-Import-clause-parts
returns-in_ok-enter-in-Import-clause-parts c =
    let steps = c.args.steps.now in
    let rest = take (length steps - 1) (drop 1 steps) in
    ap (λ (v : List SectionPart). map placed_part c.args.placed.now.items ++ v)
    (walked_import c.args.branches c.in-Import.own.now c.in_ok-inner-in-Import.inner c.args.stanzas.now steps rest (step.Import c.in-Import.stanza c.in-Import.own) c.in-Import.stanza (frames_parts c.args.frames.now.items)
    (first_step steps c.step-item.result c.in-len1-up.len_at_least c.step-item.is ∙ ap (λ (s : ImportStep). s ∷ rest) c.in-Import.is)
    refl c.in_ok-inner-in-Import.ensures c.in_ok-enter-in-Import.ensures.parts (with_frame _ c.args.frames.now.items c.in_ok-push-in-Import.ensures.items))

pub returns-in_ok-enter-in-Import-clause-cost : goal.returns-in_ok-enter-in-Import-clause-cost
returns-in_ok-enter-in-Import-clause-cost c =
    let steps = c.args.steps.now in
    let rest = take (length steps - 1) (drop 1 steps) in
    let more = with_cost _ c.args.frames.now.items c.in_ok-push-in-Import.ensures.items in
    let left = cost_left c.args.stanzas.now steps rest (step.Import c.in-Import.stanza c.in-Import.own)
    (first_step steps c.step-item.result c.in-len1-up.len_at_least c.step-item.is ∙ ap (λ (s : ImportStep). s ∷ rest) c.in-Import.is) in
    let new = c.in_ok-enter-in-Import.ensures.cost in
    omega arith
