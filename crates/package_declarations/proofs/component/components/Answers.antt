use Rattle.std.proofs.Common.{arith, ap, ◌∙◌, map, subst, sym}
use Rattle.std.specs.List.{All}
use Rattle.std.proofs.lemmas.List.Elements.{All-get_or}
use Rattle.plan_types.specs.declared.description.Component.{Component}
use Rattle.package_declarations.specs.Components.{component}
use Rattle.section_syntax.specs.Chained.{AreSectionParts}
use Rattle.stanza_imports.specs.declared.stanzas.Built.{Built}
use Rattle.package_declarations.proofs.PushLoops.{one_pushed, all_pushed}
use Rattle.package_declarations.proofs.ShownComponents.{all_shown}
use Rattle.stanza_imports.specs.Bodies.{table, body_parts, built_component}
use Rattle.stanza_imports.proofs.ChainedImports.{bodies-chained}
use Rattle.package_declarations.proofs.component.components.Goals as goal

pub loop-one-preserved : goal.loop-one-preserved
loop-one-preserved c file tells chained =
    one_pushed (λ (built : Built). component file (built_component (table c.args.bodies.now.stanzas.bodies.items) built).section built.kind)
    c.as_slice-one-items.result.now c.loop-one.one-index c.one-item.result _ c.loop-one.components (omega arith) c.one-item.is
    (c.in_ok-component.ensures file tells (subst (λ (built : Built). AreSectionParts (body_parts (table c.args.bodies.now.stanzas.bodies.items) built.body)) (sym c.one-item.is)
    (All-get_or (λ (built : Built). AreSectionParts (body_parts (table c.args.bodies.now.stanzas.bodies.items) built.body)) c.as_slice-one-items.result.now c.loop-one.one-index c.one-item.result (omega arith) chained))) c.in_ok-push.ensures.ok (c.loop-one.invariant file tells chained)

pub returns : goal.returns
returns c file tells stand sections =
    let told = table c.args.bodies.now.stanzas.bodies.items in
    let one : Built → Component = λ built. component file (built_component told built).section built.kind in
    let chained = subst (All (λ (built : Built). AreSectionParts (body_parts told built.body))) (sym c.as_slice-one-items.ensures.value) (bodies-chained file.sections c.args.bodies.now stand sections) in
    all_pushed one c.as_slice-one-items.result.now c.loop-one.one-index c.loop-one.components (omega arith) (c.loop-one.invariant file tells chained)
    ∙ ap (map one) c.as_slice-one-items.ensures.value
    ∙ all_shown file c.args.bodies.now stand
