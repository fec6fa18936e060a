use Rattle.std.proofs.Common.{◌≡◌, ◌++◌, ◌∷◌, [], false, sym, ap, ◌∙◌, drop, arith}
use Rattle.std.proofs.lemmas.List.{append-nil, drop_all}
use Rattle.plan_types.specs.declared.element.Element.TheVariants.{Section}
use Rattle.cabal_lexer.specs.Tree.{tree_of}
use Rattle.older_rules.specs.declared.body.Place.TheVariants as place
use Rattle.older_rules.specs.Bodies.{field_rule, place_of, kept, told}
use Rattle.older_rules.proofs.BodySteps.{field_keeps, field_tells, section_keeps, section_tells}
use Rattle.older_rules.proofs.body.+body.Goals as goal

pub rewrite-returns-in_ok-push_field-in-Field-clause-items :
    goal.rewrite-returns-in_ok-push_field-in-Field-clause-items
rewrite-returns-in_ok-push_field-in-Field-clause-items t c =
    let part = c.in-Field in
    field_keeps c.args.inside.now.edition c.args.inside.now.tools.now.entries c.args.chained part.line part.name part.values c.args.out.now c.push_field.new.out part.is
    (c.field_rule-rule.ensures ∙ ap (field_rule c.args.inside.now.edition) c.as_str.ensures) c.chained_after.ensures c.in_ok-push_field-in-Field.ensures.items

pub rewrite-returns-in_ok-push_field-in-Field-clause-changes :
    goal.rewrite-returns-in_ok-push_field-in-Field-clause-changes
rewrite-returns-in_ok-push_field-in-Field-clause-changes t c =
    let part = c.in-Field in
    field_tells c.args.inside.now.edition c.args.inside.now.tools.now.entries c.args.chained part.line part.name part.values c.args.changes.now c.push_field.new.changes part.is
    (c.field_rule-rule.ensures ∙ ap (field_rule c.args.inside.now.edition) c.as_str.ensures) c.chained_after.ensures c.in_ok-push_field-in-Field.ensures.changes

pub rewrite-returns-in_ok-push-in-Dropped-clause-items : goal.rewrite-returns-in_ok-push-in-Dropped-clause-items
rewrite-returns-in_ok-push-in-Dropped-clause-items t c =
    let part = c.in-Section in
    section_keeps c.args.inside.now.edition c.args.inside.now.tools.now.entries c.args.chained part.line part.name part.args part.items place.Dropped c.args.out.now c.args.out.now part.is
    (sym (c.place_of.ensures ∙ ap (place_of c.args.inside.now.edition c.args.chained) c.as_str-in-Section.ensures) ∙ c.in-Dropped.is) (sym (append-nil c.args.out.now))

pub rewrite-returns-in_ok-push-in-Dropped-clause-changes : goal.rewrite-returns-in_ok-push-in-Dropped-clause-changes
rewrite-returns-in_ok-push-in-Dropped-clause-changes t c =
    let part = c.in-Section in
    section_tells c.args.inside.now.edition c.args.inside.now.tools.now.entries c.args.chained part.line part.name part.args part.items place.Dropped c.args.changes.now c.push.new.self part.is
    (sym (c.place_of.ensures ∙ ap (place_of c.args.inside.now.edition c.args.chained) c.as_str-in-Section.ensures) ∙ c.in-Dropped.is) c.in_ok-push-in-Dropped.ensures.ok

pub rewrite-returns-in_ok-push_section-in-Opens-clause-items : goal.rewrite-returns-in_ok-push_section-in-Opens-clause-items
rewrite-returns-in_ok-push_section-in-Opens-clause-items t c =
    let part = c.in-Section in
    let inside = c.args.inside.now in
    section_keeps inside.edition inside.tools.now.entries c.args.chained part.line part.name part.args part.items place.Opens c.args.out.now c.push_section.new.out part.is
    (sym (c.place_of.ensures ∙ ap (place_of inside.edition c.args.chained) c.as_str-in-Section.ensures) ∙ c.in-Opens.is)
    (c.in_ok-push_section-in-Opens.ensures
    ∙ ap (λ items. c.args.out.now ++ Section part.line part.name part.args items ∷ [])
    (c.in_ok-inner-in-Opens.ensures.items ∙ ap (λ items. kept inside.edition inside.tools.now.entries false (tree_of items)) c.as_slice.ensures))

pub rewrite-returns-in_ok-push_section-in-Opens-clause-changes : goal.rewrite-returns-in_ok-push_section-in-Opens-clause-changes
rewrite-returns-in_ok-push_section-in-Opens-clause-changes t c =
    let part = c.in-Section in
    let inside = c.args.inside.now in
    section_tells inside.edition inside.tools.now.entries c.args.chained part.line part.name part.args part.items place.Opens c.args.changes.now c.rewritten.new.changes part.is
    (sym (c.place_of.ensures ∙ ap (place_of inside.edition c.args.chained) c.as_str-in-Section.ensures) ∙ c.in-Opens.is)
    (c.in_ok-inner-in-Opens.ensures.changes ∙ ap (λ items. c.args.changes.now ++ told inside.edition inside.tools.now.entries false (tree_of items)) c.as_slice.ensures)

pub rewrite-returns-in_ok-push_section-in-Closes-clause-items : goal.rewrite-returns-in_ok-push_section-in-Closes-clause-items
rewrite-returns-in_ok-push_section-in-Closes-clause-items t c =
    let part = c.in-Section in
    let inside = c.args.inside.now in
    section_keeps inside.edition inside.tools.now.entries c.args.chained part.line part.name part.args part.items place.Closes c.args.out.now c.push_section-in-Closes.new.out part.is
    (sym (c.place_of.ensures ∙ ap (place_of inside.edition c.args.chained) c.as_str-in-Section.ensures) ∙ c.in-Closes.is)
    (c.in_ok-push_section-in-Closes.ensures
    ∙ ap (λ items. c.args.out.now ++ Section part.line part.name part.args items ∷ [])
    (c.in_ok-inner-in-Closes.ensures.items ∙ ap (λ items. kept inside.edition inside.tools.now.entries false (tree_of items)) c.as_slice-in-Closes.ensures))

pub rewrite-returns-in_ok-push_section-in-Closes-clause-changes : goal.rewrite-returns-in_ok-push_section-in-Closes-clause-changes
rewrite-returns-in_ok-push_section-in-Closes-clause-changes t c =
    let part = c.in-Section in
    let inside = c.args.inside.now in
    section_tells inside.edition inside.tools.now.entries c.args.chained part.line part.name part.args part.items place.Closes c.args.changes.now c.rewritten-in-Closes.new.changes part.is
    (sym (c.place_of.ensures ∙ ap (place_of inside.edition c.args.chained) c.as_str-in-Section.ensures) ∙ c.in-Closes.is)
    (c.in_ok-inner-in-Closes.ensures.changes ∙ ap (λ items. c.args.changes.now ++ told inside.edition inside.tools.now.entries false (tree_of items)) c.as_slice-in-Closes.ensures)

pub rewritten-returns-clause-items : goal.rewritten-returns-clause-items
unfolding kept
rewritten-returns-clause-items t c =
    let inside = c.args.inside.now in
    let over : drop c.loop-item.item-index c.args.items.now ≡ [] = drop_all c.loop-item.item-index c.args.items.now (omega (arith, c.loop-item-test.false, c.loop-item.auto.item-index-end)) in
    sym (append-nil c.loop-item.out) ∙ ap (λ rest. c.loop-item.out ++ kept inside.edition inside.tools.now.entries c.loop-item.chained (tree_of rest)) (sym over) ∙ c.loop-item.invariant.0

pub rewritten-returns-clause-changes : goal.rewritten-returns-clause-changes
unfolding told
rewritten-returns-clause-changes t c =
    let inside = c.args.inside.now in
    let over : drop c.loop-item.item-index c.args.items.now ≡ [] = drop_all c.loop-item.item-index c.args.items.now (omega (arith, c.loop-item-test.false, c.loop-item.auto.item-index-end)) in
    sym (append-nil c.loop-item.changes) ∙ ap (λ rest. c.loop-item.changes ++ told inside.edition inside.tools.now.entries c.loop-item.chained (tree_of rest)) (sym over) ∙ c.loop-item.invariant.1
