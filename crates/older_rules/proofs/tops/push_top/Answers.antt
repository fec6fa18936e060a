use Rattle.std.proofs.Common.{◌++◌, ap, ◌∙◌}
use Rattle.std.proofs.lemmas.Result.{on_ok_weaker}
use Rattle.cabal_lexer.specs.Tree.{tree_of}
use Rattle.older_rules.specs.Tops.{top_rule, top_kept, top_told}
use Rattle.older_rules.proofs.TopSteps.{field_keeps, field_tells, section_keeps, section_tells}
use Rattle.older_rules.proofs.tops.push_top.Goals as goal

pub returns-in-Field-clause-items : goal.returns-in-Field-clause-items
returns-in-Field-clause-items c =
    let r = c.args.rewriting.now in
    let part = c.in-Field in
    on_ok_weaker c.push.result
    (λ _. field_keeps r.edition r.tools.now.entries r.names.now.entries part.line part.name part.values c.args.out.now part.is) c.push.ensures.ok

pub returns-in-Field-clause-changes : goal.returns-in-Field-clause-changes
returns-in-Field-clause-changes c =
    let r = c.args.rewriting.now in
    let part = c.in-Field in
    on_ok_weaker c.push.result
    (λ e. field_tells r.edition r.tools.now.entries part.line part.name part.values c.args.changes.now c.push.new.self part.is e) c.push.ensures.ok

pub returns-in-Section-clause-items : goal.returns-in-Section-clause-items
returns-in-Section-clause-items c =
    let r = c.args.rewriting.now in
    let part = c.in-Section in
    on_ok_weaker c.push_top_section.result
    (λ e. section_keeps r.edition r.tools.now.entries r.names.now.entries part.line part.name part.args part.items c.top_rule-rule.result c.args.out.now c.push_top_section.new.out part.is
    (c.top_rule-rule.ensures ∙ ap (top_rule r.edition) c.as_str.ensures)
    (e ∙ ap (λ items. c.args.out.now ++ top_kept r.edition r.tools.now.entries r.names.now.entries c.top_rule-rule.result part.line part.name part.args (tree_of items)) c.as_slice.ensures))
    c.push_top_section.ensures.items

pub returns-in-Section-clause-changes : goal.returns-in-Section-clause-changes
returns-in-Section-clause-changes c =
    let r = c.args.rewriting.now in
    let part = c.in-Section in
    on_ok_weaker c.push_top_section.result
    (λ e. section_tells r.edition r.tools.now.entries part.line part.name part.args part.items c.top_rule-rule.result c.args.changes.now c.push_top_section.new.changes part.is
    (c.top_rule-rule.ensures ∙ ap (top_rule r.edition) c.as_str.ensures)
    (e ∙ ap (λ items. c.args.changes.now ++ top_told r.edition r.tools.now.entries c.top_rule-rule.result part.line part.args (tree_of items)) c.as_slice.ensures))
    c.push_top_section.ensures.changes
