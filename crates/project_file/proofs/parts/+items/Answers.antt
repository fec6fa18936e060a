use Rattle.std.proofs.Common.{◌≡◌, ◌++◌, [], sym, subst, ap, ◌∙◌, refl, arith, drop}
use Rattle.std.specs.Prelude.{Some}
use Rattle.std.proofs.lemmas.List.{append-nil, drop_all}
use Rattle.std.proofs.lemmas.Result.{IfOk-weaker}
use Rattle.cabal_lexer.specs.Tree.{tree_of}
use Rattle.project_file.specs.Parts.{Says, package_parts, placed}
use Rattle.project_file.specs.Words.{section_word}
use Rattle.project_file.specs.declared.part.ProjectSaid.TheVariants.{Warning}
use Rattle.project_file.proofs.Walk.{branch_goes, field_goes, loop_goes, package_goes, section_goes, unread_goes, unsupported_goes, warned_goes}
use Rattle.project_file.proofs.parts.+items.Goals as goal

pub read_item-returns-in_ok-place-in-Field : goal.read_item-returns-in_ok-place-in-Field
read_item-returns-in_ok-place-in-Field t c =
    let field = c.in-Field in
    field_goes c.args.env.now field.line field.name field.values c.args.chain c.in_ok-said-in-Field.said c.args.parts.now field.is c.in_ok-said-in-Field.ensures c.in_ok-place-in-Field.ensures

pub read_item-returns-in-Section : goal.read_item-returns-in-Section
read_item-returns-in-Section t c =
    let part = c.in-Section in
    IfOk-weaker c.read_section.result _ _
    (λ left says behind more rest. section_goes c.args.env.now part.line part.name part.args part.items c.args.chain c.args.parts.now c.read_section.new.parts behind more part.is refl (says behind more rest))
    c.read_section.ensures

pub read_items-loop-item-preserved : goal.read_items-loop-item-preserved
read_items-loop-item-preserved t c =
    loop_goes c.args.env.now c.args.items.now c.loop-item.item-index c.item-item.result _ _ _ _ _ _
    (omega (arith, c.loop-item-test.true, c.loop-item.auto.item-index-end)) (sym c.item-item.is) c.loop-item.invariant c.in_ok-chain.ensures

pub read_items-returns : goal.read_items-returns
unfolding Says
read_items-returns t c =
    let over : drop c.loop-item.item-index c.args.items.now ≡ [] = drop_all c.loop-item.item-index c.args.items.now (omega (arith, c.loop-item-test.false, c.loop-item.auto.item-index-end)) in
    let all = c.loop-item.invariant [] (subst (λ i. Says c.args.env.now (tree_of i) c.loop-item.chain []) (sym over) refl) in
    (all.0, all.1, sym (append-nil c.loop-item.parts) ∙ all.2)

pub read_section-returns-in-Unread : goal.read_section-returns-in-Unread
read_section-returns-in-Unread t c behind more rest =
    unread_goes c.args.env.now c.args.section.now.line c.args.section.now.name.now c.args.section.now.args.now (tree_of c.args.section.now.items.now) c.args.chain _ _ c.args.parts.now more (sym (c.section_word.ensures ∙ ap section_word c.as_str.ensures) ∙ c.in-Unread.is) rest

pub read_section-returns-in_ok-place-in-Unsupported : goal.read_section-returns-in_ok-place-in-Unsupported
read_section-returns-in_ok-place-in-Unsupported t c behind more rest =
    unsupported_goes c.args.env.now c.args.section.now.line c.args.section.now.name.now c.args.section.now.args.now (tree_of c.args.section.now.items.now) c.args.chain _ _ c.args.parts.now more (sym (c.section_word.ensures ∙ ap section_word c.as_str.ensures) ∙ c.in-Unsupported.is)
    c.in_ok-place-in-Unsupported.ensures rest

pub read_section-returns-in_ok-place-in-Warned : goal.read_section-returns-in_ok-place-in-Warned
read_section-returns-in_ok-place-in-Warned t c behind more rest =
    warned_goes c.args.env.now c.args.section.now.line c.args.section.now.name.now c.args.section.now.args.now (tree_of c.args.section.now.items.now) c.args.chain _ _ c.args.parts.now more (sym (c.section_word.ensures ∙ ap section_word c.as_str.ensures) ∙ c.in-Warned.is)
    (c.in_ok-place-in-Warned.ensures ∙ ap (λ n. c.args.parts.now ++ placed c.args.section.now.line (Some (Warning n))) c.in_ok-name-in-Warned.ensures) rest

pub read_section-returns-in_ok-read_package-in-Package : goal.read_section-returns-in_ok-read_package-in-Package
read_section-returns-in_ok-read_package-in-Package t c behind more rest =
    package_goes c.args.env.now c.args.section.now.line c.args.section.now.name.now c.args.section.now.args.now (tree_of c.args.section.now.items.now) c.args.chain _ _ c.args.parts.now more (sym (c.section_word.ensures ∙ ap section_word c.as_str.ensures) ∙ c.in-Package.is)
    (c.in_ok-read_package-in-Package.ensures ∙ ap (λ i. c.args.parts.now ++ package_parts c.args.section.now.line c.args.section.now.args.now (tree_of i)) c.as_slice.ensures) rest

pub read_section-returns-in_ok-left-in-Branch : goal.read_section-returns-in_ok-left-in-Branch
read_section-returns-in_ok-left-in-Branch t c behind more rest =
    let branch = c.in_ok-left-in-Branch.ensures in
    branch_goes c.args.env.now c.args.section.now.line c.args.section.now.name.now c.args.section.now.args.now (tree_of c.args.section.now.items.now) c.args.chain _ _ c.in-Branch.word c.in_ok-left-in-Branch.left branch.0 c.args.parts.now more (sym (c.section_word.ensures ∙ ap section_word c.as_str.ensures) ∙ c.in-Branch.is)
    branch.1 branch.2 rest
