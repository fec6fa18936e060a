use Rattle.std.proofs.Common.{ap, sym, subst, ◌∙◌}
use Rattle.section_syntax.specs.Items.{AreParts}
use Rattle.cabal_lexer.specs.Tree.{tree_of}
use Rattle.section_syntax.specs.Words.{section_kind}
use Rattle.section_syntax.proofs.Files as files
use Rattle.section_syntax.proofs.file.read_top.Goals as goal

pub returns-in_ok-read_head-in-Field : goal.returns-in_ok-read_head-in-Field
returns-in_ok-read_head-in-Field c =
    let said = c.in_ok-read_head-in-Field.ensures in
    files.head_goes c.args.spec c.in-Field.line c.in-Field.name c.in-Field.values said.0 c.args.heads.now c.args.sections.now c.in-Field.is said.1 said.2

pub returns-in-None : goal.returns-in-None
returns-in-None c behind more others rest =
    let part = c.in-Section in
    files.top_goes c.args.spec part.line part.name part.args part.items c.args.sections.now c.args.sections.now c.args.heads.now behind more others part.is
    (files.unread_section c.args.spec part.line part.args (tree_of part.items) behind more c.args.sections.now others
    (sym (c.section_kind.ensures ∙ ap section_kind c.as_str.ensures) ∙ c.in-None.is) rest)

pub returns-in_ok-push-in-Some : goal.returns-in_ok-push-in-Some
returns-in_ok-push-in-Some c behind more others rest =
    let part = c.in-Section in
    files.top_goes c.args.spec part.line part.name part.args part.items c.args.sections.now c.push.new.self c.args.heads.now behind more others part.is
    (files.read_section c.args.spec c.in-Some.kind part.line part.args (tree_of part.items) c.in_ok-parts-in-Some.parts behind more c.args.sections.now others
    (sym (c.section_kind.ensures ∙ ap section_kind c.as_str.ensures) ∙ c.in-Some.is)
    (subst (λ i. AreParts c.args.spec c.in-Some.kind (tree_of i) c.in_ok-parts-in-Some.parts) c.as_slice.ensures c.in_ok-parts-in-Some.ensures)
    c.in_ok-name-in-Some.ensures c.in_ok-push-in-Some.ensures.ok rest)
