use Rattle.std.proofs.Common.{◌++◌, ◌∷◌, [], ap, ◌∙◌}
use Rattle.std.specs.Prelude.{codes}
use Rattle.std.proofs.lemmas.Result.{on_ok_weaker}
use Rattle.plan_types.specs.declared.element.Element.TheVariants.{Section}
use Rattle.older_fields.specs.Items.{line_of, text_of}
use Rattle.older_fields.proofs.flat_file.push_executable.Goals as goal

pub returns : goal.returns
returns c =
    let out = c.args.out.now in
    let item = c.args.item.now in
    on_ok_weaker c.push_section.result
    (λ e. e ∙ ap (λ line. out ++ Section line (codes "executable") c.in_ok-name.name c.in_ok-items.items ∷ []) c.line_of.ensures
    ∙ ap (λ name. out ++ Section (line_of item) (codes "executable") name c.in_ok-items.items ∷ []) c.in_ok-name.ensures
    ∙ ap (λ items. out ++ Section (line_of item) (codes "executable") (text_of item) items ∷ []) c.in_ok-items.ensures)
    c.push_section.ensures
