use Rattle.std.proofs.Common.{◌++◌, ◌∷◌, [], ap, ◌∙◌}
use Rattle.std.specs.Prelude.{codes}
use Rattle.std.proofs.lemmas.Result.{on_ok_weaker}
use Rattle.plan_types.specs.declared.element.Element.TheVariants.{Section}
use Rattle.older_rules.proofs.modern.push_setup_section.Goals as goal

pub returns : goal.returns
returns c =
    on_ok_weaker c.push_section.result
    (λ e. e ∙ ap (λ args. c.args.out.now ++ Section c.args.header.line (codes "custom-setup") args c.in_ok-items.items ∷ []) c.new.ensures
    ∙ ap (λ items. c.args.out.now ++ Section c.args.header.line (codes "custom-setup") [] items ∷ []) c.in_ok-items.ensures)
    c.push_section.ensures
