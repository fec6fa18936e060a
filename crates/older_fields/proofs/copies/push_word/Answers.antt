use Rattle.std.proofs.Common.{◌++◌, ◌∷◌, [], ap, ◌∙◌}
use Rattle.std.proofs.lemmas.Result.{on_ok_weaker}
use Rattle.plan_types.specs.declared.element.Element.TheVariants.{Field}
use Rattle.older_fields.proofs.copies.push_word.Goals as goal

pub returns : goal.returns
returns c =
    on_ok_weaker c.push_value.result
    (λ e. e ∙ ap (λ value. c.args.out.now ++ Field c.args.line c.args.name.now (value ∷ []) ∷ []) c.in_ok-value.ensures)
    c.push_value.ensures
