use Rattle.std.proofs.Common.{◌++◌, ◌∷◌, [], ap, ◌∙◌}
use Rattle.std.specs.Prelude.{codes}
use Rattle.std.proofs.lemmas.Result.{on_ok_weaker}
use Rattle.plan_types.specs.declared.element.Element.TheVariants.{Field}
use Rattle.older_rules.proofs.heads.push_header.Goals as goal

pub returns-clause-items : goal.returns-clause-items
returns-clause-items c =
    on_ok_weaker c.push_word.result
    (λ e. e ∙ ap (λ value. c.args.out.now ++ Field c.args.header.line (codes "cabal-version") (value ∷ []) ∷ []) c.header_text-value.ensures)
    c.push_word.ensures
