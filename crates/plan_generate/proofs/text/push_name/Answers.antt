use Rattle.std.proofs.Common.{ap, ◌∙◌, ◌++◌, ◌∷◌}
use Rattle.std.specs.Fmt.{styled_decimal}
use Rattle.std.proofs.lemmas.Result.{on_ok_weaker}
use Rattle.plan_generate.proofs.Names.{five-digits}
use Rattle.plan_generate.proofs.text.push_name.Goals as goal

pub returns : goal.returns
returns c =
    on_ok_weaker c.push_str.result
    (λ is.
    is ∙ ap (λ l. c.args.text.now ++ l)
    (c.as_str.ensures.value ∙ c.in_ok-name.ensures.ok ∙ ap (λ spec. 103 ∷ styled_decimal spec c.args.number) c.laid_out.ensures
    ∙ ap (λ ds. 103 ∷ ds) (five-digits c.args.number)))
    c.push_str.ensures.ok
