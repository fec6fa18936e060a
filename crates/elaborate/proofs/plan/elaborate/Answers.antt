use Rattle.std.proofs.Common.{subst, ap, ◌∙◌}
use Rattle.std.proofs.lemmas.Result.{IfOk-weaker}
use Rattle.plan_components.specs.Chosen.{Selection, selection_from}
use Rattle.choice_problem.specs.Assignment.{Assignment}
use Rattle.elaborate.specs.Plan.{IsPlan}
use Rattle.elaborate.proofs.plan.elaborate.Goals as goal

pub returns : goal.returns
returns c =
    let values : Assignment → Selection = selection_from c.args.index.now c.args.names.now c.args.env.now in
    IfOk-weaker c.planned.result _ _
    (λ lines p. subst (λ s. IsPlan s lines) (c.new-chosen.ensures ∙ ap values (λ j v. c.in_ok-values.ensures v j)) p) c.planned.ensures
