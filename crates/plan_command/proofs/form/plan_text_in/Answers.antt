use Rattle.std.proofs.Common.{sym, subst}
use Rattle.std.proofs.lemmas.Result.{IfOk-weaker}
use Rattle.choice_problem.specs.Trail.{value_in}
use Rattle.plan_components.specs.Chosen.{selection_from}
use Rattle.plan_command.specs.declared.form.Form.{Form}
use Rattle.plan_command.specs.Form.{IsPlanText}
use Rattle.plan_command.proofs.form.plan_text_in.Goals as goal

-- no node is printed, and there are some
pub returns-in-Freeze : goal.returns-in-Freeze
returns-in-Freeze c =
    let index = c.args.named.now.index.now in
    let names = c.args.named.now.names.now in
    let trail = c.args.trail.now in
    let some = c.some_plan.ensures (selection_from index names c.args.env.now (value_in trail)) in
    IfOk-weaker c.frozen_text.result _ _
    (λ text is. (some.0, some.1, subst (λ (form : Form). IsPlanText form index names trail some.0 c.args.counts text) (sym c.in-Freeze.is) is)) c.frozen_text.ensures
