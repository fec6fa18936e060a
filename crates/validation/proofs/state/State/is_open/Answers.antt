-- the variables that the stack has as open are open
use Rattle.std.proofs.Common.{◌∙◌, List, sym, ap}
use Rattle.choice_problem.specs.declared.problem.Demand.{Demand}
use Rattle.choice_problem.specs.Active.{waiting}
use Rattle.choice_problem.specs.ConflictSet.{has}
use Rattle.choice_problem.proofs.ActiveDemands.{open-waiting}
use Rattle.validation.specs.View.{View}
use Rattle.validation.proofs.state.State.is_open.Goals as goal

pub returns : goal.returns
returns c p lawful stands =
    c.is_open.ensures
    ∙ ap (λ l. has l c.args.v)
    (ap (λ (s : View). waiting s.trail s.active) c.self.view_is
    ∙ ap (λ (l : List Demand). waiting c.args.self.now.trail l) (ap (λ (s : View). s.active) stands.same)
    ∙ sym (open-waiting p lawful c.args.self.now.trail stands.choices))
