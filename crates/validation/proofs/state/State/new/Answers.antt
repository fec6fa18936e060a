use Rattle.std.proofs.Common.{ap}
use Rattle.validation.specs.View.{View}
use Rattle.validation.proofs.Verdicts.{stands-new}
use Rattle.validation.proofs.state.State.new.Goals as goal

pub returns : goal.returns
returns g c = (
  stands-new (g.C.Choices.problem c.args.choices.now) c.in_ok-stack.stack c.in_ok-roots.roots (g.met.C.Choices.lawful c.args.choices.now) c.in_ok-roots.ensures c.in_ok-stack.ensures,
  ap (λ (s : View). s.trail) c.in_ok-stack.ensures,
)
