use Rattle.std.proofs.Common.{subst}
use Rattle.std.proofs.lemmas.Result.{IfOk-weaker}
use Rattle.plan_types.proofs.OutcomeLemmas.{told-err}
use Rattle.stanza_imports.specs.Bodies.{AreBodiesOf}
use Rattle.description.proofs.read.described.Goals as goal

pub returns-clause-description : goal.returns-clause-description
returns-clause-description c =
    IfOk-weaker c.judged.result _ _ (λ d comes. comes c.in_ok-declared.ensures (subst (λ s. AreBodiesOf s c.in_ok-bodies.bodies) c.as_slice.ensures c.in_ok-bodies.ensures)) c.judged.ensures.description

pub returns-clause-fault : goal.returns-clause-fault
returns-clause-fault c =
    told-err c.judged.result _ _ (λ line cause comes. comes c.in_ok-declared.ensures (subst (λ s. AreBodiesOf s c.in_ok-bodies.bodies) c.as_slice.ensures c.in_ok-bodies.ensures)) c.judged.ensures.fault
