use Rattle.std.proofs.Common.{◌∙◌, ap, sym}
use Rattle.description.specs.Faults.{at, of_said}
use Rattle.description.specs.FaultOrder.{first}
use Rattle.description.proofs.faults.in_part.Goals as goal

pub returns-in-Branch : goal.returns-in-Branch
returns-in-Branch c file tells = c.of_branch.ensures file c.in-Branch.word tells ∙ ap (λ s. first (at c.args.part.now.line (of_said file s))) (sym c.in-Branch.is)
