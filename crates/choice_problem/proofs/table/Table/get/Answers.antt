use Rattle.std.proofs.Common.{◌∙◌, ap}
use Rattle.choice_problem.specs.Table.{entry}
use Rattle.choice_problem.proofs.PartialMaps.{stored}
use Rattle.choice_problem.proofs.table.Table.get.Goals as goal

pub returns : goal.returns
returns c = c.copied.ensures ∙ c.get.ensures.value ∙ stored c.self.inside.entries.entries c.args.v ∙ ap (λ es. entry es c.args.v) c.self.view_is
