use Rattle.std.proofs.Common.{◌∙◌, ap, is_some}
use Rattle.choice_problem.specs.Table.{entry}
use Rattle.choice_problem.proofs.PartialMaps.{stored}
use Rattle.choice_problem.proofs.table.Table.has.Goals as goal

pub returns : goal.returns
returns c = c.contains_key.ensures ∙ ap is_some (stored c.self.inside.entries.entries c.args.v ∙ ap (λ es. entry es c.args.v) c.self.view_is)
