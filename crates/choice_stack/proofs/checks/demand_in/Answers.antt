use Rattle.std.proofs.Common.{◌∙◌}
use Rattle.choice_stack.specs.Stack.{no_demand}
use Rattle.std.proofs.lemmas.List.{get_or_default}
use Rattle.choice_stack.proofs.checks.demand_in.Goals as goal

pub returns : goal.returns
returns c = c.index-listed-place.is ∙ get_or_default c.args.listed.now c.args.place c.index-listed-place.result no_demand c.requires
