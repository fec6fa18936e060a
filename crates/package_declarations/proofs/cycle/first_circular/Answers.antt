use Rattle.std.proofs.Common.{sym, ◌∙◌, subst}
use Rattle.common_laws.specs.Graphs.{IsGraph}
use Rattle.package_declarations.proofs.Numbering.{needs-graph}
use Rattle.package_declarations.proofs.cycle.first_circular.Goals as goal

pub first_on_cycle-requires : goal.first_on_cycle-requires
first_on_cycle-requires c = subst IsGraph (sym (c.as_slice.ensures.value ∙ c.in_ok-needs.ensures)) (needs-graph c.args.components.now)
