-- How options guide a search.
use Rattle.std.specs.Prelude.{if◌then◌else◌}
use Rattle.command_line.specs.declared.reading.Options.{Options}
use Rattle.plan_search.specs.declared.search.Picking.{Picking}
use Rattle.plan_search.specs.declared.search.Picking.TheVariants.{Least, MostMet}

-- how the search picks its variables
abbrev pub picking_of : Options → Picking
picking_of options = if options.count_conflicts then MostMet else Least
