use Rattle.index_files.proofs.Apart.{or-none}
use Rattle.index_files.proofs.visit.names_below.Goals as goal

pub returns-clause-order : goal.returns-clause-order
returns-clause-order g c = or-none c.in_ok-names.names _ c.unwrap_or.result c.unwrap_or.ensures c.new.ensures c.in_ok-names.ensures.order
