use Rattle.index_files.proofs.Apart.{none-judged}
use Rattle.index_files.proofs.visit.read_name.Goals as goal

pub returns-then-contains-clause-judged : goal.returns-then-contains-clause-judged
returns-then-contains-clause-judged g c = none-judged _ _ _ c.new.ensures
