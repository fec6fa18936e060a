-- the ledger has the name and parts of the blank
use Rattle.plan_calls.proofs.searches.searched.Given as goal

abbrev pub ghosts-counted : goal.ghosts-counted
ghosts-counted g a = record { name = a.blank.name; parts = a.blank.parts }
