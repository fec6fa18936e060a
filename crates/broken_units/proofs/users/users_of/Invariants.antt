use Rattle.broken_units.proofs.Table.{Users}
use Rattle.broken_units.proofs.users.users_of.Given as goal

abbrev pub invariant-loop-user : goal.invariant-loop-user
invariant-loop-user l = Users l.needs l.users.items l.user
