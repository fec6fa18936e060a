use Rattle.constraint_set.proofs.Stands.{named-is}
use Rattle.constraint_set.proofs.constraints.Constraints.names_flag.Goals as goal

pub returns : goal.returns
returns c = λ project names stands. named-is c.args.self.now project names stands c.args.v c.args.on c.is_named.result c.is_named.ensures
