-- the union of the variable and its reason
use Rattle.std.proofs.Common.{ap, ◌∙◌}
use Rattle.choice_problem.specs.ConflictSet.{union}
use Rattle.backjump.proofs.Sets.{blamed-is}
use Rattle.backjump.proofs.walk.blamed.Goals as goal

pub returns : goal.returns
returns c vars h =
    c.in_ok-set.ensures ∙ ap (union c.args.failed.now) (c.in_ok-open.ensures ∙ ap (λ set. union set c.args.reason.now) c.in_ok-alone.ensures)
    ∙ blamed-is c.args.failed.now c.args.var c.args.reason.now vars h
