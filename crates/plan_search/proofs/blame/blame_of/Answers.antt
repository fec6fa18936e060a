use Rattle.std.proofs.Common.{sym, ◌∙◌}
use Rattle.plan_search.proofs.Right.{is-guide}
use Rattle.plan_search.specs.Finding.{guide_of}
use Rattle.plan_search.proofs.blame.blame_of.Goals as goal

pub part_of-requires : goal.part_of-requires
part_of-requires g c =
    let found = c.requires in
    c.failed_sets_can_be_shrunk.ensures (g.C.Choices.problem c.args.problem.now) (guide_of found.0) c.args.limit _ _ (g.met.C.Choices.lawful c.args.problem.now) (is-guide found.0)
    (sym found.1 ∙ c.in-NoPlan.is)
