use Rattle.solver_index.proofs.Insides.{relaxed-let}
use Rattle.solver_index.proofs.sources.Sources.relaxed.Goals as goal

pub returns : goal.returns
returns c =
    let project = c.args.self.now.project.now in
    relaxed-let project c.args.owner.now c.args.dep.now c.relaxed.result c.requires.versions (c.relaxed.ensures project c.args.self.now.names.now c.requires.ready.stands)
