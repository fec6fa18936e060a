use Rattle.project_paths.proofs.Pieces.{ends-so}
use Rattle.project_paths.proofs.wildcard.ends_so.Goals as goal

pub returns : goal.returns
returns c = ends-so c.args.piece.now c.args.text.now c.ends_with.result c.ends_with.ensures.value
