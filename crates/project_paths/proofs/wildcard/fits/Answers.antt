use Rattle.std.proofs.Common.{ap, ◌∙◌}
use Rattle.project_paths.specs.Pieces.{match_pieces}
use Rattle.project_paths.proofs.Pieces.{fits-pieces}
use Rattle.project_paths.proofs.wildcard.fits.Goals as goal

pub returns : goal.returns
returns c pattern is = c.match_pieces.ensures ∙ ap (λ pieces. match_pieces pieces c.args.name.now) is ∙ fits-pieces pattern c.args.name.now
