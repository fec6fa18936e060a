use Rattle.std.proofs.lemmas.Bool.Decides.{Decides-eqb}
use Rattle.std.proofs.lemmas.Slice.Eq.{strip_prefix_is}
use Rattle.project_paths.proofs.Pieces.{stripped}
use Rattle.project_paths.proofs.wildcard.behind_front.Goals as goal

pub returns : goal.returns
returns c = stripped c.args.piece.now c.args.text.now c.strip_prefix.result (strip_prefix_is Decides-eqb c.args.text.now c.args.piece.now c.strip_prefix.result c.strip_prefix.ensures.cases)
