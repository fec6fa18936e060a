use Rattle.std.proofs.Common.{sym, ◌∙◌}
use Rattle.project_paths.proofs.Seen.{leads-matched}
use Rattle.project_paths.proofs.matched_paths.below.Goals as goal

pub returns-in-Some-clause-observed : goal.returns-in-Some-clause-observed
returns-in-Some-clause-observed g c = leads-matched (g.F.Folder.tells c.args.folder.now) c.args.pattern.now c.args.matched c.in-Some.dir (sym c.into_dir.ensures ∙ c.in-Some.is) c.below_dir.result c.below_dir.ensures.observed
