use Rattle.outside_folder.proofs.Prefixes.{after-strip_prefix}
use Rattle.outside_folder.proofs.mem_folder.after.Goals as goal

pub returns : goal.returns
returns c = after-strip_prefix c.args.front.now c.args.path.now _ c.strip_prefix.ensures.cases
