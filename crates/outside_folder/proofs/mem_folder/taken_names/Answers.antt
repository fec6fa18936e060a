use Rattle.std.proofs.Common.{None}
use Rattle.std.proofs.lemmas.Map.Text.{btree_map_updates_text}
use Rattle.outside_folder.proofs.Listings.{taken_out}
use Rattle.outside_folder.proofs.mem_folder.taken_names.Goals as goal

pub returns-in-Some-clause-others : goal.returns-in-Some-clause-others
returns-in-Some-clause-others c =
    taken_out c.args.dirs.now c.remove.new.self c.args.dir.now (btree_map_updates_text c.args.dir.now c.args.dirs.now c.remove.new.self None c.remove.ensures.updates)
