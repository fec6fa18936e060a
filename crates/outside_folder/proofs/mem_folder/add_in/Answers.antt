use Rattle.std.proofs.lemmas.Result.{on_ok_weaker}
use Rattle.outside_folder.proofs.Listings.{added_in, same_with}
use Rattle.outside_folder.proofs.mem_folder.add_in.Goals as goal

pub returns : goal.returns
returns c =
    let taken = c.taken_names-names in
    on_ok_weaker c.put_names.result
    (added_in c.args.dirs.now taken.new.dirs c.put_names.new.dirs c.args.dir.now c.args.path.now c.add_name.new.names.entries
    (same_with c.in_ok-add_name.ensures taken.ensures.names c.name_in.ensures) taken.ensures.others)
    c.put_names.ensures
