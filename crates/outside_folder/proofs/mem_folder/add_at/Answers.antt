use Rattle.std.proofs.Common.{subst}
use Rattle.std.proofs.lemmas.Result.{on_ok_weaker}
use Rattle.outside_folder.proofs.Listings.{AddsIn, adds_front}
use Rattle.outside_folder.proofs.mem_folder.add_at.Goals as goal

pub returns : goal.returns
returns c =
    let old = c.args.dirs.now in
    let new = c.add_in.new.dirs in
    let path = c.args.path.now in
    on_ok_weaker c.add_in.result
    (λ h. adds_front old new path c.args.end c.requires.begun c.requires.within (subst (λ dir. AddsIn old new dir path) c.split_at.ensures.front h)) c.add_in.ensures
