use Rattle.std.proofs.Common.{sym, ◌∙◌}
use Rattle.outside_folder.proofs.Places.{placed_at}
use Rattle.outside_folder.proofs.mem_folder.find.Goals as goal

pub bounds-files-place : goal.bounds-files-place
bounds-files-place c = (placed_at c.args.files.now c.args.places.now c.args.path.now c.in_ok-place.place c.requires (sym c.place_at.ensures ∙ c.in_ok-place.was)).0
