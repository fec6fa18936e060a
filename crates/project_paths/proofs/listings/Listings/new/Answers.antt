use Rattle.project_paths.proofs.Kept.{none-listed}
use Rattle.project_paths.proofs.listings.Listings.new.Goals as goal

pub returns : goal.returns
returns c = none-listed (record { by_dir = c.new.result }) c.new.ensures.empty
