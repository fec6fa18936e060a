use Rattle.outside_folder.specs.Calls.{content_at}
use Rattle.event_file.proofs.One.{one-in}
use Rattle.event_file.proofs.laws.one_event_list.Goals as goal

pub returns : goal.returns
returns c = λ path files a b. one-in c.one_reading.ensures path (content_at files path) a b
