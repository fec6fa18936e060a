-- what no file says is what no part says
use Rattle.freeze_text.proofs.Empty.{no-file}
use Rattle.freeze_text.proofs.project.nothing.Goals as goal

pub returns : goal.returns
returns c = no-file c.empty_project.result c.empty_project.ensures
