-- the text is read as what it was made from
use Rattle.freeze_text.proofs.ReadBack.{read-back}
use Rattle.freeze_text.proofs.laws.text_reads_back.Goals as goal

pub returns : goal.returns
returns c constraints are = read-back constraints are
