use Rattle.elaborate.proofs.NeedsBefore.{told_before}
use Rattle.elaborate.proofs.laws.each_need_printed_before.Goals as goal

pub returns : goal.returns
returns c = λ selection lines plan. told_before selection lines plan
