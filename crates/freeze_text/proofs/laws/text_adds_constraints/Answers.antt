use Rattle.freeze_text.proofs.NextProject.{adds-alone, adds-behind}
use Rattle.freeze_text.proofs.laws.text_adds_constraints.Goals as goal

pub returns-clause-alone : goal.returns-clause-alone
returns-clause-alone c env front behind path constraints project are said = adds-alone env front behind path constraints project are said

pub returns-clause-behind : goal.returns-clause-behind
returns-clause-behind c env front behind path before constraints project are plainly said = adds-behind env front behind path before constraints project are plainly said
