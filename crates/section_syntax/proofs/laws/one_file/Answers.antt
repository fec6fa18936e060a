use Rattle.section_syntax.proofs.OneFile as proof
use Rattle.section_syntax.proofs.laws.one_file.Goals as goal

pub returns : goal.returns
returns c = proof.one_file
