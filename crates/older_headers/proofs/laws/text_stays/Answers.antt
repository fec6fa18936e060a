use Rattle.older_headers.proofs.TextStays as proof
use Rattle.older_headers.proofs.laws.text_stays.Goals as goal

pub returns : goal.returns
returns c = proof.text_stays c.header_first.ensures
