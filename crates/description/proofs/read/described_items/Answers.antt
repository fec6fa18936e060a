use Rattle.section_syntax.proofs.ChainedParts.{file-chained}
use Rattle.description.proofs.read.described_items.Goals as goal

pub described-requires : goal.described-requires
described-requires c = file-chained c.in_ok-spec.spec c.as_slice-2.result.now c.in_ok-file.file c.in_ok-file.ensures
