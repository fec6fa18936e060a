use Rattle.description.specs.Description.{Describes}
use Rattle.description.proofs.SingleOutcome.{is-only}
use Rattle.description.proofs.read.read_description.Goals as goal

pub returns-clause-only : goal.returns-clause-only
returns-clause-only c =
    let items = c.args.items.now in
    is-only (Describes items c.args.digest) (c.one_outcome.ensures items c.args.digest) c.described_items.result
    c.described_items.ensures.description c.described_items.ensures.fault
