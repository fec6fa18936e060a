use Rattle.description.proofs.SingleOutcome.{is-only}
use Rattle.cabal_file.specs.Source.{IsSource}
use Rattle.cabal_file.proofs.source.read_source.Goals as goal

pub returns-clause-only : goal.returns-clause-only
returns-clause-only c =
    let env = c.args.env.now in
    let bytes = c.args.bytes.now in
    is-only (IsSource env bytes) (c.one_source.ensures env bytes) c.source_of_bytes.result c.source_of_bytes.ensures.source c.source_of_bytes.ensures.fault
