use Rattle.version_range.proofs.OneRange.{answered}
use Rattle.version_range.proofs.read.read_range.Goals as goal

pub returns : goal.returns
returns c =
    let a = answered c.args.spec c.args.text.now c.whole.result c.whole.ensures in
    record { range = a.0; versions = a.1; fault = a.2; exactly_ranges = a.3; exactly_faults = a.4 }
