use Rattle.command_line.specs.Form.{parts_of}
use Rattle.command_line.proofs.Forms.{version_reads}
use Rattle.command_line.proofs.reading.version_of.Goals as goal

pub returns-in-Ok : goal.returns-in-Ok
returns-in-Ok c =
    let text = c.args.text.now in
    let reads = version_reads text c.requires in
    c.in-Ok.ensures.only (parts_of text) reads.0 reads.1

pub unreachable-requires : goal.unreachable-requires
unreachable-requires c =
    let text = c.args.text.now in
    let reads = version_reads text c.requires in
    let refused = rw c.in-Err-Bad.field-0-is at c.in-Err-Bad.ensures.refused in
    refused.1 (parts_of text) reads.0 reads.1
