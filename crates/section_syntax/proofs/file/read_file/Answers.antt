use Rattle.std.proofs.Common.{refl, sym}
use Rattle.section_syntax.proofs.Files.{file_goes, file_ends}
use Rattle.section_syntax.proofs.file.read_file.Goals as goal

pub loop-item-preserved : goal.loop-item-preserved
loop-item-preserved c =
    file_goes c.args.spec c.args.items.now c.loop-item.item-index c.item-item.result _ _ _ _ c.loop-item-test.true (sym c.item-item.is)
    c.loop-item.invariant c.in_ok-read_top.ensures

pub returns : goal.returns
returns c = (refl, file_ends c.args.spec c.args.items.now c.loop-item.item-index _ _ c.loop-item-test.false c.loop-item.invariant)
