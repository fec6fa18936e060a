use Rattle.std.proofs.lemmas.Result.{on_ok_weaker}
use Rattle.unit_record.proofs.Steps.{field_goes, section_goes}
use Rattle.unit_record.proofs.read.take_element.Goals as goal

pub returns-in_ok-said-in-Field : goal.returns-in_ok-said-in-Field
returns-in_ok-said-in-Field c =
    on_ok_weaker c.take.result
    (field_goes c.in-Field.line c.in-Field.name c.in-Field.values c.in_ok-said-in-Field.said c.args.all.now c.take.new.self c.in-Field.is c.in_ok-said-in-Field.ensures)
    c.take.ensures

pub returns-in-Section : goal.returns-in-Section
returns-in-Section c = section_goes c.in-Section.line c.in-Section.name c.in-Section.args c.in-Section.items c.args.all.now c.in-Section.is
