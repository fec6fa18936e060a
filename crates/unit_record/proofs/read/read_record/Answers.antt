use Rattle.std.proofs.Common.{subst}
use Rattle.unit_record.specs.Fields.{top_fields}
use Rattle.unit_record.proofs.Sound.{answer_record, answer_fault, answer_name, answer_version}
use Rattle.unit_record.proofs.Steps.{Tell}
use Rattle.unit_record.proofs.read.read_record.Goals as goal

pub returns : goal.returns
returns c =
    let bytes = c.args.bytes.now in
    let items = c.in_ok-items.items in
    let all = c.in_ok-contents.contents in
    let tell = subst (λ i. Tell (top_fields i) all) c.as_slice.ensures c.in_ok-contents.ensures in
    record {
      «record» = answer_record bytes items all c.in_ok-items.ensures.tree tell c.outcome.result c.outcome.ensures;
      fault = answer_fault bytes items all c.in_ok-items.ensures.tree tell c.outcome.result c.outcome.ensures;
      name = answer_name bytes items all c.in_ok-items.ensures.tree tell c.outcome.result c.outcome.ensures;
      version = answer_version bytes items all c.in_ok-items.ensures.tree tell c.outcome.result c.outcome.ensures;
    }
