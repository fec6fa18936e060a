use Rattle.std.proofs.Common.{ap, sym, ◌∙◌, take, drop}
use Rattle.condition_text.specs.Forms.{part_of}
use Rattle.condition_text.proofs.ConditionNames.{split_prefix}
use Rattle.condition_text.proofs.name.split.Goals as goal

pub returns : goal.returns
returns c =
    let text = c.args.text.now in
    let count = c.run_len.ensures.count in
    rw (c.split_at.ensures.front, c.split_at.ensures.back) (ap (λ n. (take n text, drop n text)) count ∙ sym (split_prefix (part_of c.args.form) text))
