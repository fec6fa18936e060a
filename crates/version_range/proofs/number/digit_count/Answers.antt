use Rattle.std.proofs.Common.{sym, ap, ◌∙◌, take, get_or}
use Rattle.std.specs.Str.{all_ascii_digits}
use Rattle.std.proofs.lemmas.List.{take_more}
use Rattle.version_range.proofs.VersionNumbers.{all_push}
use Rattle.version_range.proofs.number.digit_count.Goals as goal

pub loop-i-preserved : goal.loop-i-preserved
loop-i-preserved c =
    let text = c.args.text.now in
    let i = c.loop-i.i in
    ap all_ascii_digits (take_more text i 0 c.loop-i-test.true)
    ∙ all_push (take i text) (get_or text i 0) c.loop-i.invariant (sym c.is_ascii_digit.ensures.value ∙ c.if-not-is_ascii_digit.false)
