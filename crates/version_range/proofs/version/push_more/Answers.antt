use Rattle.std.proofs.Common.{◌++◌, get_or, ap, ◌∙◌}
use Rattle.std.specs.Fmt.{decimal}
use Rattle.version_range.proofs.VersionNumbers.{led_step}
use Rattle.version_range.proofs.version.push_more.Goals as goal

pub loop-part-preserved : goal.loop-part-preserved
loop-part-preserved c =
    c.in_ok-push_number.ensures
    ∙ ap (λ t. t ++ decimal (get_or c.args.more.now c.loop-part.part-index 0)) c.in_ok-push_str.ensures.ok
    ∙ led_step c.args.text.now c.loop-part.text c.args.more.now c.loop-part.part-index c.loop-part-test.true c.loop-part.invariant
