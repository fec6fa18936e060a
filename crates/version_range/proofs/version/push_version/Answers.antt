use Rattle.std.proofs.Common.{◌++◌, sym, ap, ◌∙◌, append_assoc}
use Rattle.std.specs.Fmt.{decimal}
use Rattle.std.proofs.lemmas.Result.{on_ok_weaker}
use Rattle.version_range.specs.Version.{version_text, led_by_points}
use Rattle.version_range.proofs.VersionNumbers.{text_led}
use Rattle.version_range.proofs.version.push_version.Goals as goal

pub returns-in_ok-push_number-in-Some : goal.returns-in_ok-push_number-in-Some
returns-in_ok-push_number-in-Some c =
    let first = c.in-Some.first.now in
    let more = c.in-Some.more.now in
    on_ok_weaker c.push_more.result
    (λ e. e
    ∙ ap (λ t. t ++ led_by_points more) c.in_ok-push_number-in-Some.ensures
    ∙ append_assoc c.args.text.now (decimal first) (led_by_points more)
    ∙ ap (λ t. c.args.text.now ++ t) (sym (text_led first more) ∙ ap version_text (sym c.in-Some.ensures.cases.0 ∙ c.as_slice.ensures)))
    c.push_more.ensures
