use Rattle.std.proofs.Common.{◌≡◌, ◌∙◌, ap, subst}
use Rattle.std.specs.Result.{IfOk}
use Rattle.std.specs.Str.{chars}
use Rattle.older_layout.specs.OlderTree.{plain_text}
use Rattle.older_layout.proofs.OneOlderTree.{characters-utf8, characters-latin1}
use Rattle.older_layout.proofs.read.decoded.Goals as goal

pub returns-in-Ok-clause-value : goal.returns-in-Ok-clause-value
returns-in-Ok-clause-value c =
    let cases = c.in-Ok.ensures.cases in
    subst (λ v. IfOk c.from_utf8-in-Ok.result (λ text. text ≡ plain_text v)) (ap chars cases.0 ∙ characters-utf8 c.args.bytes.now cases.1) c.from_utf8-in-Ok.ensures.value

pub returns-in-Err-clause-value : goal.returns-in-Err-clause-value
returns-in-Err-clause-value c =
    subst (λ v. IfOk c.from_latin1.result (λ text. text ≡ plain_text v)) (characters-latin1 c.args.bytes.now c.in-Err.ensures.cases.0) c.from_latin1.ensures.value
