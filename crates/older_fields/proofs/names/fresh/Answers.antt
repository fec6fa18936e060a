use Rattle.std.proofs.Common.{◌≡◌, ap, ◌∙◌}
use Rattle.std.proofs.lemmas.Result.{IfOk-weaker}
use Rattle.older_fields.specs.Names.{candidates, first_free, fresh, plain_name}
use Rattle.older_fields.proofs.names.fresh.Goals as goal

pub returns : goal.returns
returns c =
    let taken = c.args.taken.now.keys in
    IfOk-weaker c.first_free.result (λ found. found ≡ first_free taken (candidates 16 c.in_ok-plain.plain)) (λ found. found ≡ fresh taken c.args.name.now)
    (λ found e. e ∙ ap (λ name. first_free taken (candidates 16 name)) (c.in_ok-plain.ensures ∙ ap plain_name c.as_bytes.ensures)) c.first_free.ensures
