use Rattle.std.proofs.Common.{◌≡◌, take, sym, subst, ap, ◌∙◌}
use Rattle.std.specs.Prelude.{codes}
use Rattle.std.specs.declared.result.Result.TheVariants.{Err}
use Rattle.plan_types.proofs.OutcomeLemmas.{told-err}
use Rattle.older_fields.specs.Headers.{IsHeader, IsHeaderIn, IsStatedBy, judged}
use Rattle.older_fields.specs.Items.{last_named, line_of}
use Rattle.older_fields.proofs.header.header_of.Goals as goal

pub returns-clause-fault : goal.returns-clause-fault
returns-clause-fault c =
    let items = c.args.items.now in
    let item = c.in-Some.item.now in
    let edition = c.in_ok-edition.edition in
    let found = c.in-Some.ensures ∙ ap (last_named (codes "cabal-version")) (c.split_at.ensures.front ∙ ap (λ n. take n items) c.leading.ensures.count) in
    told-err c.judged.result (λ line cause. judged c.line_of.result c.is_first.result edition ≡ Err (line, cause)) (λ line cause. IsHeader items (Err (line, cause)))
    (λ line cause e. subst (λ o. IsHeaderIn items o (Err (line, cause))) found (
      edition,
      subst (λ t. IsStatedBy t edition) (c.as_bytes.ensures ∙ c.in_ok-text.ensures) c.in_ok-edition.ensures,
      sym e ∙ ap (λ l. judged l c.is_first.result edition) c.line_of.ensures ∙ ap (λ f. judged (line_of item) f edition) c.is_first.ensures,
    ))
    c.judged.ensures.fault
