use Rattle.std.proofs.Common.{◌≡◌, take, drop, sym, ap, ◌∙◌}
use Rattle.std.specs.declared.result.Result.TheVariants.{Ok, Err}
use Rattle.std.proofs.lemmas.Result.{IfOk-weaker}
use Rattle.plan_types.proofs.OutcomeLemmas.{told-err}
use Rattle.older_fields.specs.Items.{leading}
use Rattle.older_rules.specs.Modern.{IsFile, file}
use Rattle.older_rules.proofs.modern.of_items.Goals as goal

pub returns-clause-modern : goal.returns-clause-modern
returns-clause-modern c =
    let items = c.args.items.now in
    let header = c.in_ok-header.header in
    let heads = c.split_at.ensures.front ∙ ap (λ n. take n items) c.leading.ensures.count in
    let rest = c.split_at.ensures.back ∙ ap (λ n. drop n items) c.leading.ensures.count in
    IfOk-weaker c.file.result (λ modern. file c.args.told header c.split_at.result.0.now c.split_at.result.1.now ≡ Ok modern) (λ modern. IsFile c.args.told items (Ok modern))
    (λ modern e. (
      Ok header,
      c.in_ok-header.ensures.header,
      sym e ∙ ap (λ h. file c.args.told header h c.split_at.result.1.now) heads ∙ ap (λ r. file c.args.told header (take (leading items) items) r) rest,
    ))
    c.file.ensures.modern

pub returns-clause-fault : goal.returns-clause-fault
returns-clause-fault c =
    let items = c.args.items.now in
    let header = c.in_ok-header.header in
    let heads = c.split_at.ensures.front ∙ ap (λ n. take n items) c.leading.ensures.count in
    let rest = c.split_at.ensures.back ∙ ap (λ n. drop n items) c.leading.ensures.count in
    told-err c.file.result (λ line cause. file c.args.told header c.split_at.result.0.now c.split_at.result.1.now ≡ Err (line, cause)) (λ line cause. IsFile c.args.told items (Err (line, cause)))
    (λ line cause e. (
      Ok header,
      c.in_ok-header.ensures.header,
      sym e ∙ ap (λ h. file c.args.told header h c.split_at.result.1.now) heads ∙ ap (λ r. file c.args.told header (take (leading items) items) r) rest,
    ))
    c.file.ensures.fault
