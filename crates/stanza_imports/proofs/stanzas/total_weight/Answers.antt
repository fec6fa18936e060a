use Rattle.std.proofs.Common.{ℕ, List, ap, ◌∙◌, sym, take, arith}
use Rattle.std.specs.Prelude.{sum_by}
use Rattle.std.proofs.lemmas.List.{take_all}
use Rattle.stanza_imports.specs.declared.stanzas.Built.{Built}
use Rattle.stanza_imports.proofs.Weights.{sum-shown, weight-push}
use Rattle.common_laws.specs.Lists.{take_at}
use Rattle.common_laws.specs.Small.{capped}
use Rattle.stanza_imports.specs.Bodies.{table, Shown, built_component}
use Rattle.stanza_imports.proofs.stanzas.total_weight.Goals as goal

pub loop-one-preserved : goal.loop-one-preserved
loop-one-preserved c =
    let items = c.as_slice-one-items.result.now in
    let i = c.loop-one.one-index in
    let of : Built → ℕ = λ b. b.body.summary.weight in
    weight-push of (take i items) c.one-item.result c.loop-one.weight _ c.loop-one.invariant c.saturating_add-weight.ensures
    ∙ ap (λ (v : List Built). capped (sum_by of v)) (sym (take_at items i c.one-item.result (omega arith) c.one-item.is))

pub returns : goal.returns
returns c sections stand =
    let of : Built → ℕ = λ b. b.body.summary.weight in
    let told : Shown → ℕ = λ s. s.told.weight in
    c.loop-one.invariant
    ∙ ap (λ (v : List Built). capped (sum_by of v)) (take_all c.loop-one.one-index c.as_slice-one-items.result.now (omega arith) ∙ c.as_slice-one-items.ensures.value)
    ∙ ap capped (sum-shown told (built_component (table c.args.bodies.now.stanzas.bodies.items)) c.args.bodies.now.built.items)
    ∙ ap (λ (v : List Shown). capped (sum_by told v)) stand.shown
