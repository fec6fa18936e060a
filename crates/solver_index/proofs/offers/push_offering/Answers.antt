use Rattle.std.proofs.Common.{◌≡◌, ◌≤◌, ◌+◌, ◌-◌, ◌++◌, ◌∷◌, [], ap, ◌∙◌, sym, append_assoc, arith}
use Rattle.std.specs.List.{filter, range_with_len}
use Rattle.std.proofs.lemmas.List.{append-nil}
use Rattle.solver_index.specs.Allowed.{has_at}
use Rattle.solver_index.specs.Places.{between}
use Rattle.solver_index.proofs.ListLaws.{between-more, between-none, dropped-more, kept-more}
use Rattle.solver_index.proofs.offers.push_offering.Goals as goal
use Rattle.solver_index.proofs.offers.push_offering.Goals.{then-not-offers_at+in_ok-push_run, else-not-offers_at}
use Rattle.std.proofs.lemmas.Result.{on_ok_weaker}

pub loop-place-preserved : goal.loop-place-preserved
loop-place-preserved c =
    let test = has_at c.args.kind c.args.dep.now c.args.entries.now in
    let old = c.args.allowed.now in
    let from = c.args.run.from in
    let i = c.loop-place.place in
    let first = c.loop-place.first in
    let low : from ≤ i = omega arith in
    elim c.if-not-offers_at.branch [
      | then-not-offers_at+in_ok-push_run w ↦ (
        (λ j. w.allowed-is j ++ between (w.first-is j) (i + 1)) ∙ ap (λ l. w.push_run.new.self ++ l) (between-none (i + 1) (i + 1) (omega arith)) ∙ append-nil w.push_run.new.self ∙ w.in_ok-push_run.ensures ∙ c.loop-place.invariant.0
            ∙ dropped-more test old from i low (sym c.offers_at.ensures ∙ w.if-not-offers_at.true),
        omega (arith, w.first-is),
        omega (arith, w.first-is),
        omega arith,
      )
      | else-not-offers_at w ↦ (
        (λ j. w.allowed-is j ++ between (w.first-is j) (i + 1)) ∙ ap (λ l. c.loop-place.allowed ++ l) (between-more first i (omega arith))
            ∙ sym (append_assoc c.loop-place.allowed (between first i) (i ∷ [])) ∙ ap (λ l. l ++ i ∷ []) c.loop-place.invariant.0
            ∙ kept-more test old from i low (sym c.offers_at.ensures ∙ w.if-not-offers_at.false),
        omega (arith, w.first-is),
        omega (arith, w.first-is),
        omega arith,
      )
    ]

pub returns : goal.returns
returns c =
    let test = has_at c.args.kind c.args.dep.now c.args.entries.now in
    let from = c.args.run.from in
    let to = c.args.run.to in
    let i = c.loop-place.place in
    let first = c.loop-place.first in
    let rest : to - first ≡ i - first = omega (arith, c.loop-place.invariant, c.loop-place-test.false, c.loop-place.auto.place) in
    let whole : i - from ≡ to - from = omega (arith, c.loop-place.invariant, c.loop-place-test.false, c.loop-place.auto.place) in
    on_ok_weaker c.push_run-2.result (λ is.
    is ∙ ap (λ n. c.loop-place.allowed ++ range_with_len first n) rest ∙ c.loop-place.invariant.0 ∙ ap (λ n. c.args.allowed.now ++ filter test (range_with_len from n)) whole) c.push_run-2.ensures
