use Rattle.std.proofs.Common.{◌≤◌, ◌++◌, ◌∷◌, [], ap, ◌∙◌, sym, append_assoc, arith}
use Rattle.solver_index.specs.Places.{between}
use Rattle.solver_index.proofs.ListLaws.{between-more}
use Rattle.solver_index.proofs.place_runs.push_places.Goals as goal

pub loop-place-preserved : goal.loop-place-preserved
loop-place-preserved c =
    let old = c.args.places.now in
    let from = c.args.run.from in
    let i = c.loop-place.place in
    let low : from ≤ i = omega arith in (
      c.in_ok-push.ensures.ok ∙ ap (λ l. l ++ i ∷ []) c.loop-place.invariant.0 ∙ append_assoc old (between from i) (i ∷ []) ∙ ap (λ l. old ++ l) (sym (between-more from i low)),
      omega arith,
    )
