use Rattle.std.proofs.Common.{◌+◌, sym, subst}
use Rattle.broken_units.proofs.Marked.{Places, places_yes, places_no}
use Rattle.broken_units.proofs.marks.places.Goals as goal
use Rattle.broken_units.proofs.marks.places.Goals.{then-marked-place+in_ok-push, else-marked-place}

pub loop-place-preserved : goal.loop-place-preserved
loop-place-preserved c =
    let marked = c.args.marked.now in
    let n = c.loop-place.place in
    let found = c.loop-place.found in
    elim c.if-marked-place.branch [
      | then-marked-place+in_ok-push w ↦
          subst (λ f. Places marked f (n + 1)) (sym w.found-is) (places_yes marked found w.push.new.self n w.if-marked-place.true w.in_ok-push.ensures.ok c.loop-place.invariant)
      | else-marked-place w ↦ subst (λ f. Places marked f (n + 1)) (sym w.found-is) (places_no marked found n w.if-marked-place.false c.loop-place.invariant)
    ]
