use Rattle.std.proofs.Common.{◌≡◌, ℕ, List, ◌<◌, ◌-◌, ◌∷◌, [], ◌++◌, ◌∙◌, arith, length, take, drop, length-drop, drop-drop, subst, sym}
use Rattle.std.proofs.Math.Seq.{take-add}
use Rattle.std.proofs.lemmas.Grind.{common_steps}
use Rattle.outside_folder.specs.Sink.{IsCut, Offers}
use Rattle.outside_folder.proofs.Appending.{Appends-then}
use Rattle.outside_folder.proofs.Offering.{Offers-more, on-err}
use Rattle.outside_folder.proofs.sink.write_all.Goals as goal

pub loop-written-preserved : goal.loop-written-preserved
loop-written-preserved g c =
    let text = c.args.text.now in
    let at = c.loop-written.written in
    let n = c.in_ok-written.field-0 in
    let wrote = c.in_ok-written.ensures in
    let rest : take (length text - at) (drop at text) ≡ drop at text = grind (arith, common_steps) in
    let counted = rw rest at wrote.count in
    let went = rw rest at wrote.ok in
    let took = rw rest at wrote.observed in
    let some : 0 < length (drop at text) = omega (arith, length-drop at text, c.loop-written-test.true) in
    let so_far = c.loop-written.invariant.offered in
    record {
      offered = (
        so_far.0 ++ n ∷ [],
        subst (λ left. Offers g.S.Sink.takes c.args.sink.now text (so_far.0 ++ n ∷ []) c.write.new.self left) (drop-drop n at text)
            (Offers-more g.S.Sink.takes c.args.sink.now text so_far.0 c.loop-written.sink (drop at text) n c.write.new.self so_far.1 some took),
      );
      within = omega (arith, counted.0, length-drop at text, c.loop-written.invariant.within);
      front = rw (take-add at n text) (Appends-then _ _ _ _ _ c.loop-written.invariant.front went);
      still = wrote.still ∙ c.loop-written.invariant.still;
    }

pub returns-clause-whole : goal.returns-clause-whole
returns-clause-whole g c =
    let text = c.args.text.now in
    let at = c.loop-written.written in
    let ended = c.loop-written-test.false in
    let none : drop at text ≡ [] = grind (arith, common_steps) in
    subst (λ left. (counts : List ℕ) × Offers g.S.Sink.takes c.args.sink.now text counts c.loop-written.sink left) none c.loop-written.invariant.offered

pub returns-in_err-written-clause-cut : goal.returns-in_err-written-clause-cut
returns-in_err-written-clause-cut g c =
    let text = c.args.text.now in
    let at = c.loop-written.written in
    let rest : take (length text - at) (drop at text) ≡ drop at text = grind (arith, common_steps) in
    let took = rw rest at c.in_err-written.ensures.observed in
    let some : 0 < length (drop at text) = omega (arith, length-drop at text, c.loop-written-test.true) in
    let so_far = c.loop-written.invariant.offered in
    on-err c.from_residual.result (IsCut g.S.Sink.takes c.args.sink.now text c.write.new.self)
    (so_far.0, c.loop-written.sink, drop at text, c.in_err-written.field-0.0, so_far.1, some, took)
