use Rattle.std.proofs.Common.{◌≡◌, ◌+◌, ℕ, true, false, sym, subst, ◌∙◌, arith}
use Rattle.replay_text.specs.Replay.{IsCount, HasEndState, none}
use Rattle.replay_text.proofs.Count.{one_more, no_more}
use Rattle.replay_text.proofs.standing.count_of.Goals as goal
use Rattle.replay_text.proofs.standing.count_of.Goals.{then-stands, else-stands}

pub loop-place-init : goal.loop-place-init
loop-place-init c = record { few = omega arith; counted = λ plan slots events a. none }

pub loop-place-preserved : goal.loop-place-preserved
loop-place-preserved c =
    let inv = c.loop-place.invariant in
    let few = inv.few in
    let place = c.loop-place.place in
    let count = c.loop-place.count in
    elim c.if-stands.branch [
      | then-stands w ↦ record {
        few = let e = w.count-is in omega (arith, e, few);
        counted = λ plan slots events a.
            let P = λ (p : ℕ). HasEndState plan events p c.args.standing in
            subst (λ k. IsCount P (place + 1) k) (sym w.count-is) (one_more P place count ((c.stands.ensures plan slots events a).0 w.if-stands.true) (inv.counted plan slots events a));
      }
      | else-stands w ↦ record {
        few = let e = w.count-is in omega (arith, e, few);
        counted = λ plan slots events a.
            let P = λ (p : ℕ). HasEndState plan events p c.args.standing in
            subst (λ k. IsCount P (place + 1) k) (sym w.count-is)
            (no_more P place count (λ s. let wrong : false ≡ true = sym w.if-stands.false ∙ (c.stands.ensures plan slots events a).1 s in cc) (inv.counted plan slots events a));
      }
    ]

pub returns : goal.returns
returns c plan slots events a =
    let past = c.loop-place-test.false in
    let most = c.loop-place.auto.place-end in
    let e : c.loop-place.place ≡ c.args.nodes = omega (arith, past, most) in
    subst (λ n. IsCount (λ (p : ℕ). HasEndState plan events p c.args.standing) n c.loop-place.count) e (c.loop-place.invariant.counted plan slots events a)
