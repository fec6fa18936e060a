use Rattle.std.proofs.Common.{sym, ◌∙◌, arith}
use Rattle.replay_text.proofs.Numbers.{none_whole, not_empty, same_number}
use Rattle.replay_text.proofs.read.place_of.Goals as goal
use Rattle.replay_text.proofs.read.place_of.Goals.{then-number-eq0-via-then-number-eq0, then-number-eq0-via-else-number-eq0+then-not-is_empty}

pub returns-in_err-number : goal.returns-in_err-number
returns-in_err-number c = rw c.from_residual.ensures (none_whole c.args.text.now c.in_err-number.ensures.none)

pub returns-then-number-eq0 : goal.returns-then-number-eq0
returns-then-number-eq0 c place i e =
    let f = c.in_ok-number.ensures.found in
    let s = same_number c.args.text.now c.in_ok-number.rest.now c.in_ok-number.number place f.0 f.1 f.2 i e in
    elim c.then-number-eq0.branch [
      | then-number-eq0-via-then-number-eq0 w ↦ let z = w.if-number-eq0.true in let k = s.1 in omega (arith, z, k)
      | then-number-eq0-via-else-number-eq0+then-not-is_empty w ↦ not_empty c.in_ok-number.rest.now s.0 (sym w.is_empty.ensures ∙ w.if-not-is_empty.true)
    ]
