use Rattle.std.proofs.Common.{◌≤◌, ◌++◌, ◌∷◌, [], append_assoc, refl, sym, arith}
use Rattle.solver_index.proofs.Calm.{operator-bounds}
use Rattle.solver_index.proofs.Operators.{operator-is}
use Rattle.solver_index.proofs.range_bounds.operator_places.Goals as goal

pub first_without-first-requires-clause-falls : goal.first_without-first-requires-clause-falls
first_without-first-requires-clause-falls c = λ i j after up upto h.
    let block = c.requires.block in
    let is = operator-is c.args.range.now c.requires.versions c.requires.operator in
    is.front _ _ (block.numbers i after (omega (arith, up, upto))) (block.numbers j (omega (arith, after, up)) upto) (block.rise i j after up upto) h

pub first_without-last-requires-clause-falls : goal.first_without-last-requires-clause-falls
first_without-last-requires-clause-falls c = λ i j after up upto h.
    let block = c.requires.block in
    let first = c.first_without-first.ensures in
    let low : c.args.from ≤ i = omega (arith, first.low, after) in
    let is = operator-is c.args.range.now c.requires.versions c.requires.operator in
    is.down _ _ (block.numbers i low (omega (arith, up, upto))) (block.numbers j (omega (arith, low, up)) upto) (first.rest i after (omega (arith, up, upto))) (block.rise i j low up upto) h

pub returns : goal.returns
returns c bounds =
    let one = c.first_without-first.result in
    let two = c.first_without-last.result in
    let first = c.first_without-first.ensures in
    let last = c.first_without-last.ensures in
    operator-bounds c.args.range.now (operator-is c.args.range.now c.requires.versions c.requires.operator) c.args.entries.now c.args.from c.args.to
    one two c.requires.block first.low last.low last.high first.front first.rest last.front last.rest
    bounds (bounds ++ one ∷ []) (bounds ++ one ∷ two ∷ []) refl (sym (append_assoc bounds (one ∷ []) (two ∷ [])))
