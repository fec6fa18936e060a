use Rattle.std.proofs.Common.{◌≡◌, ℕ, ◌+◌, ◌-◌, ◌/◌, ◌<◌, length, ap, ◌∙◌, sym, inl, inr, arith}
use Rattle.std.proofs.lemmas.Bool.{cases_lt}
use Rattle.std.proofs.lemmas.List.{get_or_read}
use Rattle.solver_index.specs.Blocks.{passes}
use Rattle.solver_index.specs.Places.{entry_at, no_entry}
use Rattle.solver_index.proofs.ListLaws.{false-back}
use Rattle.solver_index.proofs.blocks.first_without.Goals as goal
use Rattle.solver_index.proofs.blocks.first_without.Goals.{After-passes}

-- the test of the entry in the middle
module _ (c : After-passes) where
  abbrev middle : ℕ
  middle = c.loop-low.low + (c.loop-low.high - c.loop-low.low) / 2

  within : middle < c.loop-low.high
  within = let less : c.loop-low.low < c.loop-low.high = c.loop-low-test.true in omega (arith, less)

  tested : passes c.args.test c.args.range.now (entry_at c.args.entries.now middle) ≡ c.passes.result
  tested =
      let known : middle < length c.args.entries.now = omega (arith, within, c.loop-low.invariant.to, c.requires.high) in
      let here = get_or_read c.args.entries.now middle c.index-entries-middle.result known c.index-entries-middle.is no_entry in
      ap (passes c.args.test c.args.range.now) (sym here) ∙ sym c.passes.ensures

pub loop-low-preserved-then-passes : goal.loop-low-preserved-then-passes
loop-low-preserved-then-passes c =
    let p = (goal.at.loop-low-preserved-then-passes c).After-passes in
    let inv = c.loop-low.invariant in
    record {
      from = omega (arith, inv.from);
      middle = omega (arith, within p);
      to = inv.to;
      front = λ k after upto. elim (cases_lt k c.loop-low.low) [
        | inl earlier ↦ inv.front k after earlier
        | inr later ↦ c.requires.falls k (middle p) after (omega (arith, upto)) (omega (arith, within p, inv.to)) (tested p ∙ c.if-passes.true)
      ];
      rest = inv.rest;
    }

pub loop-low-preserved : goal.loop-low-preserved
loop-low-preserved c =
    let p = (goal.at.loop-low-preserved c).After-passes in
    let inv = c.loop-low.invariant in
    let test = passes c.args.test c.args.range.now in
    let entries = c.args.entries.now in
    record {
      from = inv.from;
      middle = omega arith;
      to = omega (arith, within p, inv.to);
      front = inv.front;
      rest = λ k after upto. false-back (test (entry_at entries k)) (test (entry_at entries (middle p))) (c.requires.falls (middle p) k (omega (arith, inv.from)) after upto)
          (tested p ∙ c.if-passes.false);
    }
