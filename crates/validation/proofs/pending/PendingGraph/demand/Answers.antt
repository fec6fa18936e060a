use Rattle.std.proofs.Common.{◌-◌, ◌∙◌, sym, ap, length, arith}
use Rattle.std.specs.List.{slice_get}
use Rattle.validation.specs.View.{View}
use Rattle.validation.proofs.Weighed.{pending-length, pending-first, pending-second, pending-third}
use Rattle.validation.proofs.pending.PendingGraph.demand.Goals as goal

pub demand-requires : goal.demand-requires
demand-requires c = omega (arith, c.if-place-before.true, c.count-before.ensures)

pub returns-then-place-before : goal.returns-then-place-before
returns-then-place-before c =
    ap (λ (x : View). slice_get x.active c.args.place) (sym c.self.view_is) ∙ pending-first _ _ _ _ _ c.self.invariant c.args.place _ c.demand.ensures

pub at-requires : goal.at-requires
at-requires c = omega (arith, c.if-index-count.true, c.len-count.ensures)

pub returns-then-index-count : goal.returns-then-index-count
returns-then-index-count c =
    let i = c.self.inside in
    ap (λ (x : View). slice_get x.active c.args.place) (sym c.self.view_is)
    ∙ pending-second i.stack.now i.addition.now i.woken i.fresh i.count c.self.invariant c.args.place (c.args.place - c.count-before.result) c.at.result.now
    (omega (arith, c.if-place-before.false, c.count-before.ensures)) c.at.ensures

pub at-requires-2 : goal.at-requires-2
at-requires-2 c =
    let i = c.self.inside in
    omega (
      arith,
      c.requires,
      ap (λ (x : View). length x.active) c.self.view_is,
      pending-length i.stack.now i.addition.now i.woken i.fresh i.count c.self.invariant,
      c.if-place-before.false,
      c.if-index-count.false,
      c.count-before.ensures,
      c.len-count.ensures,
    )

pub returns : goal.returns
returns c =
    let i = c.self.inside in
    ap (λ (x : View). slice_get x.active c.args.place) (sym c.self.view_is)
    ∙ pending-third i.stack.now i.addition.now i.woken i.fresh i.count c.self.invariant c.args.place (c.args.place - c.count-before.result - c.len-count.result) c.at-2.result.now
    (omega (arith, c.if-place-before.false, c.if-index-count.false, c.count-before.ensures, c.len-count.ensures)) c.at-2.ensures
