-- the set stays at the last node, or leaves it
use Rattle.std.proofs.Common.{◌≡◌, ◌+◌, arith, sym, ap, ◌∙◌}
use Rattle.std.proofs.lemmas.Result.{IfOk-weaker}
use Rattle.choice_problem.specs.ConflictSet.{has}
use Rattle.backjump.specs.declared.walk.Turn.TheVariants.{Try}
use Rattle.backjump.specs.Walk.{nodes_of, load, Falls}
use Rattle.backjump.proofs.Moves.{back-kept, back-cut, lighter-more}
use Rattle.backjump.proofs.walk.Walk.fall.Goals as goal

pub returns-then-has : goal.returns-then-has
returns-then-has g c s visited at =
    let top : c.top.result ≡ at.point.node.var = c.top.ensures (nodes_of at.outer) at.point.node at.held.nodes in
    back-kept g.G.Guide.recalls s c.args.self.now visited c.args.set c.add_failed.new.failed at
    (ap (has c.args.set) (sym top) ∙ sym c.has.ensures ∙ c.if-has.true) c.in_ok-add_failed.ensures

pub returns : goal.returns
returns g c =
    IfOk-weaker c.cut.result _ (Falls g.G.Guide.recalls c.args.set c.args.self.now c.cut.new.self)
    (λ step h s visited at.
    let top : c.top.result ≡ at.point.node.var = c.top.ensures (nodes_of at.outer) at.point.node at.held.nodes in
    let moves = h s visited (back-cut g.G.Guide.recalls s c.args.self.now visited c.args.set at (ap (has c.args.set) (sym top) ∙ sym c.has.ensures ∙ c.if-has.false)) in
    record { next = moves.next; lighter = lighter-more (load c.args.self.now Try) (load c.args.self.now Try + 1) c.cut.new.self step moves.lighter (omega arith) })
    c.cut.ensures
