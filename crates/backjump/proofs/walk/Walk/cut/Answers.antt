-- the last node is removed, and the value of the node before has failed
use Rattle.std.proofs.Common.{◌≡◌, None, suc, length, ap, sym, ◌∙◌, subst}
use Rattle.choice_problem.specs.Trail.{value_in}
use Rattle.backjump.specs.Walk.{nodes_of}
use Rattle.backjump.proofs.Moves.{chain-some, cut-done, cut-back}
use Rattle.backjump.proofs.walk.Walk.cut.Goals as goal

pub returns-then-depth-eq0 : goal.returns-then-depth-eq0
returns-then-depth-eq0 g c s visited at =
    cut-done g.G.Guide.recalls s c.args.self.now visited c.args.set c.back.new.self c.pop.new.self c.back.ensures (sym c.depth.ensures.count ∙ c.if-depth-eq0.true) at

pub undo-requires : goal.undo-requires
undo-requires g c e =
    let at = c.requires in
    let tree_is = c.back.ensures (nodes_of at.outer) at.point.node at.held.nodes in
    chain-some at.p at.outer at.point.prefix (suc at.point.fuel) at.chain (λ none. c.if-depth-eq0.false (c.depth.ensures.count ∙ ap length tree_is ∙ none)) (sym at.prefix_is ∙ e)

pub returns : goal.returns
returns g c s visited at =
    cut-back g.G.Guide.recalls s c.args.self.now visited c.args.set c.back.new.self c.pop.new.self c.undo.new.self c.taken_back.new.self c.pop.result c.back.ensures c.pop.ensures
    (λ none. c.if-depth-eq0.false (c.depth.ensures.count ∙ none)) (c.undo.ensures.stands s.problem) c.undo.ensures.trail
    (λ outer node e met front d same new recalled.
    let top = sym (c.top.ensures outer node e) in
    c.in_ok-taken_back.ensures.ok met front d (same ∙ top) (subst (λ v. value_in front v ≡ None) top new) recalled) at
