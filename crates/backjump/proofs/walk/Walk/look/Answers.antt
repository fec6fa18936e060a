-- the variable that the guide picks gets a node, or none is open and the trail is complete
use Rattle.std.proofs.Common.{◌++◌, ◌∷◌, [], ap, sym, ◌∙◌}
use Rattle.choice_problem.specs.Active.{open_in}
use Rattle.validation.proofs.NextViews.{known-open}
use Rattle.backjump.specs.Walk.{search_of}
use Rattle.backjump.proofs.Moves.{chain-given, look-none, look-some}
use Rattle.backjump.proofs.walk.Walk.look.Goals as goal

pub order-requires-clause-variable : goal.order-requires-clause-variable
order-requires-clause-variable g c =
    let p = g.C.Choices.problem c.args.choices.now in
    let lawful = g.met.C.Choices.lawful c.args.choices.now in
    let at = c.requires.1 in
    let trail = c.args.self.now.state.trail in
    let picked = sym (c.in-Some.ensures p at.met lawful at.held.stands at.held.recalled) in
    (known-open p trail c.in-Some.var lawful at.held.stands.choices (g.met.G.Guide.is_guide.picked at.met (open_in p trail) c.in-Some.var picked)).known

pub grow-requires : goal.grow-requires
grow-requires g c outer node e =
    let p = g.C.Choices.problem c.args.choices.now in
    let at = c.requires.1 in
    chain-given p at.points c.args.self.now.state.trail at.fuel at.chain outer node (sym at.held.nodes ∙ e)

pub returns-in-None : goal.returns-in-None
returns-in-None g c visited at =
    let p = g.C.Choices.problem c.args.choices.now in
    look-none g.G.Guide.recalls (search_of p g.G.Guide.picks c.args.limit) c.args.self.now visited at
    (sym (c.in-None.ensures p at.met (g.met.C.Choices.lawful c.args.choices.now) at.held.stands at.held.recalled))

pub returns-in_ok-grow-in-Some : goal.returns-in_ok-grow-in-Some
returns-in_ok-grow-in-Some g c visited at =
    let p = g.C.Choices.problem c.args.choices.now in
    let lawful = g.met.C.Choices.lawful c.args.choices.now in
    let w = c.args.self.now in
    look-some g.G.Guide.recalls (search_of p g.G.Guide.picks c.args.limit) lawful g.met.G.Guide.is_guide w visited c.in-Some.var c.in_ok-values-in-Some.values c.grow.new.self c.push.new.self at
    (sym (c.in-Some.ensures p at.met lawful at.held.stands at.held.recalled))
    (c.in_ok-values-in-Some.ensures ∙ ap (p.order c.in-Some.var) c.trail.ensures.trail)
    c.in_ok-grow-in-Some.ensures.ok
    (c.in_ok-push-in-Some.ensures.ok ∙ ap (λ s. w.failed ++ s ∷ []) c.new.ensures)
