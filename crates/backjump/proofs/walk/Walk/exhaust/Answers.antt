-- the search reaches its limit, or leaves the last node with its set
use Rattle.std.proofs.Common.{◌∷◌, sym, ◌∙◌, subst}
use Rattle.std.proofs.lemmas.Result.{IfOk-weaker}
use Rattle.backjump.specs.Walk.{search_of, Exhausts}
use Rattle.backjump.proofs.Moves.{exhaust-stopped, exhaust-cut}
use Rattle.backjump.proofs.walk.Walk.exhaust.Goals as goal

pub returns-then-gives_up : goal.returns-then-gives_up
returns-then-gives_up g c p visited at =
    exhaust-stopped g.G.Guide.recalls (search_of p g.G.Guide.picks c.args.limit) c.args.self.now visited c.depth.result c.depth.ensures.count (sym c.gives_up.ensures ∙ c.if-gives_up.true) at

pub returns : goal.returns
returns g c =
    IfOk-weaker c.cut.result _ (Exhausts g.G.Guide.recalls g.G.Guide.picks c.args.limit c.args.self.now c.cut.new.self)
    (λ step h p visited at.
    h (search_of p g.G.Guide.picks c.args.limit) visited
    (exhaust-cut g.G.Guide.recalls (search_of p g.G.Guide.picks c.args.limit) c.args.self.now visited c.depth.result c.saturating_add-self.result c.in_ok-set.set c.learn.new.self c.depth.ensures.count
    (sym c.gives_up.ensures ∙ c.if-gives_up.false) c.saturating_add-self.ensures at (c.in_ok-set.ensures p visited at.met at.point at.outer at.held at.prefix_is)
    (subst (λ l. g.G.Guide.recalls c.learn.new.self (c.in_ok-set.set ∷ at.met) l) c.trail.ensures.trail
    (c.in_ok-learn.ensures.ok at.met (subst (λ l. g.G.Guide.recalls c.args.self.now.guide at.met l) (sym c.trail.ensures.trail) at.held.recalled)))))
    c.cut.ensures
