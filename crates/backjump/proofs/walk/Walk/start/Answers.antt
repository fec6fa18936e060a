-- at the start there are no points and no choices
use Rattle.std.proofs.Common.{refl}
use Rattle.backjump.specs.Walk.{search_of}
use Rattle.backjump.proofs.Moves.{start-at}
use Rattle.backjump.proofs.walk.Walk.start.Goals as goal

pub returns : goal.returns
returns g c limit =
    start-at g.G.Guide.recalls (search_of (g.C.Choices.problem c.args.choices.now) g.G.Guide.picks limit)
    (record { tree = c.new-2.result; failed = c.new-3.result; state = c.in_ok-state.state; counts = record { visited = 0; exhausted = 0 }; guide = c.args.guide })
    c.in_ok-state.ensures.0 c.in_ok-state.ensures.1 c.new-2.ensures c.new-3.ensures refl c.requires
