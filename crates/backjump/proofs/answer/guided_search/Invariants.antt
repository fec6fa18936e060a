-- the search is at this turn after the counted tries; each step reduces the load, where each try left counts 4
use Rattle.std.proofs.Common.{◌≡◌, ℕ, ◌+◌, ◌-◌, ◌*◌}
use Rattle.backjump.specs.Walk.{search_of, whole, IsAt, load}
use Rattle.backjump.proofs.answer.guided_search.Given as goal

abbrev pub invariant-loop-walk : goal.invariant-loop-walk
invariant-loop-walk g l =
    record {
      visited : ℕ;
      steps : l.steps ≡ l.fn.steps + visited;
      at : IsAt g.G.Guide.recalls (search_of (g.C.Choices.problem l.choices) g.G.Guide.picks l.limit) l.walk visited l.turn;
    }

abbrev pub decreases-loop-walk : goal.decreases-loop-walk
decreases-loop-walk g l =
    4 * ((whole (search_of (g.C.Choices.problem l.choices) g.G.Guide.picks l.limit)).past.counts.visited - (l.steps - l.fn.steps)) + load l.walk l.turn
