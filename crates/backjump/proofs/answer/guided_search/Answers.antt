-- each step keeps the answer, and an end is the answer
use Rattle.std.proofs.Common.{◌+◌, ◌≤◌, subst, arith}
use Rattle.backjump.specs.Walk.{search_of, whole, GoesOn}
use Rattle.common_laws.specs.Small.{on-err}
use Rattle.backjump.proofs.Bounds.{end-visited, smaller}
use Rattle.backjump.proofs.answer.guided_search.Goals as goal

pub returns-in_err-next-clause-most : goal.returns-in_err-next-clause-most
returns-in_err-next-clause-most g c =
    let s = search_of (g.C.Choices.problem c.args.choices.now) g.G.Guide.picks c.args.limit in
    let l = c.loop-walk.invariant in
    let stops = c.in_err-next.ensures.err l.visited l.at in
    on-err c.from_residual-in_err-next.result (c.advance.new.steps ≤ c.args.steps.now + (whole s).past.counts.visited)
    (omega (arith, l.steps, stops.steps, stops.most))

pub loop-walk-smaller : goal.loop-walk-smaller
loop-walk-smaller g c =
    let s = search_of (g.C.Choices.problem c.args.choices.now) g.G.Guide.picks c.args.limit in
    let l = c.loop-walk.invariant in
    let goes = subst (GoesOn g.G.Guide.recalls s c.loop-walk.walk c.advance.new.self c.loop-walk.turn l.visited c.loop-walk.steps c.advance.new.steps) c.in-On.is (c.in_ok-next.ensures.ok l.visited l.at) in
    smaller g.G.Guide.recalls s c.loop-walk.walk c.advance.new.self c.loop-walk.turn c.in-On.next l.visited c.args.steps.now c.loop-walk.steps c.advance.new.steps l.steps goes

pub loop-walk-preserved : goal.loop-walk-preserved
loop-walk-preserved g c =
    let s = search_of (g.C.Choices.problem c.args.choices.now) g.G.Guide.picks c.args.limit in
    let l = c.loop-walk.invariant in
    let goes = subst (GoesOn g.G.Guide.recalls s c.loop-walk.walk c.advance.new.self c.loop-walk.turn l.visited c.loop-walk.steps c.advance.new.steps) c.in-On.is (c.in_ok-next.ensures.ok l.visited l.at) in
    record { visited = l.visited + goes.tried; steps = omega (arith, l.steps, goes.steps); at = goes.next }

pub returns-in-Done-clause-outcome : goal.returns-in-Done-clause-outcome
returns-in-Done-clause-outcome g c =
    let s = search_of (g.C.Choices.problem c.args.choices.now) g.G.Guide.picks c.args.limit in
    let l = c.loop-walk.invariant in
    let goes = subst (GoesOn g.G.Guide.recalls s c.loop-walk.walk c.advance.new.self c.loop-walk.turn l.visited c.loop-walk.steps c.advance.new.steps) c.in-Done.is (c.in_ok-next.ensures.ok l.visited l.at) in
    c.outcome.ensures s (l.visited + goes.tried) goes.next

pub returns-in-Done-clause-ticks : goal.returns-in-Done-clause-ticks
returns-in-Done-clause-ticks g c =
    let s = search_of (g.C.Choices.problem c.args.choices.now) g.G.Guide.picks c.args.limit in
    let l = c.loop-walk.invariant in
    let goes = subst (GoesOn g.G.Guide.recalls s c.loop-walk.walk c.advance.new.self c.loop-walk.turn l.visited c.loop-walk.steps c.advance.new.steps) c.in-Done.is (c.in_ok-next.ensures.ok l.visited l.at) in
    omega (arith, l.steps, goes.steps, end-visited g.G.Guide.recalls s c.advance.new.self (l.visited + goes.tried) c.in-Done.end goes.next)
