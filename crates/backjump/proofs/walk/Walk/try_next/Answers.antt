-- the last node gives a value to choose, or has none left
use Rattle.std.proofs.Common.{◌+◌, refl, arith}
use Rattle.std.proofs.lemmas.Result.{IfOk-weaker}
use Rattle.common_laws.specs.Small.{on-err}
use Rattle.backjump.specs.declared.walk.Turn.TheVariants.{Try}
use Rattle.backjump.specs.Walk.{search_of, Goes, Stops, load}
use Rattle.backjump.proofs.Moves.{with_tree, try-none, try-some}
use Rattle.backjump.proofs.Bounds.{value-within, goes-if-ok, goes-tried, same-length, same-length-none, stops-on-err}
use Rattle.backjump.proofs.walk.Walk.try_next.Goals as goal

pub choose-requires : goal.choose-requires
choose-requires g c =
    let s = search_of (g.C.Choices.problem c.args.choices.now) g.G.Guide.picks c.args.limit in
    (c.requires.0, try-some g.G.Guide.recalls s c.args.self.now c.requires.0 c.in-Some.value c.next_value.new.self c.in-Some.ensures c.requires.1)

pub returns-in-None-clause-ok : goal.returns-in-None-clause-ok
returns-in-None-clause-ok g c =
    let s = search_of (g.C.Choices.problem c.args.choices.now) g.G.Guide.picks c.args.limit in
    let tree = c.next_value.new.self in
    goes-if-ok g.G.Guide.recalls s c.exhaust.result _ c.args.self.now c.exhaust.new.self Try Try (load (with_tree c.args.self.now tree) Try) c.args.steps.now refl
    (λ visited at. omega (arith, same-length-none g.G.Guide.recalls s c.args.self.now visited tree c.in-None.ensures at))
    (λ step h visited at. h s.problem visited (try-none g.G.Guide.recalls s c.args.self.now visited tree c.in-None.ensures at))
    c.exhaust.ensures

pub returns-in-None-clause-err : goal.returns-in-None-clause-err
returns-in-None-clause-err g c = stops-on-err g.G.Guide.recalls (search_of (g.C.Choices.problem c.args.choices.now) g.G.Guide.picks c.args.limit) c.exhaust.result c.args.self.now Try c.args.steps.now

pub returns-in-Some-clause-ok : goal.returns-in-Some-clause-ok
returns-in-Some-clause-ok g c =
    let s = search_of (g.C.Choices.problem c.args.choices.now) g.G.Guide.picks c.args.limit in
    let recalls = g.G.Guide.recalls in
    let w = c.args.self.now in
    let tree = c.next_value.new.self in
    IfOk-weaker c.choose.result _ (Goes recalls s w c.choose.new.self Try c.args.steps.now c.choose.new.steps)
    (λ step h visited at.
    goes-tried recalls s w c.choose.new.self visited (4 + load (with_tree w tree) Try) c.args.steps.now c.choose.new.steps step
    (omega (arith, same-length recalls s w visited c.in-Some.value tree c.in-Some.ensures at)) c.choose.ensures.ticks
    (h visited (try-some recalls s w visited c.in-Some.value tree c.in-Some.ensures at)))
    c.choose.ensures.step

pub returns-in-Some-clause-err : goal.returns-in-Some-clause-err
returns-in-Some-clause-err g c =
    let s = search_of (g.C.Choices.problem c.args.choices.now) g.G.Guide.picks c.args.limit in
    let tree = c.next_value.new.self in
    on-err c.choose.result (Stops g.G.Guide.recalls s c.args.self.now Try c.args.steps.now c.choose.new.steps)
    (λ visited at. record {
      tried = 1;
      steps = c.choose.ensures.ticks;
      most = value-within g.G.Guide.recalls s (with_tree c.args.self.now tree) visited c.in-Some.value
          (try-some g.G.Guide.recalls s c.args.self.now visited c.in-Some.value tree c.in-Some.ensures at);
    })
