-- one step for each turn
use Rattle.std.proofs.Common.{◌+◌, arith}
use Rattle.backjump.specs.declared.walk.Turn.TheVariants.{Look, Try, Back}
use Rattle.backjump.specs.Walk.{search_of, load}
use Rattle.backjump.proofs.Bounds.{goes-if-ok, stops-on-err}
use Rattle.backjump.proofs.walk.Walk.advance.Goals as goal

pub returns-in-Look-clause-ok : goal.returns-in-Look-clause-ok
returns-in-Look-clause-ok g c =
    let s = search_of (g.C.Choices.problem c.args.choices.now) g.G.Guide.picks c.args.limit in
    let w = c.args.self.now in
    goes-if-ok g.G.Guide.recalls s c.look.result _ w c.look.new.self c.args.turn Look (load w Look) c.args.steps.now c.in-Look.is (λ visited at. omega arith) (λ step h. h) c.look.ensures

pub returns-in-Look-clause-err : goal.returns-in-Look-clause-err
returns-in-Look-clause-err g c = stops-on-err g.G.Guide.recalls (search_of (g.C.Choices.problem c.args.choices.now) g.G.Guide.picks c.args.limit) c.look.result c.args.self.now c.args.turn c.args.steps.now

pub returns-in-Back-clause-ok : goal.returns-in-Back-clause-ok
returns-in-Back-clause-ok g c =
    let s = search_of (g.C.Choices.problem c.args.choices.now) g.G.Guide.picks c.args.limit in
    let w = c.args.self.now in
    goes-if-ok g.G.Guide.recalls s c.fall.result _ w c.fall.new.self c.args.turn (Back c.in-Back.set) (load w Try + 1) c.args.steps.now c.in-Back.is (λ visited at. omega arith)
    (λ step h. h s) c.fall.ensures

pub returns-in-Back-clause-err : goal.returns-in-Back-clause-err
returns-in-Back-clause-err g c = stops-on-err g.G.Guide.recalls (search_of (g.C.Choices.problem c.args.choices.now) g.G.Guide.picks c.args.limit) c.fall.result c.args.self.now c.args.turn c.args.steps.now
