use Rattle.std.proofs.Common.{◌↔◌, subst, sym}
use Rattle.std.specs.Prelude.{if◌then◌else◌, IfOk}
use Rattle.std.specs.List.{Contains}
use Rattle.std.proofs.lemmas.Result.{IfOk-weaker}
use Rattle.qualified_goals.specs.declared.variable.Var.{Var}
use Rattle.choice_problem.specs.Conflict.{edges_of}
use Rattle.demand_cycles.specs.Cycles.{HasEdge}
use Rattle.demand_cycles.specs.Side.{reversed}
use Rattle.demand_cycles.proofs.Sides.{targets-reversed}
use Rattle.demand_cycles.proofs.cycles.beside.Goals as goal

pub returns-then-ahead : goal.returns-then-ahead
returns-then-ahead g c =
    let all = edges_of (g.G.Graph.demands c.args.graph.now) in
    subst (λ ahead. IfOk c.targets.result (λ found. (w : Var) → (Contains found w) ↔ (HasEdge (if ahead then reversed all else all) w c.args.v))) (sym c.if-ahead.true)
    (IfOk-weaker c.targets.result _ _ (λ found. targets-reversed all c.args.v found) c.targets.ensures)

pub returns-else-ahead : goal.returns-else-ahead
returns-else-ahead g c =
    let all = edges_of (g.G.Graph.demands c.args.graph.now) in
    subst (λ ahead. IfOk c.sources.result (λ found. (w : Var) → (Contains found w) ↔ (HasEdge (if ahead then reversed all else all) w c.args.v))) (sym c.if-ahead.false) c.sources.ensures
