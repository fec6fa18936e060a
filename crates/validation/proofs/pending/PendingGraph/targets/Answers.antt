use Rattle.std.proofs.Common.{◌↔◌, ◌∙◌, ◌++◌, List, sym, ap, subst}
use Rattle.std.specs.List.{Contains}
use Rattle.qualified_goals.specs.declared.variable.Var.{Var}
use Rattle.choice_problem.specs.declared.problem.Demand.{Demand}
use Rattle.choice_problem.specs.Conflict.{edges_of}
use Rattle.demand_cycles.specs.Cycles.{HasEdge}
use Rattle.validation.specs.View.{View}
use Rattle.choice_stack.proofs.DemandGraphs.{targets-are}
use Rattle.validation.proofs.Weighed.{edge-either, edge-left, edge-right, found-joined, fresh-owned, pending-active}
use Rattle.validation.proofs.pending.PendingGraph.targets.Goals as goal

pub targets-requires : goal.targets-requires
targets-requires c = c.self.invariant.settled

pub targets_within-requires : goal.targets_within-requires
targets_within-requires c =
    let i = c.self.inside in
    fresh-owned i.stack.now i.addition.now i.woken i.fresh i.count c.self.invariant

pub returns : goal.returns
returns c v =
    let i = c.self.inside in
    let active = pending-active i.stack.now i.addition.now i.woken i.fresh i.count c.self.invariant in
    let woken : (u : Var) → (Contains c.in_ok-woken.woken u) ↔ ((λ (ds : List Demand) (v : Var). HasEdge (edges_of ds) c.args.from v) i.woken u) =
    subst (λ (l : List Var). (u : Var) → (Contains l u) ↔ ((λ (ds : List Demand) (v : Var). HasEdge (edges_of ds) c.args.from v) i.woken u)) (sym c.in_ok-woken.ensures) (targets-are i.woken c.args.from) in
    let fresh : (u : Var) → (Contains c.in_ok-fresh.fresh u) ↔ ((λ (ds : List Demand) (v : Var). HasEdge (edges_of ds) c.args.from v) i.fresh u) =
    subst (λ (l : List Var). (u : Var) → (Contains l u) ↔ ((λ (ds : List Demand) (v : Var). HasEdge (edges_of ds) c.args.from v) i.fresh u)) (sym c.in_ok-fresh.ensures) (targets-are i.fresh c.args.from) in
    let all = found-joined (λ (ds : List Demand) (v : Var). HasEdge (edges_of ds) c.args.from v) (λ xs ys v. edge-either xs ys c.args.from v) (λ xs ys v. edge-left xs ys c.args.from v) (λ xs ys v. edge-right xs ys c.args.from v)
    i.stack.now.active i.woken i.fresh c.in_ok-found.found c.in_ok-woken.woken c.in_ok-fresh.fresh c.in_ok-found.ensures woken fresh v in
    subst (λ (l : List Var). (Contains l v) ↔ (HasEdge (edges_of c.args.self.now.active) c.args.from v)) (sym c.in_ok-all.ensures)
    (subst (λ (ds : List Demand). (Contains (c.in_ok-found.found ++ (c.in_ok-woken.woken ++ c.in_ok-fresh.fresh)) v) ↔ (HasEdge (edges_of ds) c.args.from v))
    (sym active ∙ ap (λ (x : View). x.active) c.self.view_is) all)
