use Rattle.std.proofs.Common.{◌∷◌, [], sym, ap, ◌∙◌}
use Rattle.std.proofs.lemmas.Bool.{false≢true}
use Rattle.choice_problem.specs.Conflict.{edges_of}
use Rattle.demand_cycles.specs.Cycles.{leads_to_any}
use Rattle.demand_cycles.proofs.Reached.{reached-all}
use Rattle.demand_cycles.proofs.Rings.{lies-ended, lies-led}
use Rattle.demand_cycles.proofs.cycles.is_on_cycle.Goals as goal

pub returns-then-is_done-clause-lies : goal.returns-then-is_done-clause-lies
returns-then-is_done-clause-lies g c =
    let edges = edges_of (g.G.Graph.demands c.args.graph.now) in
    let back = c.args.back.now in
    let target = c.args.demand.now.target in
    c.holds.ensures ∙ reached-all edges (back.end ∷ []) back.found back.place c.requires.back (c.is_done.ensures.done c.if-is_done.true) target
    ∙ ap (λ v. leads_to_any edges (v ∷ []) target) (c.is_done.ensures.end c.if-is_done.true)
    ∙ lies-led edges c.args.demand.now c.in-Some.owner (sym c.in-Some.ensures)

pub returns-then-not-is_chosen-clause-lies : goal.returns-then-not-is_chosen-clause-lies
returns-then-not-is_chosen-clause-lies g c =
    sym (lies-ended (g.G.Graph.demands c.args.graph.now) c.args.demand.now c.requires.listed (λ w h. false≢true (sym c.if-not-is_chosen.true ∙ c.is_chosen.ensures w h)))

pub is_led_to-requires : goal.is_led_to-requires
is_led_to-requires g c = c.begin.ensures.side (edges_of (g.G.Graph.demands c.args.graph.now)) c.requires.back

pub returns-clause-lies : goal.returns-clause-lies
returns-clause-lies g c =
    let edges = edges_of (g.G.Graph.demands c.args.graph.now) in
    c.in_ok-lies.ensures.is_led ∙ ap (λ v. leads_to_any edges (v ∷ []) c.args.demand.now.target) c.begin.ensures.end
    ∙ lies-led edges c.args.demand.now c.in-Some.owner (sym c.in-Some.ensures)
