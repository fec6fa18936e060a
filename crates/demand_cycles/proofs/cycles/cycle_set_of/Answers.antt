use Rattle.std.proofs.Common.{◌≡◌, length, Some, sym, ap, subst, ◌∙◌, arith}
use Rattle.std.proofs.lemmas.Bool.{eqb-true, eqb-false}
use Rattle.std.specs.Prelude.{flat_map}
use Rattle.choice_problem.specs.ConflictSet.{set_of}
use Rattle.choice_problem.specs.Conflict.{edges_of, named_by, circular}
use Rattle.demand_cycles.specs.Ring.{AreRings, Tells}
use Rattle.demand_cycles.proofs.Rings.{no-set, the-set}
use Rattle.demand_cycles.proofs.Told.{rings-tell}
use Rattle.demand_cycles.proofs.cycles.cycle_set_of.Goals as goal

pub returns-then-is_empty : goal.returns-then-is_empty
returns-then-is_empty g c =
    let items = c.in_ok-owners.owners.items in
    let empty : length items ≡ 0 = omega (arith, c.in_ok-owners.owners.ok, eqb-true _ _ (sym c.if-is_empty.ensures)) in
    sym (no-set (g.G.Graph.demands c.args.graph.now) c.args.before items c.requires c.in_ok-owners.ensures empty)

pub named_on_cycles-requires : goal.named_on_cycles-requires
named_on_cycles-requires g c =
    let demands = g.G.Graph.demands c.args.graph.now in
    let owners = c.as_slice.ensures.value ∙ c.in_ok-owners.ensures in
    let rings = subst (λ l. AreRings (edges_of demands) l c.in_ok-rings.rings.items) owners c.in_ok-rings.ensures in
    subst (Tells demands) (sym c.as_slice-2.ensures.value) (rings-tell demands c.args.before c.in_ok-rings.rings.items c.requires rings)

pub returns : goal.returns
returns g c =
    let demands = g.G.Graph.demands c.args.graph.now in
    let items = c.in_ok-owners.owners.items in
    let named : c.in_ok-set.set ≡ set_of (flat_map named_by (circular demands)) = c.in_ok-set.ensures ∙ ap set_of (c.as_slice-3.ensures.value ∙ c.in_ok-named.ensures) in
    ap Some named ∙ sym (the-set demands c.args.before items c.in_ok-owners.ensures (λ empty. eqb-false _ _ (sym c.if-is_empty.ensures) (omega (arith, c.in_ok-owners.owners.ok, empty))))
