use Rattle.std.proofs.Common.{◌<◌, ◌∙◌, ℕ, List, Some, sym, ap, subst, length, arith}
use Rattle.std.specs.List.{slice_get}
use Rattle.std.proofs.lemmas.List.{length-map}
use Rattle.choice_problem.specs.declared.problem.Demand.{Demand}
use Rattle.choice_stack.specs.Stack.{demand_at}
use Rattle.choice_stack.proofs.DemandPlaces.{below-at}
use Rattle.choice_stack.proofs.DemandPlaces.{demands-get}
use Rattle.choice_stack.proofs.picked.Picked.at.Goals as goal

pub place_at-place-requires : goal.place_at-place-requires
place_at-place-requires c =
    let i = c.self.inside in
    omega (arith, c.requires, length-map i.places.now (demand_at i.listed.now), ap (λ (ds : List Demand). length ds) c.self.view_is)

pub demand_in-requires : goal.demand_in-requires
demand_in-requires c =
    let i = c.self.inside in
    let within : c.args.index < length i.places.now = omega (arith, c.requires, length-map i.places.now (demand_at i.listed.now), ap (λ (ds : List Demand). length ds) c.self.view_is) in
    subst (λ (n : ℕ). n < length i.listed.now) (sym c.place_at-place.ensures) (below-at (length i.listed.now) i.places.now c.args.index c.self.invariant within)

pub returns : goal.returns
returns c =
    let i = c.self.inside in
    let within : c.args.index < length i.places.now = omega (arith, c.requires, length-map i.places.now (demand_at i.listed.now), ap (λ (ds : List Demand). length ds) c.self.view_is) in
    ap (λ (ds : List Demand). slice_get ds c.args.index) (sym c.self.view_is)
    ∙ demands-get i.listed.now i.places.now c.args.index 0 within
    ∙ ap (λ (n : ℕ). Some (demand_at i.listed.now n)) (sym c.place_at-place.ensures) ∙ ap Some (sym c.demand_in.ensures)
