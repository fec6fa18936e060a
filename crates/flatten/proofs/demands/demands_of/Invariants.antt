use Rattle.std.proofs.Common.{◌≡◌, ◌++◌, drop, flat_map}
use Rattle.flatten.specs.Demands.{demands_at, demands_of, first_among, first_with_too_many_paths, outward_in}
use Rattle.flatten.proofs.demands.demands_of.Given as goal

abbrev pub invariant-loop-component : goal.invariant-loop-component
invariant-loop-component l =
    let rest = flat_map outward_in (drop l.component-index l.component-items) in
    record {
      demands : l.flat ++ flat_map (demands_at l.env) rest ≡ demands_of l.env l.d;
      first : first_among l.env rest ≡ first_with_too_many_paths l.env l.d;
    }
