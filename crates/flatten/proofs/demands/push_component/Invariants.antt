use Rattle.std.proofs.Common.{◌≡◌, ◌++◌, drop, flat_map}
use Rattle.flatten.specs.Demands.{demands_at, first_among, outward_among, outward_in}
use Rattle.plan_types.specs.Guarded.{in_groups}
use Rattle.flatten.proofs.demands.push_component.Given as goal

abbrev pub invariant-loop-group : goal.invariant-loop-group
invariant-loop-group l =
    let rest = outward_among l.component (in_groups (drop l.group-index l.groups)) in
    record {
      demands : l.flat ++ flat_map (demands_at l.env) rest ≡ l.fn.flat ++ flat_map (demands_at l.env) (outward_in l.component);
      first : first_among l.env rest ≡ first_among l.env (outward_in l.component);
    }
