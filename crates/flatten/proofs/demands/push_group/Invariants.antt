use Rattle.std.proofs.Common.{◌≡◌, ◌++◌, drop, map, flat_map}
use Rattle.flatten.specs.Demands.{demands_at, first_among, outward_among}
use Rattle.plan_types.specs.Guarded.{of_group}
use Rattle.plan_types.specs.Guarded.{GuardedDep}
use Rattle.plan_types.specs.declared.dependency.Dep.{Dep}
use Rattle.flatten.proofs.demands.push_group.Given as goal

abbrev pub invariant-loop-dep : goal.invariant-loop-dep
invariant-loop-dep l =
    let here : Dep → GuardedDep = λ dep. record { when = l.group.when; dep = dep } in
    let rest = outward_among l.built.component.now (map here (drop l.dep-index l.dep-items)) in
    record {
      demands : l.flat ++ flat_map (demands_at l.env) rest ≡ l.fn.flat ++ flat_map (demands_at l.env) (outward_among l.built.component.now (of_group l.group));
      first : first_among l.env rest ≡ first_among l.env (outward_among l.built.component.now (of_group l.group));
    }
