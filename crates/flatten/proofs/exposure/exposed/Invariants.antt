use Rattle.std.proofs.Common.{◌≡◌, ◌++◌, drop, flat_map, not}
use Rattle.std.specs.Prelude.{filter}
use Rattle.flatten.specs.Exposure.{is_unbuildable, exposed, libs_of, exes_of}
use Rattle.flatten.proofs.exposure.exposed.Given as goal

abbrev pub invariant-loop-component : goal.invariant-loop-component
invariant-loop-component l =
    let rest = filter (λ component. not (is_unbuildable l.env component)) (drop l.component-index l.component-items) in
    record {
      libs : l.libs ++ flat_map (λ component. libs_of component.kind component.name component.public) rest ≡ (exposed l.env l.d).libs;
      exes : l.exes ++ flat_map (λ component. exes_of component.kind component.name) rest ≡ (exposed l.env l.d).exes;
    }
