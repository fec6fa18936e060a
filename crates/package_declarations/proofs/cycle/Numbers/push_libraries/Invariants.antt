use Rattle.std.proofs.Common.{◌≡◌, ◌++◌, drop, flat_map}
use Rattle.package_declarations.specs.Numbers.{number_at}
use Rattle.plan_types.specs.Packages.{library_name}
use Rattle.package_declarations.proofs.cycle.Numbers.push_libraries.Given as goal

abbrev pub invariant-loop-lib : goal.invariant-loop-lib
invariant-loop-lib l =
    l.found ++ flat_map (λ lib. number_at l.self (library_name lib)) (drop l.lib-index l.libs) ≡ l.fn.found ++ flat_map (λ lib. number_at l.self (library_name lib)) l.libs
