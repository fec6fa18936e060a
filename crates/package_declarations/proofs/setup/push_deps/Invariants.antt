use Rattle.std.proofs.Common.{◌≡◌, ◌++◌, take}
use Rattle.package_declarations.proofs.setup.push_deps.Given as goal

abbrev pub invariant-loop-dep : goal.invariant-loop-dep
invariant-loop-dep l = l.deps ≡ l.fn.deps ++ take l.dep-index l.found
