use Rattle.std.proofs.Common.{◌≡◌, take}
use Rattle.plan_types.proofs.dependency.copy_libs.Given as goal

abbrev pub invariant-loop-lib : goal.invariant-loop-lib
invariant-loop-lib l = l.copied ≡ take l.lib-index l.libs
