-- the package names of the dependencies so far
use Rattle.std.proofs.Common.{◌≡◌, map, take}
use Rattle.plan_types.specs.declared.dependency.Dep.{Dep}
use Rattle.index_files.specs.Names.{put_all}
use Rattle.index_files.proofs.mentioned_names.put_packages.Given as goal

abbrev pub invariant-loop-dep : goal.invariant-loop-dep
invariant-loop-dep l = l.names.keys ≡ put_all l.fn.names.keys (map (λ (dep : Dep). dep.«package») (take l.dep-index l.deps))
