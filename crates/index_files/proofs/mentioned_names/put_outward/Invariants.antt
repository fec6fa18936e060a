-- the package names of the components so far
use Rattle.std.proofs.Common.{◌≡◌, map, take}
use Rattle.std.specs.Prelude.{flat_map}
use Rattle.flatten.specs.Demands.{ExternalDep, outward_in}
use Rattle.index_files.specs.Names.{put_all}
use Rattle.index_files.proofs.mentioned_names.put_outward.Given as goal

abbrev pub invariant-loop-component : goal.invariant-loop-component
invariant-loop-component l = l.names.keys ≡ put_all l.fn.names.keys (map (λ (at : ExternalDep). at.guarded.dep.«package») (flat_map outward_in (take l.component-index l.components)))
