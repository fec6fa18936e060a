use Rattle.plan_types.specs.declared.dependency.Dep.{Dep}
use Rattle.index_files.proofs.AddedNames.{put_one}
use Rattle.index_files.proofs.mentioned_names.put_packages.Goals as goal

pub loop-dep-preserved : goal.loop-dep-preserved
loop-dep-preserved c = put_one (λ (dep : Dep). dep.«package») c.args.names.now.keys c.args.deps.now c.loop-dep.dep-index c.dep-item.result c.loop-dep-test.true c.dep-item.is _ _ c.loop-dep.invariant c.in_ok-put.ensures
