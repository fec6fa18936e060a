use Rattle.index_files.specs.Releases.{asked_by}
use Rattle.index_files.specs.declared.release.Release.{Release}
use Rattle.index_files.proofs.AddedNames.{put_more}
use Rattle.index_files.proofs.mentioned_names.put_asked.Goals as goal

pub loop-release-preserved : goal.loop-release-preserved
loop-release-preserved c = put_more (λ (release : Release). asked_by release.judged) c.args.names.now.keys c.args.releases.now c.loop-release.release-index c.release-item.result c.loop-release-test.true c.release-item.is _ _ c.loop-release.invariant c.in_ok-put_asked_by.ensures
