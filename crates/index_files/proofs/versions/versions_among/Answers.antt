use Rattle.std.proofs.Common.{subst, sym}
use Rattle.index_files.specs.Releases.{AreVersions}
use Rattle.index_files.proofs.Joined.{versions-more}
use Rattle.common_laws.specs.Lists.{take_at}
use Rattle.index_files.proofs.versions.versions_among.Goals as goal

pub loop-name-preserved : goal.loop-name-preserved
loop-name-preserved c =
    subst (λ names. AreVersions names c.push_version.new.dirs) (sym (take_at c.args.names.now c.loop-name.name-index c.name-item.result c.loop-name-test.true c.name-item.is))
    (versions-more _ c.name-item.result c.loop-name.dirs c.push_version.new.dirs c.loop-name.invariant c.in_ok-push_version.ensures)
