use Rattle.std.proofs.Common.{sym, ◌∙◌, ap}
use Rattle.index_files.specs.Releases.{AreReleases, release_paths}
use Rattle.index_files.proofs.Apart.{versions-once}
use Rattle.index_files.proofs.Visiting.{all-read, too-many}
use Rattle.common_laws.specs.Small.{if_some, some_at}
use Rattle.index_files.proofs.visit.read_releases.Goals as goal

pub returns-then-read-clause-observed : goal.returns-then-read-clause-observed
returns-then-read-clause-observed g c = if_some _ _ (λ files t.
    let places = c.args.places.now in
    let name = c.args.name.now in
    let listed = c.as_slice.ensures ∙ some_at _ _ files t c.in_ok-names.ensures.observed in
    let paths = c.as_slice-3.ensures ∙ c.in_ok-paths.ensures ∙ ap (release_paths places name) c.as_slice-2.ensures in
    let read = some_at _ _ files (c.in_ok-names.ensures.folder.same_files ∙ t) c.in_ok-read.ensures.observed in
    too-many places files name c.args.totals.now _ c.in_ok-dirs.dirs _ c.in_ok-read.read.files listed c.in_ok-dirs.ensures paths read (sym c.if-read.true ∙ c.in_ok-read.ensures.beyond))

pub returns-clause-observed : goal.returns-clause-observed
returns-clause-observed g c = if_some _ _ (λ files t.
    let places = c.args.places.now in
    let name = c.args.name.now in
    let listed = c.as_slice.ensures ∙ some_at _ _ files t c.in_ok-names.ensures.observed in
    let paths = c.as_slice-3.ensures ∙ c.in_ok-paths.ensures ∙ ap (release_paths places name) c.as_slice-2.ensures in
    let read = some_at _ _ files (c.in_ok-names.ensures.folder.same_files ∙ t) c.in_ok-read.ensures.observed in
    let releases : AreReleases c.args.env.now name c.in_ok-dirs.dirs c.in_ok-read.read.files c.in_ok-releases.releases = rw (← c.as_slice-4.ensures) (rw (← c.as_slice-5.ensures) c.in_ok-releases.ensures) in
    all-read places files name c.args.totals.now _ c.in_ok-dirs.dirs _ c.in_ok-read.read.files listed c.in_ok-dirs.ensures paths read c.args.env.now _ _ (sym c.if-read.false ∙ c.in_ok-read.ensures.beyond) releases c.in_ok-read.ensures.counts)

pub returns-clause-judged : goal.returns-clause-judged
returns-clause-judged g c =
    let releases : AreReleases c.args.env.now c.args.name.now c.in_ok-dirs.dirs c.in_ok-read.read.files c.in_ok-releases.releases = rw (← c.as_slice-4.ensures) (rw (← c.as_slice-5.ensures) c.in_ok-releases.ensures) in
    record {
      dirs = c.in_ok-dirs.dirs;
      files = c.in_ok-read.read.files;
      once = versions-once c.in_ok-names.names c.in_ok-dirs.dirs (rw (← c.as_slice.ensures) c.in_ok-dirs.ensures) c.in_ok-names.ensures.order;
      are = releases;
    }
