-- The entries of releases rise by version, and each is a sound entry of its package.
use Rattle.std.proofs.Common.{◌≡◌, true, false, List, map, refl}
use Rattle.std.specs.List.{AllByRecursion}
use Rattle.std.specs.List.Sorted.{IsStrictlySortedBy}
use Rattle.plan_types.specs.Members.{order}
use Rattle.plan_types.specs.declared.condition.Env.{Env}
use Rattle.plan_types.specs.declared.index.Index.{Index}
use Rattle.flatten.specs.Sound.{asked_packages, has_package}
use Rattle.outside_folder.specs.Files.{Bytes}
use Rattle.plan_types.specs.declared.index.Source.{Source}
use Rattle.index_files.specs.Releases.{asked_by, asked_in}
use Rattle.index_files.specs.declared.release.Judged.{Judged}
use Rattle.index_files.specs.declared.release.Judged.TheVariants.{Readable, Faulty}
use Rattle.index_files.specs.declared.release.Release.{Release}
use Rattle.index_assembly.specs.Entries.{is_version_below, release_entries, source_entry}
use Rattle.package_index.proofs.Entries.{IsEntryOf, source-is}
use Rattle.package_index.proofs.InOrder.{each-in-order, keys-rise, rises-in-order}
use Rattle.common_laws.specs.Each.{all-listed, each-any, each-both, each-of-flat}
use Rattle.package_index.proofs.Orders.{version-told, version_order, version_order_total}
use Rattle.package_index.proofs.Package.{IsRelease}
use Rattle.package_index.proofs.Releases.{AreGood, IsReleaseOf, OfReadable, each-entry, entries_of, numbers_of}

any-readable : (P : Source → Type 0) → ((source : Source) → P source) → (judged : Judged) → OfReadable P judged
any-readable P f (Readable source) = f source
any-readable P f (Faulty line cause) = tt

pub are-releases : (releases : List Release) → AllByRecursion IsRelease (release_entries releases)
are-releases releases =
    each-in-order is_version_below IsRelease (entries_of releases)
    (each-entry IsRelease releases
    (each-any (λ r. OfReadable (λ source. IsRelease (source_entry false source)) r.judged) releases (λ r. any-readable (λ source. IsRelease (source_entry false source)) (λ source. refl) r.judged)))

module _ (env : Env) (name : Bytes) (releases : List Release) (good : AreGood env name releases) where
  pub versions-rise : IsStrictlySortedBy order (map numbers_of (release_entries releases))
  versions-rise =
      keys-rise order numbers_of (release_entries releases)
      (rises-in-order version_order numbers_of version_order_total version-told (entries_of releases) good.once)

  module _ (index : Index) where
    abbrev Has : Bytes → Type 0
    Has asked = has_package index asked ≡ true

    one-release : (judged : Judged) → IsReleaseOf env name judged → AllByRecursion Has (asked_by judged) → OfReadable (λ source. IsEntryOf env index false name (source_entry false source)) judged
    one-release (Readable source) is asked = source-is env index false name source is.well is.name_is (all-listed (has_package index) (asked_packages source.description) asked)
    one-release (Faulty line cause) is asked = tt

    pub each-release : AllByRecursion Has (asked_in releases) → AllByRecursion (IsEntryOf env index false name) (release_entries releases)
    each-release asked =
        each-in-order is_version_below (IsEntryOf env index false name) (entries_of releases)
        (each-entry (IsEntryOf env index false name) releases
        (each-both (λ r. IsReleaseOf env name r.judged) (λ r. AllByRecursion Has (asked_by r.judged)) (λ r. OfReadable (λ source. IsEntryOf env index false name (source_entry false source)) r.judged) releases
        (λ r is has. one-release r.judged is has) good.each (each-of-flat Has (λ r. asked_by r.judged) releases asked)))
