-- The visit of a name, from what was listed, counted and judged.
use Rattle.std.proofs.Common.{◌≡◌, inl, inr, ℕ, ◌+◌, ◌<◌, ◌==◌, true, false, not, List, [], length, map, refl, sym, ◌∙◌, ap, subst, arith}
use Rattle.std.proofs.lemmas.Bool.Decides.{nat_tests}
use Rattle.std.proofs.lemmas.List.{length-map}
use Rattle.plan_types.specs.declared.condition.Env.{Env}
use Rattle.outside_folder.specs.Files.{Bytes, Files}
use Rattle.outside_folder.specs.declared.folder.Name.{Name}
use Rattle.index_files.specs.Closure.{Ground, ReadsAs, is_local}
use Rattle.index_files.specs.File.{Counts, count_all, file_found, fitting, size_all}
use Rattle.index_files.specs.Releases.{AreReleases, AreVersions, files_below, names_below, release_paths}
use Rattle.index_files.specs.Steps.{IsVisited, ReadsReleases, ReadsTooMany}
use Rattle.index_files.specs.Totals.{is_too_many}
use Rattle.index_files.specs.declared.file.ReadFile.{ReadFile}
use Rattle.plan_types.specs.declared.index.Places.{Places}
use Rattle.index_files.specs.declared.release.Release.{Release}
use Rattle.index_files.specs.declared.totals.Totals.{Totals}
use Rattle.index_files.specs.declared.versions.VersionDir.{VersionDir}
use Rattle.index_files.proofs.FileTotals.{fit-or-beyond}

not-equal : (n m : ℕ) → true ≡ not (n == m) → n ≡ m → ⊥
not-equal n m h e = grind (arith, nat_tests)

are-equal : (n m : ℕ) → false ≡ not (n == m) → n < m → ⊥
are-equal n m h l = grind (arith, nat_tests)

module _ (f b : ℕ) (all read : List ReadFile) (fit : read ≡ fitting f b all) where
  pub beyond-all : true ≡ not (length read == length all) → is_too_many (f + count_all all) (b + size_all all) ≡ true
  beyond-all h = elim (fit-or-beyond f b all) [
    | inl same ↦ absurd (not-equal (length read) (length all) h (ap length (fit ∙ same)))
    | inr many ↦ many.0
  ]

  pub fit-all : false ≡ not (length read == length all) → read ≡ all
  fit-all h = elim (fit-or-beyond f b all) [
    | inl same ↦ fit ∙ same
    | inr many ↦ absurd (are-equal (length read) (length all) h (subst (λ n. n < length all) (sym (ap length fit)) many.1))
  ]

module _ (places : Places) (files : Files) (name : Bytes) (before : Totals) (names : List Name) (dirs : List VersionDir) (paths : List Bytes) (read : List ReadFile)
    (listed : names ≡ names_below places files name) (versions : AreVersions names dirs) (paths_are : paths ≡ release_paths places name dirs)
    (fit : read ≡ fitting before.files before.bytes (map (file_found false files) paths)) where
  fits : read ≡ fitting before.files before.bytes (files_below places files name dirs)
  fits = fit ∙ ap (λ ps. fitting before.files before.bytes (map (file_found false files) ps)) paths_are

  many-paths : length paths ≡ length (files_below places files name dirs)
  many-paths = ap length paths_are ∙ sym (length-map (release_paths places name dirs) (file_found false files))

  pub too-many : true ≡ not (length read == length paths) → ReadsTooMany places files name before
  too-many h = record {
    dirs = dirs;
    versions = subst (λ ns. AreVersions ns dirs) listed versions;
    many = beyond-all before.files before.bytes (files_below places files name dirs) read fits (h ∙ ap (λ n. not (length read == n)) many-paths);
  }

  pub all-read : (env : Env) (after : Totals) (releases : List Release) → false ≡ not (length read == length paths) → AreReleases env name dirs read releases → Counts before after read
      → ReadsReleases env places files name before after releases
  all-read env after releases h r c =
      let same = fit-all before.files before.bytes (files_below places files name dirs) read fits (h ∙ ap (λ n. not (length read == n)) many-paths) in
      record {
        dirs = dirs;
        versions = subst (λ ns. AreVersions ns dirs) listed versions;
        releases_are = subst (λ fs. AreReleases env name dirs fs releases) same r;
        counts = subst (Counts before after) same c;
      }

-- a name that isn't local

pub visited-apart : (ground : Ground) (files : Files) (name : Bytes) (before after : Totals) (releases : List Release) → is_local ground name ≡ false
    → ReadsReleases ground.env ground.places files name before after releases → IsVisited ground files name before after releases
visited-apart ground files name before after releases apart r = record {
  dirs = r.dirs;
  visit = subst (ReadsAs ground files (record { name = name; dirs = r.dirs; releases = releases })) (sym apart) (record { versions = r.versions; releases = r.releases_are });
  counts = r.counts;
}

-- a local name

pub visited-local : (ground : Ground) (files : Files) (name : Bytes) (totals : Totals) → is_local ground name ≡ true → IsVisited ground files name totals totals []
visited-local ground files name totals local = record {
  dirs = [];
  visit = subst (ReadsAs ground files (record { name = name; dirs = []; releases = [] })) (sym local) (record { no_versions = refl; no_releases = refl });
  counts = record { files = omega arith; bytes = omega arith };
}
