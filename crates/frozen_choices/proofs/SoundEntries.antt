-- Shared: packages and entries of a sound index, by their places.
use Rattle.std.proofs.Common.{◌<◌, ℕ, length}
use Rattle.std.proofs.lemmas.Option.{slice_get-get_or}
use Rattle.common_laws.specs.Each.{each-at}
use Rattle.plan_types.specs.Packages.{entries_of, no_package, package_at}
use Rattle.plan_types.specs.declared.condition.Env.{Env}
use Rattle.plan_types.specs.declared.index.Index.{Index}
use Rattle.flatten.specs.Sound.{IsEntry, IsPackage, IsSound}
use Rattle.solver_index.specs.Places.{entry_at, no_entry}

module _ (env : Env) (index : Index) (sound : IsSound env index) where
  pub package-sound : (p : ℕ) → p < length index.packages → IsPackage env index (package_at index.packages p)
  package-sound p below =
      each-at (IsPackage env index) index.packages p (package_at index.packages p) sound.packages (slice_get-get_or index.packages p no_package below)

  pub entry-sound : (p i : ℕ) → p < length index.packages → i < length (entries_of index.packages p)
      → IsEntry env index (package_at index.packages p) (entry_at (entries_of index.packages p) i)
  entry-sound p i below within =
      let entries = entries_of index.packages p in
      each-at (IsEntry env index (package_at index.packages p)) entries i (entry_at entries i) (package-sound p below).entries (slice_get-get_or entries i no_entry within)
