-- The versions inside a dependency's cuts are those of its relaxed range.
use Rattle.std.proofs.Common.{◌≡◌, ℕ, zero, suc, Bool, true, List, [], ◌∷◌, length, Result, Ok, Err, IfOk}
use Rattle.std.specs.List.{Contains}
use Rattle.std.proofs.lemmas.List.Elements.{Contains-get_or}
use Rattle.plan_types.specs.declared.dependency.Dep.{Dep}
use Rattle.plan_types.specs.declared.dependency.DepKind.{DepKind}
use Rattle.plan_types.specs.declared.dependency.DepKind.TheVariants.{Library, Tool, Setup}
use Rattle.plan_types.specs.declared.index.Entry.{Entry}
use Rattle.plan_types.specs.declared.index.Instance.{Instance}
use Rattle.plan_types.specs.declared.index.Package.{Package}
use Rattle.plan_types.specs.declared.project.Project.{Project}
use Rattle.plan_types.specs.declared.version.Version.{Version}
use Rattle.plan_types.specs.Members.{members}
use Rattle.version_range.specs.Cuts.{HasNumbers, Relaxes, inside}
use Rattle.version_range.specs.Version.{has_versions, is_version}
use Rattle.constraint_set.specs.Relaxed.{relaxes}
use Rattle.solver_index.specs.Allowed.{allowed_for}
use Rattle.solver_index.specs.AllowedVersions.{allowed_versions}
use Rattle.solver_index.specs.Places.{entry_at, no_entry, places, rising}
use Rattle.solver_index.specs.Sources.{AreAllowed}
use Rattle.solver_index.specs.RangeBounds.{IsConstantWhere}
use Rattle.solver_index.specs.Versions.{body_has_versions, entries_have_versions, entry_has_versions, packages_have_versions}
use Rattle.solver_index.proofs.Atoms.{has-numbers}
use Rattle.solver_index.proofs.Calm.{itself-follows, relaxed-follows, same-follows}
use Rattle.solver_index.proofs.ListLaws.{rising-below}
use Rattle.solver_index.proofs.Relaxed.{are-relaxed}
use Rattle.std.proofs.lemmas.Bool.{and_parts}
use Rattle.std.specs.Cmp.{both_ways}
use Rattle.common_laws.specs.Lists.{filter-same, contains-none, all-at}
use Rattle.plan_types.specs.Packages.{entries_of}

one-relaxed : (newer older : Bool) (has f g : Version → Bool) → Relaxes newer older has f → Relaxes newer older has g → (v : Version) → HasNumbers v → f v ≡ g v
one-relaxed newer older has f g h k v numbers = both_ways (f v) (g v) (λ e. (k v numbers).1 ((h v numbers).0 e)) (λ e. (h v numbers).1 ((k v numbers).0 e))

pub relaxed-let : {E : Type 0} (project : Project) (owner : Instance) (dep : Dep) (r : Result (List Version) E) → has_versions dep.range ≡ true
    → IfOk r (λ cuts. Relaxes (relaxes project.newer owner dep.«package») (relaxes project.older owner dep.«package») (members dep.range) (inside cuts))
    → IfOk r (AreAllowed Library (allowed_versions project owner dep) dep.range)
relaxed-let project owner dep (Ok cuts) versions h = λ v numbers.
    one-relaxed (relaxes project.newer owner dep.«package») (relaxes project.older owner dep.«package») (members dep.range) (inside cuts) (allowed_versions project owner dep)
    h (are-relaxed project owner dep versions) v numbers
relaxed-let project owner dep (Err e) versions h = tt

pub entry-numbers : (packages : List Package) → packages_have_versions packages ≡ true → (p : ℕ) (e : Entry) → Contains (entries_of packages p) e → HasNumbers e.instance.version
entry-numbers [] h p e there = absurd (contains-none e there)
entry-numbers (found ∷ packages) h zero e there =
    let whole = all-at entry_has_versions found.entries e ((and_parts (entries_have_versions found.entries) (packages_have_versions packages) h).0) there in
    has-numbers e.instance.version ((and_parts (is_version e.instance.version.parts) (body_has_versions e.body) whole).0)
entry-numbers (found ∷ packages) h (suc p) e there = entry-numbers packages ((and_parts (entries_have_versions found.entries) (packages_have_versions packages) h).1) p e there

pub places-same : (f g : Version → Bool) (entries : List Entry) → ((e : Entry) → Contains entries e → f e.instance.version ≡ g e.instance.version)
    → places (λ e. f e.instance.version) entries ≡ places (λ e. g e.instance.version) entries
places-same f g entries h =
    filter-same (λ i. f (entry_at entries i).instance.version) (λ i. g (entry_at entries i).instance.version) (rising (length entries)) (λ i k.
    h (entry_at entries i) (Contains-get_or entries i no_entry (rising-below (length entries) i k)))

-- the allowed versions follow the members of the range
pub lets-follow : (project : Project) (owner : Instance) (kind : DepKind) (dep : Dep) → has_versions dep.range ≡ true → IsConstantWhere (members dep.range) (allowed_for kind (allowed_versions project owner dep) dep.range)
lets-follow project owner Library dep versions = relaxed-follows _ _ (members dep.range) (allowed_versions project owner dep) (are-relaxed project owner dep versions)
lets-follow project owner Tool dep versions = itself-follows (members dep.range)
lets-follow project owner Setup dep versions = relaxed-follows _ _ (members dep.range) (allowed_versions project owner dep) (are-relaxed project owner dep versions)

pub cuts-follow : (project : Project) (owner : Instance) (kind : DepKind) (dep : Dep) (cuts : List Version) → has_versions dep.range ≡ true → AreAllowed kind (allowed_versions project owner dep) dep.range cuts
    → IsConstantWhere (members dep.range) (inside cuts)
cuts-follow project owner kind dep cuts versions are =
    same-follows (members dep.range) (allowed_for kind (allowed_versions project owner dep) dep.range) (inside cuts) are (lets-follow project owner kind dep versions)
