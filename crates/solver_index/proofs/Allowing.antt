-- Filtering the instances inside a range by what they have gives the instances that the dependency allows.
use Rattle.std.proofs.Common.{◌≡◌, Bool, ◌&&◌, List, length, refl, ap, ◌∙◌}
use Rattle.std.specs.List.{filter}
use Rattle.std.proofs.lemmas.Option.{slice_get-get_or}
use Rattle.plan_types.specs.declared.dependency.Dep.{Dep}
use Rattle.plan_types.specs.declared.dependency.DepKind.{DepKind}
use Rattle.plan_types.specs.declared.dependency.DepKind.TheVariants.{Library, Tool, Setup}
use Rattle.plan_types.specs.declared.index.Entry.{Entry}
use Rattle.plan_types.specs.declared.version.Version.{Version}
use Rattle.solver_index.specs.Allowed.{allowed_by, has_at, has_for, has_in, allowed_for}
use Rattle.solver_index.specs.Places.{entry_at, no_entry, places, rising}
use Rattle.solver_index.proofs.ListLaws.{rising-below}
use Rattle.common_laws.specs.Lists.{filter-same, filter-twice}

abbrev offers : DepKind → (Version → Bool) → Dep → Entry → Bool
offers kind allows dep e = allowed_for kind allows dep.range e.instance.version && has_for kind dep e.body

by-kind : (kind : DepKind) (allows : Version → Bool) (dep : Dep) (entries : List Entry) → places (offers kind allows dep) entries ≡ allowed_by kind allows dep entries
by-kind Library allows dep entries = refl
by-kind Tool allows dep entries = refl
by-kind Setup allows dep entries = refl

pub allowed-inside : (kind : DepKind) (allows : Version → Bool) (dep : Dep) (entries : List Entry)
    → filter (has_at kind dep entries) (places (λ e. allowed_for kind allows dep.range e.instance.version) entries) ≡ allowed_by kind allows dep entries
allowed-inside kind allows dep entries =
    filter-twice (λ i. allowed_for kind allows dep.range (entry_at entries i).instance.version) (has_at kind dep entries) (rising (length entries))
    ∙ filter-same (λ i. allowed_for kind allows dep.range (entry_at entries i).instance.version && has_at kind dep entries i) (λ i. offers kind allows dep (entry_at entries i)) (rising (length entries)) (λ i h.
    ap (λ o. allowed_for kind allows dep.range (entry_at entries i).instance.version && has_in kind dep o) (slice_get-get_or entries i no_entry (rising-below (length entries) i h)))
    ∙ by-kind kind allows dep entries
