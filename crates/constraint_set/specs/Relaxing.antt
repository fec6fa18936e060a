-- The kept form of what is relaxed.
use Rattle.std.specs.Prelude.{◌≡◌, Bool, ◌&&◌, ◌||◌, List}
use Rattle.std.specs.List.{list_any}
use Rattle.plan_types.specs.Bytes.{same_text}
use Rattle.plan_types.specs.declared.dependency.Relax.{Relax}
use Rattle.plan_types.specs.declared.dependency.RelaxOwner.{RelaxOwner}
use Rattle.plan_types.specs.declared.index.Instance.{Instance}
use Rattle.qualified_goals.specs.Names.{Name}
use Rattle.keyed_lists.specs.Lists.{items_at}
use Rattle.constraint_set.specs.Relaxed.{is_dep, is_owner, relaxes}
use Rattle.constraint_set.specs.declared.relaxing.Relaxing.{Relaxing}

-- whether one of these owners means the instance
abbrev pub is_one_of : List RelaxOwner → Instance → Bool
is_one_of owners i = list_any (λ o. is_owner o i) owners

-- whether an instance's dependencies on a package are relaxed: as all are, by the owner's name, or by the dependency's
abbrev pub is_relaxing : Relaxing → Instance → Name → Bool
is_relaxing kept i dep = kept.everything || is_one_of (items_at same_text kept.owners i.name) i || is_one_of (items_at same_text kept.dependencies dep) i

-- the kept form relaxes what the settings relax
abbrev pub RelaxesAs : List Relax → Relaxing → Type 0
RelaxesAs relaxed kept = (i : Instance) (dep : Name) → is_relaxing kept i dep ≡ relaxes relaxed i dep

-- the new form relaxes what the old one does, and what one more setting does
abbrev pub AddsRelax : Relaxing → Relaxing → Relax → Type 0
AddsRelax old new relax = (i : Instance) (dep : Name) → is_relaxing new i dep ≡ is_relaxing old i dep || (is_owner relax.owner i && is_dep relax.dep dep)

-- the new form relaxes what the old one does, and all dependencies of an owner
abbrev pub AddsOwner : Relaxing → Relaxing → RelaxOwner → Type 0
AddsOwner old new owner = (i : Instance) (dep : Name) → is_relaxing new i dep ≡ is_relaxing old i dep || is_owner owner i
