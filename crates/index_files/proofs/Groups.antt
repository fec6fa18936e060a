-- The package names of dependencies in groups.
use Rattle.std.proofs.Common.{◌≡◌, Bool, true, false, not, cond, List, [], ◌∷◌, ◌++◌, map, flat_map, refl, sym, ap, ◌∙◌}
use Rattle.std.proofs.lemmas.List.{map-append}
use Rattle.plan_types.specs.Guarded.{GuardedDep, in_groups, of_group}
use Rattle.plan_types.specs.declared.condition.Cond.{Cond}
use Rattle.plan_types.specs.declared.dependency.Dep.{Dep}
use Rattle.plan_types.specs.declared.description.Component.{Component}
use Rattle.plan_types.specs.declared.description.DepGroup.{DepGroup}
use Rattle.flatten.specs.Demands.{external, outward_among, outward_of}
use Rattle.flatten.proofs.DependencyGroups.{outward-append}
use Rattle.index_files.specs.Releases.{outward_name}
use Rattle.outside_folder.specs.Files.{Bytes}

abbrev pub group_names : Component → DepGroup → List Bytes
group_names component group = map outward_name (outward_among component (of_group group))

pub names-in-groups : (component : Component) (groups : List DepGroup) → flat_map (group_names component) groups ≡ map outward_name (outward_among component (in_groups groups))
names-in-groups component [] = refl
names-in-groups component (group ∷ groups) =
    ap (λ l. group_names component group ++ l) (names-in-groups component groups)
    ∙ sym (map-append outward_name (outward_among component (of_group group)) (outward_among component (in_groups groups)))
    ∙ ap (map outward_name) (sym (outward-append component (of_group group) (in_groups groups)))

-- ---- those of one group

abbrev pub asked_name : Dep → List Bytes
asked_name dep = cond dep.internal [] (dep.«package» ∷ [])

pub names-in-group : (component : Component) (when : Cond) (deps : List Dep)
    → flat_map asked_name deps ≡ map outward_name (outward_among component (map (λ dep. record { when = when; dep = dep }) deps))
names-in-group component when [] = refl
names-in-group component when (dep ∷ deps) = by dep.internal (names-in-group component when deps)
  where
    here : List Dep → List GuardedDep
    here = map (λ dep. record { when = when; dep = dep })

    by : (b : Bool) → flat_map asked_name deps ≡ map outward_name (outward_among component (here deps))
        → cond b [] (dep.«package» ∷ []) ++ flat_map asked_name deps
        ≡ map outward_name (map (outward_of component) (cond (not b) (record { when = when; dep = dep } ∷ external (here deps)) (external (here deps))))
    by true more = more
    by false more = ap (λ l. dep.«package» ∷ l) more
