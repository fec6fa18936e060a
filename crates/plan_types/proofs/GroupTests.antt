-- Shared: tests of the dependencies in groups.
use Rattle.std.proofs.Common.{◌≡◌, Bool, ◌||◌, List, [], ◌∷◌, map, refl, sym, ap, ◌∙◌}
use Rattle.std.specs.List.{list_any}
use Rattle.std.proofs.lemmas.List.Folds.{list_any-append}
use Rattle.plan_types.specs.Guarded.{GuardedDep, in_groups, of_group, under}
use Rattle.plan_types.specs.declared.condition.Cond.{Cond}
use Rattle.plan_types.specs.declared.dependency.Dep.{Dep}
use Rattle.plan_types.specs.declared.description.DepGroup.{DepGroup}

module _ (test : Dep → Bool) where
  in-group : (when : Cond) (deps : List Dep) → list_any test deps ≡ list_any (λ (guarded : GuardedDep). test guarded.dep) (map (under when) deps)
  in-group when [] = refl
  in-group when (dep ∷ deps) = ap (λ b. test dep || b) (in-group when deps)

  -- a test passes for some dependency of the groups iff it does for some one in the view
  pub some-in-groups : (groups : List DepGroup) → list_any (λ group. list_any test group.deps) groups ≡ list_any (λ (guarded : GuardedDep). test guarded.dep) (in_groups groups)
  some-in-groups [] = refl
  some-in-groups (group ∷ groups) =
      (λ i. in-group group.when group.deps i || some-in-groups groups i)
      ∙ sym (list_any-append (λ (guarded : GuardedDep). test guarded.dep) (of_group group) (in_groups groups))
