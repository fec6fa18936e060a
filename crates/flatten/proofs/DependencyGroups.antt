-- Shared: dependencies, group by group.
use Rattle.std.proofs.Common.{◌≡◌, Bool, true, false, not, ◌||◌, cond, Some, None, List, [], ◌∷◌, ◌++◌, map, refl, sym, ap, ◌∙◌}
use Rattle.std.specs.List.{list_any}
use Rattle.std.specs.Option.{option_map}
use Rattle.std.specs.Prelude.{find}
use Rattle.std.proofs.lemmas.List.{map-append}
use Rattle.std.proofs.lemmas.List.Elements.{filter-append}
use Rattle.plan_types.specs.declared.condition.Cond.{Cond}
use Rattle.plan_types.specs.declared.condition.Env.{Env}
use Rattle.plan_types.specs.declared.dependency.Dep.{Dep}
use Rattle.plan_types.specs.declared.description.Component.{Component}
use Rattle.plan_types.specs.Guarded.{GuardedDep}
use Rattle.flatten.proofs.FirstBeyond.{none_among}
use Rattle.flatten.proofs.JoinedPaths.{filter_none}
use Rattle.flatten.specs.Demands.{ExternalDep, external, first_among, has_too_many_paths, outward_among, outward_of}

abbrev pub is-other : GuardedDep → Bool
is-other guarded = not guarded.dep.internal

-- a group has a dependency on another package iff its view has
any-of-group : (when : Cond) (deps : List Dep) → list_any (λ dep. not dep.internal) deps ≡ list_any is-other (map (λ dep. record { when = when; dep = dep }) deps)
any-of-group when [] = refl
any-of-group when (dep ∷ deps) = ap (λ b. not dep.internal || b) (any-of-group when deps)

-- ---- those of one group, one by one

pub outward-append : (component : Component) (front rest : List GuardedDep) → outward_among component (front ++ rest) ≡ outward_among component front ++ outward_among component rest
outward-append component front rest =
    ap (map (outward_of component)) (filter-append (λ guarded. not guarded.dep.internal) front rest)
    ∙ map-append (outward_of component) (external front) (external rest)

module _ (component : Component) (when : Cond) (dep : Dep) (rest : List Dep) where
  abbrev in-place : Dep → GuardedDep
  in-place one = record { when = when; dep = one }

  pub taken : dep.internal ≡ false → outward_among component (map in-place (dep ∷ rest)) ≡ outward_of component (in-place dep) ∷ outward_among component (map in-place rest)
  taken is = ap (λ b. map (outward_of component) (cond (not b) (in-place dep ∷ external (map in-place rest)) (external (map in-place rest)))) is

  pub passed : dep.internal ≡ true → outward_among component (map in-place (dep ∷ rest)) ≡ outward_among component (map in-place rest)
  passed is = ap (λ b. map (outward_of component) (cond (not b) (in-place dep ∷ external (map in-place rest)) (external (map in-place rest)))) is

-- if the first hasn't too many paths, the rest decides
pub not-first : (env : Env) (at : ExternalDep) (rest : List ExternalDep) → has_too_many_paths env at ≡ false → first_among env (at ∷ rest) ≡ first_among env rest
not-first env at rest is = none_among env (at ∷ []) rest (ap (λ b. option_map (λ at. at.guarded.dep.line) (cond b (Some at) None)) is)

-- if the first has too many, its line is the answer
pub is-first : (env : Env) (at : ExternalDep) (rest : List ExternalDep) → has_too_many_paths env at ≡ true → first_among env (at ∷ rest) ≡ Some at.guarded.dep.line
is-first env at rest is = ap (λ b. option_map (λ at. at.guarded.dep.line) (cond b (Some at) (find (has_too_many_paths env) rest))) is

-- a group without dependencies on other packages has no demands
pub none-other : (component : Component) (when : Cond) (deps : List Dep) → list_any (λ dep. not dep.internal) deps ≡ false → outward_among component (map (λ dep. record { when = when; dep = dep }) deps) ≡ []
none-other component when deps none =
    ap (map (outward_of component)) (filter_none is-other (map (λ dep. record { when = when; dep = dep }) deps) (sym (any-of-group when deps) ∙ none))
