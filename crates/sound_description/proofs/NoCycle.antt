-- If no number is on a cycle, no component has a path to itself.
use Rattle.std.proofs.Common.{◌≡◌, ℕ, zero, suc, ◌+◌, ◌<◌, Bool, true, false, ◌&&◌, if◌then◌else◌, cond, List, [], ◌∷◌, length, get_or, map, flat_map, Some, None, inl, inr, refl, sym, ap, ◌∙◌, subst, arith, Contains}
use Rattle.std.specs.List.{list_any, AllByRecursion, IsDistinct, position_from}
use Rattle.std.proofs.lemmas.Bool.{false≢true, and_parts, or_cases}
use Rattle.std.proofs.lemmas.Iterator.Adapters.{position_from-zero}
use Rattle.std.proofs.lemmas.List.{get_or-map}
use Rattle.std.proofs.lemmas.List.Elements.{Contains-append_left, Contains-append_right}
use Rattle.plan_types.specs.declared.dependency.Dep.{Dep}
use Rattle.plan_types.specs.declared.dependency.DepKind.TheVariants.{Library, Tool, Setup}
use Rattle.plan_types.specs.declared.dependency.LibName.{LibName}
use Rattle.plan_types.specs.declared.dependency.LibName.TheVariants as lib
use Rattle.plan_types.specs.declared.description.Component.{Component}
use Rattle.plan_types.specs.Guarded.{GuardedDep}
use Rattle.component_cycle.specs.Cycle.{IsFirstOnCycle}
use Rattle.common_laws.specs.Graphs.{Needs, IsPath, last, more}
use Rattle.package_declarations.specs.Cycles as numbers
use Rattle.package_declarations.specs.Cycles.{number_in, targets}
use Rattle.package_declarations.specs.Declarations.{as_list}
use Rattle.flatten.specs.OwnComponents.{HasNoCycle, Leads, at_once, by_way_of, asks_for, is_executable, is_lib, name_of, needs}
use Rattle.sound_description.proofs.Names.{itself, apart-back}
use Rattle.plan_types.specs.Bytes.{same_text}
use Rattle.common_laws.specs.Small.{same-is}
use Rattle.plan_types.specs.Packages.{library_name, is_library}

-- a component is at a place
abbrev IsAt : List Component → Component → ℕ → Type 0
IsAt components c k = (k < length components) × (get_or components k c ≡ c)

each-at : (P : List ℕ → Type 0) (components : List Component) (c : Component) (k : ℕ) → AllByRecursion P (map (λ d. d.name) components) → k < length components → get_or components k c ≡ c → P c.name
each-at P [] c k each low is = absurd (omega (arith, low))
each-at P (d ∷ components) c zero each low is = subst (λ (x : Component). P x.name) is each.0
each-at P (d ∷ components) c (suc k) each low is = each-at P components c k each.1 (omega (arith, low)) is

-- the place of a component is that of the first one with its name
place-from : (components : List Component) (c : Component) (k i : ℕ) → IsDistinct same_text (map (λ d. d.name) components) → k < length components → get_or components k c ≡ c
    → position_from (λ d. same_text c.name d.name) i components ≡ Some (i + k)
unfolding IsDistinct
place-from [] c k i once low is = absurd (omega (arith, low))
place-from (d ∷ components) c zero i once low is =
    let found : same_text c.name d.name ≡ true = ap (λ (x : Component). same_text c.name x.name) is ∙ itself c.name in
    let here : i ≡ i + 0 = omega arith in
    ap (λ b. cond b (Some i) (position_from (λ (x : Component). same_text c.name x.name) (i + 1) components)) found ∙ ap Some here
place-from (d ∷ components) c (suc k) i once low is =
    let other = apart-back d.name c.name (each-at (λ name. same_text d.name name ≡ false) components c k once.0 (omega (arith, low)) is) in
    let there : i + 1 + k ≡ i + suc k = omega arith in
    ap (λ b. cond b (Some i) (position_from (λ (x : Component). same_text c.name x.name) (i + 1) components)) other
    ∙ place-from components c k (i + 1) once.1 (omega (arith, low)) is ∙ ap Some there

module _ (components : List Component) (once : IsDistinct same_text (map (λ d. d.name) components)) where
  place-is : (c : Component) (k : ℕ) → IsAt components c k → number_in components c.name ≡ k ∷ []
  place-is c k at =
      let test = λ (d : Component). same_text c.name d.name in
      let zeroth : 0 + k ≡ k = omega arith in
      ap as_list (position_from-zero test components ∙ place-from components c k 0 once at.0 at.1 ∙ ap Some zeroth)

  any-contains : {A : Type 0} (test : A → Bool) (f : A → List ℕ) (v : ℕ) → ((x : A) → test x ≡ true → Contains (f x) v) → (xs : List A) → list_any test xs ≡ true → Contains (flat_map f xs) v
  any-contains test f v each [] e = absurd (false≢true e)
  any-contains test f v each (x ∷ xs) e = elim (or_cases (test x) (list_any test xs) e) [
    | inl h ↦ Contains-append_left (f x) (flat_map f xs) v (each x h)
    | inr h ↦ Contains-append_right (f x) (flat_map f xs) v (any-contains test f v each xs h)
  ]

  named-same : (l : LibName) → name_of l ≡ library_name l
  named-same lib.Main = refl
  named-same (lib.Named name) = refl

  alone : (xs : List ℕ) (v : ℕ) → xs ≡ v ∷ [] → Contains xs v
  alone xs v is = subst (λ ys. Contains ys v) (sym is) (0, omega arith, refl)

  -- the numbers that a component needs include those of the components that it depends on
  module _ (other : Component) (k : ℕ) (at : IsAt components other k) where
    by-name : (name : List ℕ) → same_text other.name name ≡ true → Contains (number_in components name) k
    by-name name e = alone (number_in components name) k (ap (number_in components) (sym (same-is other.name name e)) ∙ place-is other k at)

    one-lib : (l : LibName) → is_lib other l ≡ true → Contains (number_in components (library_name l)) k
    one-lib l e = by-name (library_name l) (ap (same_text other.name) (sym (named-same l)) ∙ (and_parts (is_library other.kind) (same_text other.name (name_of l)) e).1)

    one-dep : (dep : Dep) → (dep.internal && asks_for dep.kind dep other) ≡ true → Contains (targets components dep) k
    one-dep dep =
        elim dep.internal as (λ b. (b && asks_for dep.kind dep other) ≡ true → Contains (if b then elim dep.kind [
          | Library ↦ flat_map (λ l. number_in components (library_name l)) dep.libs
          | Tool ↦ number_in components dep.exe
          | Setup ↦ []
        ] else []) k) [
          | true ↦ elim dep.kind as (λ kind. asks_for kind dep other ≡ true → Contains (elim kind [
            | Library ↦ flat_map (λ l. number_in components (library_name l)) dep.libs
            | Tool ↦ number_in components dep.exe
            | Setup ↦ []
          ]) k) [
            | Library ↦ λ e. any-contains (is_lib other) (λ l. number_in components (library_name l)) k one-lib dep.libs e
            | Tool ↦ λ e. by-name dep.exe (and_parts (is_executable other.kind) (same_text other.name dep.exe) e).1
            | Setup ↦ λ e. absurd (false≢true e)
          ]
          | false ↦ λ e. absurd (false≢true e)
        ]

    edge : (from : Component) (i : ℕ) → IsAt components from i → needs from other ≡ true → Needs (numbers.needs components) i k
    edge from i there e =
        let of = λ (c : Component). flat_map (λ (guarded : GuardedDep). targets components guarded.dep) c.build.deps in
        subst (λ ys. Contains ys k) (sym (get_or-map of components i from [] there.0 ∙ ap of there.1))
        (any-contains (λ (guarded : GuardedDep). guarded.dep.internal && asks_for guarded.dep.kind guarded.dep other) (λ guarded. targets components guarded.dep) k (λ guarded h. one-dep guarded.dep h) from.build.deps e)

  path : (from to : Component) → Leads components from to → (i j : ℕ) → IsAt components from i → IsAt components to j → IsPath (Needs (numbers.needs components)) i j
  path a b (at_once from to there e) i j p q = last (edge to j q from i p e)
  path a b (by_way_of from next to there e way) i j p q =
      let at : IsAt components next there.0 = (there.1, there.2) in
      more {w = there.0} (edge next there.0 at from i p e) (path next to way there.0 j at q)

  pub no_cycle : IsFirstOnCycle (numbers.needs components) None → HasNoCycle components
  no_cycle none component there way =
      let at : IsAt components component there.0 = (there.1, there.2) in
      none there.0 (path component component way there.0 there.0 at at)
