-- The paths of a dependency: those of its component joined with those of its own condition.
use Rattle.std.proofs.Common.{◌≡◌, ◌≢◌, ℕ, zero, suc, ◌*◌, ◌<◌, ◌≤◌, Bool, true, false, not, ◌||◌, nat_eq, cond, None, List, [], ◌∷◌, ◌++◌, length, map, flat_map, refl, sym, ap, ◌∙◌, append-nil, suc-mul, mul_comm, lt-ltb, le-ltb, arith}
use Rattle.std.specs.Prelude.{filter}
use Rattle.std.specs.List.{list_any}
use Rattle.std.proofs.lemmas.List.{nil_from_length}
use Rattle.plan_types.specs.declared.condition.Env.{Env}
use Rattle.plan_types.specs.declared.description.Component.{Component}
use Rattle.plan_types.specs.Guarded.{GuardedDep}
use Rattle.plan_types.specs.declared.index.FlatDep.{FlatDep}
use Rattle.conditionals.specs.Layers.{paths-And}
use Rattle.conditionals.specs.Paths.{Path, paths_of, followed, clean_paths}
use Rattle.conditionals.proofs.JoinedPaths.{cleaned_before_joined}
use Rattle.common_laws.specs.Small.{capped}
use Rattle.conditionals.proofs.PathNumbers.{capped_product, length_followed}
use Rattle.flatten.specs.Demands.{ExternalDep, outward_of, outward_in, paths_at, demands_at, flat_of, has_too_many_paths, first_among}
use Rattle.flatten.specs.Ways.{few_paths, number_of_both, paths_of_both, ways_of}
use Rattle.flatten.specs.declared.ways.Ways.{Ways}

-- ---- numbers

many : (number size : ℕ) → number ≡ capped size → 256 < number → 256 < size
many number size e more = omega arith

few : (number size : ℕ) → number ≡ capped size → number ≤ 256 → size ≤ 256
few number size e less = omega arith

nothing : (number size : ℕ) → number ≡ capped size → number ≡ 0 → size ≡ 0
nothing number size e none = omega arith

-- a factor of a positive product is no greater
pub factor : (a b m : ℕ) → 1 ≤ a * b → a * b ≤ m → b ≤ m
factor zero b m some le = absurd (omega arith)
factor (suc a) b m some le = let more = suc-mul a b in omega (arith, more)

both_few : (a b size number : ℕ) → size ≡ a * b → number ≡ capped size → number ≤ 256 → number ≢ 0 → (a ≤ 256) × (b ≤ 256)
both_few a b size number product is less some =
    let turned = mul_comm a b in
    (factor b a 256 (omega (arith, turned)) (omega (arith, turned)), factor a b 256 (omega arith) (omega arith))

few_are : (paths : List Path) → length paths ≤ 256 → few_paths paths ≡ clean_paths paths
few_are paths less = ap (λ b. cond b [] (clean_paths paths)) (le-ltb 256 (length paths) less)

-- ---- the paths of a condition whose number is known

module _ (paths : List Path) (number : ℕ) (is : number ≡ capped (length paths)) where
  pub none-met : number ≡ 0 → [] ≡ few_paths paths
  none-met none = sym (ap few_paths (nil_from_length paths (nothing number (length paths) is none)))

  pub none-kept : 256 < number → [] ≡ few_paths paths
  none-kept more = sym (ap (λ b. cond b [] (clean_paths paths)) (lt-ltb 256 (length paths) (many number (length paths) is more)))

  pub no-more : number ≤ 256 → length paths ≤ 256
  no-more less = few number (length paths) is less

  pub all-kept : number ≤ 256 → clean_paths paths ≡ few_paths paths
  all-kept less = sym (few_are paths (no-more less))

  pub never-met : number ≤ 256 → clean_paths paths ≡ [] → [] ≡ few_paths paths
  never-met less none = sym none ∙ all-kept less

-- ---- a component without dependencies on other packages

pub filter_none : {A : Type 0} (test : A → Bool) (xs : List A) → list_any test xs ≡ false → filter test xs ≡ []
filter_none test [] e = refl
filter_none test (x ∷ xs) e = by (test x) e (λ f. filter_none test xs f)
  where
    by : (b : Bool) → (b || list_any test xs) ≡ false → (list_any test xs ≡ false → filter test xs ≡ []) → cond b (x ∷ filter test xs) (filter test xs) ≡ []
    by true f more = absurd (cc f)
    by false f more = more f

module _ (env : Env) (component : Component) (none : list_any (λ guarded. not guarded.dep.internal) component.build.deps ≡ false) where
  nothing_outward : outward_in component ≡ []
  nothing_outward = ap (map (outward_of component)) (filter_none (λ guarded. not guarded.dep.internal) component.build.deps none)

  pub nothing_beyond : first_among env (outward_in component) ≡ None
  nothing_beyond = ap (first_among env) nothing_outward

  pub nothing_asked : (flat : List FlatDep) → flat ≡ flat ++ flat_map (demands_at env) (outward_in component)
  nothing_asked flat = sym (ap (λ all. flat ++ flat_map (demands_at env) all) nothing_outward ∙ append-nil flat)

-- ---- one dependency

not-zero : (n : ℕ) → nat_eq (suc n) 0 ≡ false
not-zero n = grind arith

module _ (env : Env) (component : Component) (guarded : GuardedDep) where
  abbrev at : ExternalDep
  at = outward_of component guarded

  abbrev first : List Path
  first = paths_of env component.build.buildable true

  abbrev second : List Path
  second = paths_of env guarded.when true

  paths_are : paths_at env at ≡ followed first second
  paths_are = paths-And env true component.build.buildable guarded.when

  size_is : length (paths_at env at) ≡ length first * length second
  size_is = ap length paths_are ∙ length_followed first second

  pub number_is : {ways met : Ways} {number : ℕ} → ways ≡ ways_of env component.build.buildable → met ≡ ways_of env guarded.when → number ≡ capped (ways.number * met.number) → number ≡ capped (length (paths_at env at))
  number_is known own is = is ∙ (λ i. capped ((known i).number * (own i).number)) ∙ capped_product (length first) (length second) ∙ ap capped (sym size_is)

  module _ {number : ℕ} (is : number ≡ capped (length (paths_at env at))) where
    pub beyond : 256 < number → has_too_many_paths env at ≡ true
    beyond more = lt-ltb 256 (length (paths_at env at)) (many number (length (paths_at env at)) is more)

    pub within : number ≤ 256 → has_too_many_paths env at ≡ false
    within less = le-ltb 256 (length (paths_at env at)) (few number (length (paths_at env at)) is less)

    pub no_demands : number ≡ 0 → (flat : List FlatDep) → flat ≡ flat ++ demands_at env at
    no_demands none flat =
        let nil = nil_from_length (paths_at env at) (nothing number (length (paths_at env at)) is none) in
        sym (ap (λ paths. flat ++ map (flat_of component.kind guarded.dep) (clean_paths paths)) nil ∙ append-nil flat)

    pub joined_are : {ways met : Ways} {joined : List Path} → number ≤ 256 → number ≢ 0 → ways ≡ ways_of env component.build.buildable → met ≡ ways_of env guarded.when → joined ≡ clean_paths (followed ways.paths met.paths) → joined ≡ clean_paths (paths_at env at)
    joined_are less some known own made =
        let each = both_few (length first) (length second) (length (paths_at env at)) number size_is is less some in
        let front = ap (λ w. w.paths) known ∙ few_are first each.0 in
        let back = ap (λ w. w.paths) own ∙ few_are second each.1 in
        made
        ∙ (λ i. clean_paths (followed (front i) (back i)))
        ∙ cleaned_before_joined first second
        ∙ ap clean_paths (sym paths_are)

  pub within-both : {ways met : Ways} → ways ≡ ways_of env component.build.buildable → met ≡ ways_of env guarded.when → number_of_both ways met ≤ 256 → has_too_many_paths env at ≡ false
  within-both known own less = within (number_is known own refl) less

  pub beyond-both : {ways met : Ways} → ways ≡ ways_of env component.build.buildable → met ≡ ways_of env guarded.when → 256 < number_of_both ways met → has_too_many_paths env at ≡ true
  beyond-both known own more = beyond (number_is known own refl) more

  pub asked-both : {ways met : Ways} → ways ≡ ways_of env component.build.buildable → met ≡ ways_of env guarded.when → number_of_both ways met ≤ 256
      → map (flat_of component.kind guarded.dep) (paths_of_both ways met) ≡ demands_at env at
  asked-both {ways} {met} known own less = ap (map (flat_of component.kind guarded.dep)) (by (number_of_both ways met) refl)
    where
      is : number_of_both ways met ≡ capped (length (paths_at env at))
      is = number_is known own refl

      by : (n : ℕ) → number_of_both ways met ≡ n → paths_of_both ways met ≡ clean_paths (paths_at env at)
      by zero e =
          ap (λ n. cond (nat_eq n 0) [] (clean_paths (followed ways.paths met.paths))) e
          ∙ sym (ap clean_paths (nil_from_length (paths_at env at) (nothing (number_of_both ways met) (length (paths_at env at)) is e)))
      by (suc n) e =
          ap (λ b. cond b [] (clean_paths (followed ways.paths met.paths))) (ap (λ n. nat_eq n 0) e ∙ not-zero n)
          ∙ joined_are is less (λ none. absurd (cc (sym e ∙ none))) known own refl
