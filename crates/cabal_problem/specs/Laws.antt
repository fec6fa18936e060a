-- The problem of an index and a project is lawful if the test passes.
use Rattle.std.specs.Prelude.{◌≡◌, ℕ, zero, suc, ◌<◌, Bool, true, false, cond, not, ◌&&◌, nat_eq, nat_lt, IsTrue, List, [], ◌∷◌, ◌++◌, length, map, filter, flat_map, slice_index_or, Some, None, position, Contains, refl}
use Rattle.std.specs.List.{list_all, list_any, position_or_len}
use Rattle.std.proofs.Common.{sym, ap, ◌∙◌, subst, inl, inr, arith}
use Rattle.std.proofs.lemmas.Bool.{false≢true, eqb-true, cases_lt, ltb-true, ltb-false, lt-ltb, and_parts, and_from}
use Rattle.std.proofs.lemmas.List.{get_or_past}
use Rattle.std.proofs.lemmas.List.Elements.{All-contains, Contains-get_or}
use Rattle.plan_types.specs.declared.dependency.Dep.{Dep}
use Rattle.plan_types.specs.declared.dependency.DepKind.{DepKind}
use Rattle.plan_types.specs.declared.dependency.DepKind.TheVariants as kind
use Rattle.plan_types.specs.declared.dependency.Named.{Named}
use Rattle.plan_types.specs.declared.description.FlagDecl.{FlagDecl}
use Rattle.plan_types.specs.declared.index.Body.{Body}
use Rattle.plan_types.specs.declared.index.Body.TheVariants.{Source, Installed}
use Rattle.plan_types.specs.declared.index.Entry.{Entry}
use Rattle.plan_types.specs.declared.index.FlatDep.{FlatDep}
use Rattle.plan_types.specs.declared.index.Package.{Package}
use Rattle.plan_types.specs.declared.project.Project.{Project}
use Rattle.plan_types.specs.declared.version.Version.{Version}
use Rattle.qualified_goals.specs.declared.variable.Qual.{Qual}
use Rattle.qualified_goals.specs.declared.variable.Qual.TheVariants.{Top, Setup, Exe}
use Rattle.qualified_goals.specs.declared.variable.Part.{Part}
use Rattle.qualified_goals.specs.declared.variable.Part.TheVariants.{Package as ThePackage, Flag, Tests, Benches}
use Rattle.qualified_goals.specs.declared.variable.Var.{Var}
use Rattle.qualified_goals.specs.Names.{Name, NameTable, number_of}
use Rattle.choice_problem.specs.declared.problem.Choice.{Choice}
use Rattle.choice_problem.specs.declared.problem.Demand.{Demand}
use Rattle.choice_problem.specs.Problem.{Problem, IsChoice, IsBeside, IsOrderBelow, IsRoot, IsOwned, Lawful}
use Rattle.choice_problem.specs.Written.{is_order}
use Rattle.choice_problem.specs.WrittenLaws.{order-at}
use Rattle.solver_index.proofs.ListLaws.{rising-below}
use Rattle.common_laws.specs.Lists.{contains-head, contains-tail, contains-none, contains-cases, contains-append, contains-left, contains-right, contains-map, map-contains, contains-filter, flat_map-contains, all-at, any-at, any-from, all-where}
use Rattle.constraint_set.specs.Bars.{is_number}
use Rattle.solver_index.specs.Places.{rising, entry_at, no_entry, number, flag_number}
use Rattle.solver_index.specs.AllowedVersions.{allowed_versions}
use Rattle.plan_types.specs.Guarded.{GuardedDep}
use Rattle.cabal_problem.specs.Variables.{is_qual, is_part, is_known, domain_of, is_tool, is_tool_of, component_depends, depends_on_tool, is_custom, declares, has_kind, is_suite, is_benchmark, body_has_kind, is_top}
use Rattle.choice_problem.specs.Twins.{is_whole, is_of_package}
use Rattle.cabal_problem.specs.Reuse.{others-ordered, reused-of, reused-once}
use Rattle.cabal_problem.specs.Values.{is_flag, better_first, package_var, chosen_default, chosen, reused, order_of}
use Rattle.cabal_problem.specs.ListedDemands.{part_beside, target_for, flag_demand, stanza_demand, stanza_if, has_stanzas, choice_beside, when_of, can_count, flat_demand, flat_demands, setup_demand, setup_demands, setup_if, unit_demand, unit_demands, body_demands, part_demands, demands_of, local_root, local_roots, extra_root, roots_of}
use Rattle.cabal_problem.specs.Bound.{all_quals, all_parts, vars_of, all_vars}
use Rattle.cabal_problem.specs.Lawful.{is_found, has_qual_for, flat_finds, body_finds, package_finds, packages_find, extras_are_found, is_order_at, are_orders, is_lawful}
use Rattle.cabal_problem.specs.Problem.{problem_of}
use Rattle.plan_types.specs.Bytes.{same_text}
use Rattle.plan_types.specs.Packages.{entries_of, package_at}

-- ---- lists

pub rising-has : (n x : ℕ) → x < n → Contains (rising n) x
rising-has zero x h = absurd (omega (arith, h))
rising-has (suc n) x h =
    elim (cases_lt x n) [
      | inl less ↦ contains-left (rising n) (n ∷ []) x (rising-has n x less)
      | inr last ↦ let same : n ≡ x = omega arith in subst (λ m. Contains (rising n ++ n ∷ []) m) same (contains-right (rising n) (n ∷ []) n (contains-head n []))
    ]

position-below : {X : Type 0} (test : X → Bool) (xs : List X) (n : ℕ) → is_number (position test xs) n ≡ true → n < length xs
position-below test xs n h =
    elim (nat_lt (position_or_len test xs) (length xs)) as (λ b. nat_lt (position_or_len test xs) (length xs) ≡ b → is_number (cond b (Some (position_or_len test xs)) None) n ≡ true → n < length xs) [
      | true ↦ λ e k. let same = eqb-true (position_or_len test xs) n k in let below = ltb-true (position_or_len test xs) (length xs) e in subst (λ m. m < length xs) same below
      | false ↦ λ e k. absurd (false≢true k)
    ] refl h

on-first-order : (on : Bool) → IsOrderBelow 2 (better_first on)
on-first-order true = order-at (1 ∷ 0 ∷ []) refl
on-first-order false = order-at (0 ∷ 1 ∷ []) refl

module _ (packages : List Package) (names : NameTable) where
  -- ---- the bound on the variables

  pub within : (test : Entry → Bool) (p : ℕ) → list_any test (entries_of packages p) ≡ true → p < length packages
  within test p h =
      elim (nat_lt p (length packages)) as (λ b. nat_lt p (length packages) ≡ b → p < length packages) [
        | true ↦ λ e. ltb-true p (length packages) e
        | false ↦ λ e.
            let none = get_or_past packages p (record { name = []; local = false; extra = false; entries = [] }) (ltb-false p (length packages) e) in
            absurd (false≢true (sym (ap (λ (found : Package). list_any test found.entries) none) ∙ h))
      ] refl

  tool-below : (t : ℕ) (body : Body) → depends_on_tool names t body ≡ true → t < length names.packages
  tool-below t (Source source) h =
      let component = any-at (component_depends names t) source.description.components h in
      let guarded = any-at (λ (g : GuardedDep). is_tool_of names t g.dep) component.0.build.deps component.2 in
      let test = is_number (number_of names.packages guarded.0.dep.«package») t in
      position-below (same_text guarded.0.dep.«package») names.packages t ((and_parts (not guarded.0.dep.internal && is_tool guarded.0.dep.kind) test guarded.2).1)
  tool-below t (Installed unit needs) h = absurd (false≢true h)

  flag-below : (f : ℕ) (body : Body) → declares names f body ≡ true → f < length names.flags
  flag-below f (Source source) h = let decl = any-at (is_flag names f) source.description.flags h in position-below (same_text decl.0.name) names.flags f decl.2
  flag-below f (Installed unit needs) h = absurd (false≢true h)

  qual-in : (q : Qual) → is_qual packages names q ≡ true → Contains (all_quals (rising (length packages)) (rising (length names.packages))) q
  qual-in Top h =
      let owners = rising (length packages) in
      let tools = rising (length names.packages) in
      contains-head Top (map Setup owners ++ flat_map (λ (o : ℕ). map (Exe o) tools) owners)
  qual-in (Setup p) h =
      let owners = rising (length packages) in
      let tools = rising (length names.packages) in
      contains-tail Top (map Setup owners ++ flat_map (λ (o : ℕ). map (Exe o) tools) owners) (Setup p)
      (contains-left (map Setup owners) (flat_map (λ (o : ℕ). map (Exe o) tools) owners) (Setup p)
      (map-contains Setup owners p (rising-has (length packages) p (within (λ e. is_custom e.body) p h))))
  qual-in (Exe p t) h =
      let owners = rising (length packages) in
      let tools = rising (length names.packages) in
      let entry = any-at (λ (e : Entry). depends_on_tool names t e.body) (entries_of packages p) h in
      contains-tail Top (map Setup owners ++ flat_map (λ (o : ℕ). map (Exe o) tools) owners) (Exe p t)
      (contains-right (map Setup owners) (flat_map (λ (o : ℕ). map (Exe o) tools) owners) (Exe p t)
      (flat_map-contains (λ (o : ℕ). map (Exe o) tools) owners p (Exe p t) (rising-has (length packages) p (within (λ e. depends_on_tool names t e.body) p h))
      (map-contains (Exe p) tools t (rising-has (length names.packages) t (tool-below t entry.0.body entry.2)))))

  part-in : (q : Qual) (found : Package) (part : Part) → is_part names q found part ≡ true → Contains (all_parts (rising (length names.flags))) part
  part-in q found ThePackage h =
      let flags = map Flag (rising (length names.flags)) in
      contains-head ThePackage (Tests ∷ Benches ∷ flags)
  part-in q found (Flag f) h =
      let flags = map Flag (rising (length names.flags)) in
      let entry = any-at (λ (e : Entry). declares names f e.body) found.entries h in
      contains-tail ThePackage (Tests ∷ Benches ∷ flags) (Flag f) (contains-tail Tests (Benches ∷ flags) (Flag f) (contains-tail Benches flags (Flag f)
      (map-contains Flag (rising (length names.flags)) f (rising-has (length names.flags) f (flag-below f entry.0.body entry.2)))))
  part-in q found Tests h =
      let flags = map Flag (rising (length names.flags)) in
      contains-tail ThePackage (Tests ∷ Benches ∷ flags) Tests (contains-head Tests (Benches ∷ flags))
  part-in q found Benches h =
      let flags = map Flag (rising (length names.flags)) in
      contains-tail ThePackage (Tests ∷ Benches ∷ flags) Benches (contains-tail Tests (Benches ∷ flags) Benches (contains-head Benches flags))

  abbrev part_test : Var → Bool
  part_test v = is_part names v.qual (package_at packages v.«package») v.part

  abbrev rest_test : Var → Bool
  rest_test v = nat_lt v.«package» (length packages) && part_test v

  pub known-qual : (v : Var) → is_known packages names v ≡ true → is_qual packages names v.qual ≡ true
  known-qual v h = (and_parts (is_qual packages names v.qual) (rest_test v) h).0

  pub known-below : (v : Var) → is_known packages names v ≡ true → v.«package» < length packages
  known-below v h = ltb-true v.«package» (length packages) ((and_parts (nat_lt v.«package» (length packages)) (part_test v) ((and_parts (is_qual packages names v.qual) (rest_test v) h).1)).0)

  known-part : (v : Var) → is_known packages names v ≡ true → part_test v ≡ true
  known-part v h = (and_parts (nat_lt v.«package» (length packages)) (part_test v) ((and_parts (is_qual packages names v.qual) (rest_test v) h).1)).1

  known-from : (v : Var) → is_qual packages names v.qual ≡ true → v.«package» < length packages → part_test v ≡ true → is_known packages names v ≡ true
  known-from v q p part =
      and_from (is_qual packages names v.qual) (rest_test v) q (and_from (nat_lt v.«package» (length packages)) (part_test v) (lt-ltb v.«package» (length packages) p) part)

  pub var-in : (v : Var) → is_known packages names v ≡ true → Contains (all_vars packages names) v
  var-in v h =
      let owners = rising (length packages) in
      let parts = all_parts (rising (length names.flags)) in
      flat_map-contains (vars_of owners parts) (all_quals owners (rising (length names.packages))) v.qual v (qual-in v.qual (known-qual v h))
      (flat_map-contains (λ (p : ℕ). map (λ (part : Part). record { qual = v.qual; «package» = p; part = part }) parts) owners v.«package» v
      (rising-has (length packages) v.«package» (known-below v h))
      (map-contains (λ (part : Part). record { qual = v.qual; «package» = v.«package»; part = part }) parts v.part
      (part-in v.qual (package_at packages v.«package») v.part (known-part v h))))

  -- ---- orders

  -- the value of a choice of an instance is its place
  instance-below : (p : ℕ) (c : Choice) → is_of_package p c ≡ true → c.val < domain_of packages c.var.«package» c.var.part → c.val < length (entries_of packages p)
  instance-below p c of below =
      let parts = and_parts (is_whole c.var.part) (nat_eq c.var.«package» p) of in
      subst (λ n. c.val < length (entries_of packages n)) (eqb-true c.var.«package» p parts.1) (whole-below c.var.part parts.0 below)
    where
      whole-below : (part : Part) → is_whole part ≡ true → c.val < domain_of packages c.var.«package» part → c.val < length (entries_of packages c.var.«package»)
      whole-below ThePackage whole h = h
      whole-below (Flag n) whole h = absurd (false≢true whole)
      whole-below Tests whole h = absurd (false≢true whole)
      whole-below Benches whole h = absurd (false≢true whole)

  part-ordered : (orders : List (List ℕ)) → are_orders packages orders ≡ true → (q : Qual) (p : ℕ) (part : Part) (trail : List Choice)
      → ((c : Choice) → Contains trail c → c.val < domain_of packages c.var.«package» c.var.part) → p < length packages
      → IsOrderBelow (domain_of packages p part) (order_of packages names orders q p part trail)
  part-ordered orders h q p ThePackage trail values_below below =
      let values = slice_index_or orders p [] in
      let is = all-at (is_order_at packages orders) (rising (length packages)) p h (rising-has (length packages) p below) in
      let same = eqb-true (length values) (length (entries_of packages p)) ((and_parts (nat_eq (length values) (length (entries_of packages p))) (is_order values) is).0) in
      others-ordered (reused trail (package_var q p)) values (length (entries_of packages p)) (reused-once trail (package_var q p))
      (λ n k. let (c, among, of, is) = reused-of trail (package_var q p) n k in subst (λ m. m < length (entries_of packages p)) is (instance-below p c of (values_below c among)))
      (subst (λ n. IsOrderBelow n values) same (order-at values ((and_parts (nat_eq (length values) (length (entries_of packages p))) (is_order values) is).1)))
  part-ordered orders h q p (Flag f) trail values_below below = on-first-order (chosen_default names f (entries_of packages p) (chosen trail q p))
  part-ordered orders h q p Tests trail values_below below = on-first-order true
  part-ordered orders h q p Benches trail values_below below = on-first-order true

  -- ---- targets

  found-below : (name : Name) → is_found packages names name ≡ true → number packages names name < length packages
  found-below name h = ltb-true (number packages names name) (length packages) h

  package-known : (q : Qual) (p : ℕ) → is_qual packages names q ≡ true → p < length packages → is_known packages names (package_var q p) ≡ true
  package-known q p h below = known-from (package_var q p) h below refl

  pub target-known : (owner : Var) (kind : DepKind) (name : Name) → is_qual packages names owner.qual ≡ true → is_found packages names name ≡ true
      → has_qual_for packages names owner.«package» kind name ≡ true → is_known packages names (target_for packages names owner kind name) ≡ true
  target-known owner kind.Library name q found has = package-known owner.qual (number packages names name) q (found-below name found)
  target-known owner kind.Tool name q found has = package-known (Exe owner.«package» (number packages names name)) (number packages names name) has (found-below name found)
  target-known owner kind.Setup name q found has = package-known (Setup owner.«package») (number packages names name) has (found-below name found)

module _ (packages : List Package) (project : Project) (names : NameTable) (orders : List (List ℕ)) where
  abbrev problem : Problem
  problem = problem_of packages project names orders

  -- ---- roots

  root-at : (p : ℕ) (allowed : List ℕ) → p < length packages → IsRoot problem (record { when = []; target = package_var Top p; allowed = allowed })
  root-at p allowed below = record { condition = refl; target = package-known packages names Top p refl below }

  local-owned : (d : Demand) → Contains (local_roots packages) d → IsRoot problem d
  local-owned d h =
      let found = contains-map (local_root packages) (filter (λ p. (package_at packages p).local) (rising (length packages))) d h in
      let kept = contains-filter (λ p. (package_at packages p).local) (rising (length packages)) found.0 found.1 in
      subst (λ e. IsRoot problem e) found.2 (root-at found.0 (rising (length (entries_of packages found.0))) (rising-below (length packages) found.0 kept.0))

  extra-owned : extras_are_found packages project names ≡ true → (d : Demand) → Contains (map (extra_root packages names) project.extra) d → IsRoot problem d
  extra-owned all d h =
      let found = contains-map (extra_root packages names) project.extra d h in
      let is = all-at (λ (named : Named). is_found packages names named.name) project.extra found.0 all found.1 in
      subst (λ e. IsRoot problem e) found.2 (root-at (number packages names found.0.name) (extra_root packages names found.0).allowed (found-below packages names found.0.name is))

  roots-are : extras_are_found packages project names ≡ true → (d : Demand) → Contains (roots_of packages project names) d → IsRoot problem d
  roots-are all d h =
      elim (contains-append (local_roots packages) (map (extra_root packages names) project.extra) d h) [ inl l ↦ local-owned d l | inr r ↦ extra-owned all d r ]

  -- ---- demands

  abbrev Owned : Choice → Demand → Type 0
  Owned owner d = IsOwned problem owner d

  alone-owned : (owner : Choice) (target : Var) (allowed : List ℕ) → is_known packages names target ≡ true → Owned owner (record { when = owner ∷ []; target = target; allowed = allowed })
  alone-owned owner target allowed h =
      record { others = []; condition = refl; beside = all-where (IsBeside owner) [] (λ c k. absurd (contains-none c k)); target = h }

  when-owned : (owner : Choice) (literals : List _) (target : Var) (allowed : List ℕ) → is_known packages names target ≡ true
      → Owned owner (record { when = when_of names owner literals; target = target; allowed = allowed })
  when-owned owner literals target allowed h =
      record {
        others = map (choice_beside names owner) literals;
        condition = refl;
        beside = all-where (IsBeside owner) (map (choice_beside names owner) literals) (λ c k.
            let found = contains-map (choice_beside names owner) literals c k in
            subst (λ e. IsBeside owner e) found.2 (record { same_qualifier = refl; same_package = refl }));
        target = h;
      }

  -- what is known of the choice of an instance
  record IsOwner (owner : Choice) (body : Body) : Type 0 where
    qual : is_qual packages names owner.var.qual ≡ true
    below : owner.var.«package» < length packages
    finds : body_finds packages names owner.var.«package» body ≡ true
    custom : is_custom body ≡ true → is_qual packages names (Setup owner.var.«package») ≡ true
    kinds : (test : _) → body_has_kind test body ≡ true → list_any (λ (e : Entry). body_has_kind test e.body) (entries_of packages owner.var.«package») ≡ true

  stanza-owned : (wanted : Bool) (owner : Choice) (stanza : Part) → (wanted ≡ true → is_known packages names (part_beside owner stanza) ≡ true)
      → (d : Demand) → Contains (stanza_if wanted owner stanza) d → Owned owner d
  stanza-owned true owner stanza h d k =
      elim (contains-cases (stanza_demand owner stanza) [] d k) [
        | inl e ↦ subst (λ f. Owned owner f) e (alone-owned owner (part_beside owner stanza) (0 ∷ 1 ∷ []) (h refl))
        | inr none ↦ absurd (contains-none d none)
      ]
  stanza-owned false owner stanza h d k = absurd (contains-none d k)

  flat-owned : (owner : Choice) (allows : Dep → Version → Bool) (flats : List FlatDep) → is_qual packages names owner.var.qual ≡ true
      → list_all (flat_finds packages names owner.var.«package») flats ≡ true → (d : Demand) → Contains (flat_demands packages names owner allows flats) d → Owned owner d
  flat-owned owner allows flats q all d h =
      let counts = can_count (has_stanzas packages owner.var) in
      let found = contains-map (flat_demand packages names owner allows) (filter counts flats) d h in
      let kept = contains-filter counts flats found.0 found.1 in
      let flat = found.0 in
      let finds = all-at (flat_finds packages names owner.var.«package») flats flat all kept.0 in
      let first = is_found packages names flat.dep.«package» in
      let second = has_qual_for packages names owner.var.«package» flat.dep.kind flat.dep.«package» in
      subst (λ e. Owned owner e) found.2
      (when-owned owner flat.when (target_for packages names owner.var flat.dep.kind flat.dep.«package») (flat_demand packages names owner allows flat).allowed
      (target-known packages names owner.var flat.dep.kind flat.dep.«package» q ((and_parts first second finds).0) ((and_parts first second finds).1)))

  setup-owned : (owner : Choice) (custom : Bool) (allows : Dep → Version → Bool) (deps : List Dep) → (custom ≡ true → is_qual packages names (Setup owner.var.«package») ≡ true)
      → is_qual packages names owner.var.qual ≡ true
      → list_all (λ dep. is_found packages names dep.«package») deps ≡ true
      → (d : Demand) → Contains (setup_if custom (setup_demands packages names owner allows deps)) d → Owned owner d
  setup-owned owner false allows deps has q all d h = absurd (contains-none d h)
  setup-owned owner true allows deps has q all d h =
      let found = contains-map (setup_demand packages names owner allows) deps d h in
      let dep = found.0 in
      let is = all-at (λ (e : Dep). is_found packages names e.«package») deps dep all found.1 in
      subst (λ e. Owned owner e) found.2
      (alone-owned owner (target_for packages names owner.var kind.Setup dep.«package») (setup_demand packages names owner allows dep).allowed
      (target-known packages names owner.var kind.Setup dep.«package» q is (has refl)))

  flags-owned : (owner : Choice) (flags : List FlagDecl) → is_qual packages names owner.var.qual ≡ true → owner.var.«package» < length packages
      → list_all (λ decl. is_part names Top (package_at packages owner.var.«package») (Flag (flag_number names decl.name))) flags ≡ true
      → (d : Demand) → Contains (map (flag_demand project names owner) flags) d → Owned owner d
  flags-owned owner flags q below all d h =
      let found = contains-map (flag_demand project names owner) flags d h in
      let is = all-at (λ (decl : FlagDecl). is_part names Top (package_at packages owner.var.«package») (Flag (flag_number names decl.name))) flags found.0 all found.1 in
      subst (λ e. Owned owner e) found.2
      (alone-owned owner (part_beside owner (Flag (flag_number names found.0.name))) (flag_demand project names owner found.0).allowed
      (known-from packages names (part_beside owner (Flag (flag_number names found.0.name))) q below is))

  units-owned : (owner : Choice) (ids needs : List Name) → is_qual packages names owner.var.qual ≡ true → list_all (is_found packages names) needs ≡ true
      → (d : Demand) → Contains (unit_demands packages names owner ids needs) d → Owned owner d
  units-owned owner ids needs q all d h =
      let found = contains-map (unit_demand packages names owner ids needs) (rising (length needs)) d h in
      let need = slice_index_or needs found.0 [] in
      let is = all-at (is_found packages names) needs need all (Contains-get_or needs found.0 [] (rising-below (length needs) found.0 found.1)) in
      subst (λ e. Owned owner e) found.2
      (alone-owned owner (package_var owner.var.qual (number packages names need)) (unit_demand packages names owner ids needs found.0).allowed
      (package-known packages names owner.var.qual (number packages names need) q (found-below packages names need is)))

  stanza-known : (owner : Choice) (body : Body) (test : _) (stanza : Part) → IsOwner owner body
      → (is_part names owner.var.qual (package_at packages owner.var.«package») stanza
      ≡ ((is_top owner.var.qual && (package_at packages owner.var.«package»).local) && list_any (λ (e : Entry). body_has_kind test e.body) (entries_of packages owner.var.«package»)))
      → has_stanzas packages owner.var && body_has_kind test body ≡ true → is_known packages names (part_beside owner stanza) ≡ true
  stanza-known owner body test stanza is same h =
      let top = is_top owner.var.qual in
      let local_is = (package_at packages owner.var.«package»).local in
      let some = list_any (λ (e : Entry). body_has_kind test e.body) (entries_of packages owner.var.«package») in
      let stanzas = (and_parts (top && local_is) (body_has_kind test body) h).0 in
      let has = is.kinds test ((and_parts (top && local_is) (body_has_kind test body) h).1) in
      known-from packages names (part_beside owner stanza) is.qual is.below
      (same ∙ and_from (top && local_is) some stanzas has)

  body-owned : (owner : Choice) (allows : Dep → Version → Bool) (body : Body) → IsOwner owner body → (d : Demand) → Contains (body_demands packages project names owner allows body) d → Owned owner d
  body-owned owner allows (Source source) is d h =
      let description = source.description in
      let flats = source.flat in
      let flags = map (flag_demand project names owner) description.flags in
      let tests = stanza_if (has_stanzas packages owner.var && has_kind is_suite description) owner Tests in
      let benches = stanza_if (has_stanzas packages owner.var && has_kind is_benchmark description) owner Benches in
      let deps = flat_demands packages names owner allows flats in
      let setups = setup_if description.custom (setup_demands packages names owner allows description.setup) in
      let flags_test = list_all (λ (decl : FlagDecl). is_part names Top (package_at packages owner.var.«package») (Flag (flag_number names decl.name))) description.flags in
      let flats_test = list_all (flat_finds packages names owner.var.«package») flats in
      let setup_test = list_all (λ (dep : Dep). is_found packages names dep.«package») description.setup in
      let rest = (and_parts flags_test (flats_test && setup_test) is.finds).1 in
      elim (contains-append (flags ++ tests ++ benches ++ deps) setups d h) [
        | inl own ↦ elim (contains-append (flags ++ tests ++ benches) deps d own) [
          | inl parts ↦ elim (contains-append (flags ++ tests) benches d parts) [
            | inl front ↦ elim (contains-append flags tests d front) [
              | inl f ↦ flags-owned owner description.flags is.qual is.below ((and_parts flags_test (flats_test && setup_test) is.finds).0) d f
              | inr t ↦ stanza-owned (has_stanzas packages owner.var && has_kind is_suite description) owner Tests
                  (stanza-known owner (Source source) is_suite Tests is refl) d t
            ]
            | inr b ↦ stanza-owned (has_stanzas packages owner.var && has_kind is_benchmark description) owner Benches
                (stanza-known owner (Source source) is_benchmark Benches is refl) d b
          ]
          | inr f ↦ flat-owned owner allows flats is.qual ((and_parts flats_test setup_test rest).0) d f
        ]
        | inr s ↦ setup-owned owner description.custom allows description.setup is.custom is.qual ((and_parts flats_test setup_test rest).1) d s
      ]
  body-owned owner allows (Installed unit needs) is d h = units-owned owner unit.depends needs is.qual is.finds d h

  part-owned : (owner : Choice) (demands : List Demand) (part : Part) → (part ≡ ThePackage → (d : Demand) → Contains demands d → Owned owner d)
      → (d : Demand) → Contains (part_demands demands part) d → Owned owner d
  part-owned owner demands ThePackage h d k = h refl d k
  part-owned owner demands (Flag f) h d k = absurd (contains-none d k)
  part-owned owner demands Tests h d k = absurd (contains-none d k)
  part-owned owner demands Benches h d k = absurd (contains-none d k)

  demands-are : packages_find packages names ≡ true → (owner : Choice) → IsChoice problem owner → (d : Demand) → Contains (demands_of packages project names owner) d → Owned owner d
  demands-are all owner is =
      let p = owner.var.«package» in
      let entries = entries_of packages p in
      let e = entry_at entries owner.val in
      let below = known-below packages names owner.var is.variable in
      part-owned owner _ owner.var.part (λ part.
      let value : owner.val < length entries = subst (λ k. owner.val < domain_of packages p k) part is.value in
      let there = Contains-get_or entries owner.val no_entry value in
      let finds = all-at (package_finds packages names) (rising (length packages)) p all (rising-has (length packages) p below) in
      body-owned owner (allowed_versions project e.instance) e.body (record {
        qual = known-qual packages names owner.var is.variable;
        below = below;
        finds = all-at (λ (f : Entry). body_finds packages names p f.body) entries e finds there;
        custom = any-from (λ (f : Entry). is_custom f.body) entries e there;
        kinds = λ test. any-from (λ (f : Entry). body_has_kind test f.body) entries e there;
      }))

  pub cabal_lawful : IsTrue (is_lawful packages project names orders) → Lawful (problem_of packages project names orders)
  cabal_lawful h =
      let finds = packages_find packages names in
      let extras = extras_are_found packages project names in
      let front = (and_parts (finds && extras) (are_orders packages orders) h).0 in
      record {
        bounded = record { variables = all_vars packages names; count = omega arith; each = var-in packages names };
        order = λ v known trail choices. part-ordered packages names orders ((and_parts (finds && extras) (are_orders packages orders) h).1) v.qual v.«package» v.part trail
            (λ c among. (All-contains (IsChoice problem) trail c choices among).value) (known-below packages names v known);
        roots = all-where (IsRoot problem) (roots_of packages project names) (roots-are ((and_parts finds extras front).1));
        demands = λ owner is. all-where (IsOwned problem owner) (demands_of packages project names owner) (demands-are ((and_parts finds extras front).0) owner is);
      }
