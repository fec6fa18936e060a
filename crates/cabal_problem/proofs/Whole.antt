-- The listed demands are the groups of those with whole conditions.
use Rattle.std.proofs.Common.{◌≡◌, ℕ, zero, suc, ◌<◌, Bool, true, false, cond, ◌&&◌, ◌||◌, nat_eq, List, [], ◌∷◌, ◌++◌, length, map, Some, None, refl, sym, ap, ◌∙◌, subst, inl, inr, arith}
use Rattle.std.specs.Prelude.{Option, Contains}
use Rattle.std.specs.List.{filter, flat_map, list_all, list_any}
use Rattle.std.proofs.lemmas.Bool.{false≢true, eqb-true, and_right}
use Rattle.std.proofs.lemmas.List.{map-append}
use Rattle.std.proofs.lemmas.List.Elements.{Contains-get_or, filter-append}
use Rattle.std.specs.Cmp.{both_ways}
use Rattle.std.proofs.Math.Bool.{and-or_distrib_left}
use Rattle.plan_types.specs.declared.condition.Env.{Env}
use Rattle.plan_types.specs.declared.dependency.Dep.{Dep}
use Rattle.plan_types.specs.declared.description.CompKind.{CompKind}
use Rattle.plan_types.specs.declared.index.Body.{Body}
use Rattle.plan_types.specs.declared.index.Body.TheVariants.{Source, Installed}
use Rattle.plan_types.specs.declared.index.Entry.{Entry}
use Rattle.plan_types.specs.declared.index.FlatDep.{FlatDep}
use Rattle.plan_types.specs.declared.index.Index.{Index}
use Rattle.plan_types.specs.declared.index.Literal.{Literal}
use Rattle.plan_types.specs.declared.index.Package.{Package}
use Rattle.plan_types.specs.declared.project.Project.{Project}
use Rattle.plan_types.specs.declared.version.Version.{Version}
use Rattle.conditionals.specs.Paths.{Path, clean_paths, is_wanted, has_setting}
use Rattle.conditionals.specs.Value.{value}
use Rattle.flatten.specs.WholeCondition.{whole_condition}
use Rattle.flatten.specs.Counting.{Parts, flags_of, are_met}
use Rattle.flatten.specs.Demands.{ExternalDep, outward, paths_at, flat_of, literal_of, stanza_of, demands_at}
use Rattle.flatten.specs.Sound.{IsSound, IsBody}
use Rattle.qualified_goals.specs.declared.variable.Part.{Part}
use Rattle.qualified_goals.specs.declared.variable.Part.TheVariants.{Package as ThePackage, Flag, Tests, Benches}
use Rattle.qualified_goals.specs.Names.{NameTable, AreNumbers}
use Rattle.choice_problem.specs.declared.problem.Choice.{Choice}
use Rattle.choice_problem.specs.declared.problem.Demand.{Demand}
use Rattle.choice_problem.specs.Assignment.{Assignment, is_one_of, is_made, is_yes}
use Rattle.choice_problem.specs.Problem.{IsChoice, IsDemand}
use Rattle.choice_problem.specs.General.{Request, General, request_of, general}
use Rattle.choice_problem.specs.Joined.{HasYes, AreYesTogether}
use Rattle.common_laws.specs.Lists.{contains-map, map-contains, all-append}
use Rattle.solver_index.specs.Places.{entry_at, no_entry}
use Rattle.solver_index.specs.Dependencies.{bit, part_of}
use Rattle.solver_index.specs.AllowedVersions.{allowed_versions}
use Rattle.cabal_problem.specs.Variables.{domain_of}
use Rattle.cabal_problem.specs.ListedDemands.{part_beside, choice_beside, has_part, has_stanzas, can_count, flat_demand, flat_demands, setup_demand, setup_demands, setup_if, body_demands, part_demands, roots_of, unit_demands}
use Rattle.cabal_problem.specs.Laws.{known-below}
use Rattle.cabal_problem.specs.Problem.{problem_of}
use Rattle.cabal_problem.specs.WholeDemands.{as_setting, parts_under, whole_request, has_stanza_variable, requests_of, front_demands, setup_request, setup_requests, body_requests, part_requests, whole_problem}
use Rattle.cabal_problem.specs.Groups.{AreGroups, IsOfRequest, IsGroup, IsInGroups}
use Rattle.cabal_problem.proofs.Findings.{entry-sound}
use Rattle.cabal_problem.proofs.GroupLaws.{groups-append, groups-same, listed-there, one-same, requested-there}
use Rattle.plan_types.specs.Packages.{entries_of}

-- ---- what an assignment makes

value-has_setting : (o : Option ℕ) (on : Bool) → is_one_of o (bit on ∷ []) ≡ has_setting (as_setting o) on
value-has_setting None on = refl
value-has_setting (Some zero) true = refl
value-has_setting (Some zero) false = refl
value-has_setting (Some (suc zero)) true = refl
value-has_setting (Some (suc zero)) false = refl
value-has_setting (Some (suc (suc n))) true =
    both_ways (nat_eq (suc (suc n)) 1 || false) false (λ h. elim (nat_eq (suc (suc n)) 1) as (λ b. nat_eq (suc (suc n)) 1 ≡ b → b || false ≡ true → false ≡ true) [
      | true ↦ λ e k. let same = eqb-true (suc (suc n)) 1 e in absurd (omega (arith, same))
      | false ↦ λ e k. k
    ] refl h) (λ h. absurd (false≢true h))
value-has_setting (Some (suc (suc n))) false =
    both_ways (nat_eq (suc (suc n)) 0 || false) false (λ h. elim (nat_eq (suc (suc n)) 0) as (λ b. nat_eq (suc (suc n)) 0 ≡ b → b || false ≡ true → false ≡ true) [
      | true ↦ λ e k. let same = eqb-true (suc (suc n)) 0 e in absurd (omega (arith, same))
      | false ↦ λ e k. k
    ] refl h) (λ h. absurd (false≢true h))

literals-met : (names : NameTable) (owner : Choice) (A : Assignment) (literals : List Literal)
    → list_all (is_made A) (map (choice_beside names owner) literals) ≡ are_met (parts_under names owner A) literals
literals-met names owner A [] = refl
literals-met names owner A (l ∷ literals) =
    ap (λ b. b && list_all (is_made A) (map (choice_beside names owner) literals)) (value-has_setting (A (part_beside owner (part_of names l.part))) l.on)
    ∙ ap (λ b. has_setting (parts_under names owner A l.part) l.on && b) (literals-met names owner A literals)

-- ---- what can count

flags-count : (stanzas : Bool) (path : Path) → list_all (λ literal. has_part stanzas literal.part) (map literal_of path) ≡ true
flags-count stanzas [] = refl
flags-count stanzas (s ∷ path) = flags-count stanzas path

and-true : (b c : Bool) → c ≡ true → b && c ≡ b
and-true true c h = h
and-true false c h = refl

count-as-asked : (stanzas : Bool) (k : CompKind) (dep : Dep) (path : Path) → can_count stanzas (flat_of k dep path) ≡ list_all (λ literal. has_part stanzas literal.part) (stanza_of k)
count-as-asked stanzas k dep path =
    all-append (λ (literal : Literal). has_part stanzas literal.part) (stanza_of k) (map literal_of path)
    ∙ and-true (list_all (λ literal. has_part stanzas literal.part) (stanza_of k)) (list_all (λ literal. has_part stanzas literal.part) (map literal_of path)) (flags-count stanzas path)

-- ---- groups

none-kept : (b : Bool) (flats : List FlatDep) → flats ≡ [] → flats ≡ cond b flats []
none-kept true flats h = refl
none-kept false flats h = h

more-kept : (b : Bool) (flat : FlatDep) (flats : List FlatDep) → cond b (flat ∷ cond b flats []) (cond b flats []) ≡ cond b (flat ∷ flats) []
more-kept true flat flats = refl
more-kept false flat flats = refl

alone-is : (b : Bool) → b ≡ (b && true) || false
alone-is true = refl
alone-is false = refl

module _ (env : Env) (index : Index) (project : Project) (names : NameTable) (orders : List (List ℕ)) (sound : IsSound env index) (numbers : AreNumbers index.packages names)
    (counts : (at : ExternalDep) (parts : Parts) → list_any (λ flat. are_met parts flat.when) (demands_at env at)
    ≡ (are_met parts (stanza_of at.component.kind) && is_wanted true (value env (flags_of parts) (whole_condition at.component at.guarded)))) where
  abbrev packages : List Package
  packages = index.packages

  -- ---- a dependency

  module _ (owner : Choice) (allows : Dep → Version → Bool) where
    abbrev stanzas : Bool
    stanzas = has_stanzas packages owner.var

    abbrev request : ExternalDep → Request
    request at = whole_request env packages names owner allows at

    abbrev demand : FlatDep → Demand
    demand flat = flat_demand packages names owner allows flat

    yes-is : (A : Assignment) (flat : FlatDep) → is_yes A (demand flat) ≡ is_made A owner && are_met (parts_under names owner A) flat.when
    yes-is A flat = ap (λ b. is_made A owner && b) (literals-met names owner A flat.when)

    any-yes : (A : Assignment) (flats : List FlatDep) → list_any (is_yes A) (map demand flats) ≡ is_made A owner && list_any (λ flat. are_met (parts_under names owner A) flat.when) flats
    any-yes A [] = sym (and_right (is_made A owner) false refl)
    any-yes A (flat ∷ flats) =
        (λ i. yes-is A flat i || any-yes A flats i)
        ∙ sym (and-or_distrib_left (is_made A owner) (are_met (parts_under names owner A) flat.when) (list_any (λ f. are_met (parts_under names owner A) f.when) flats))

    -- each entry of a dependency has its owner, target and values
    entry-same : (at : ExternalDep) (d : Demand) → Contains (map demand (demands_at env at)) d → IsOfRequest (request at) d
    entry-same at d h =
        let found = contains-map demand (demands_at env at) d h in
        let path = contains-map (flat_of at.component.kind at.guarded.dep) (clean_paths (paths_at env at)) found.0 found.1 in
        subst (IsOfRequest (request at)) (ap demand path.2 ∙ found.2) (record { owner = refl; target = refl; allowed = refl })

    group : (at : ExternalDep) → IsGroup (request at) (map demand (demands_at env at))
    group at = record {
      same = entry-same at;
      yes = λ A. sym (any-yes A (demands_at env at) ∙ ap (λ b. is_made A owner && b) (counts at (parts_under names owner A)));
    }

    -- either all paths of a dependency can count, or none can
    paths-kept : (k : CompKind) (dep : Dep) (paths : List Path) → filter (can_count stanzas) (map (flat_of k dep) paths) ≡ cond (list_all (λ literal. has_part stanzas literal.part) (stanza_of k)) (map (flat_of k dep) paths) []
    paths-kept k dep [] = none-kept (list_all (λ literal. has_part stanzas literal.part) (stanza_of k)) [] refl
    paths-kept k dep (path ∷ paths) =
        let flat = flat_of k dep path in
        let rest = map (flat_of k dep) paths in
        let asked = list_all (λ (literal : Literal). has_part stanzas literal.part) (stanza_of k) in
        (λ i. cond (count-as-asked stanzas k dep path i) (flat ∷ paths-kept k dep paths i) (paths-kept k dep paths i)) ∙ more-kept asked flat rest

    entries-kept : (at : ExternalDep) → filter (can_count stanzas) (demands_at env at) ≡ cond (has_stanza_variable stanzas at) (demands_at env at) []
    entries-kept at = paths-kept at.component.kind at.guarded.dep (clean_paths (paths_at env at))

    deps-grouped : (ats : List ExternalDep) → AreGroups (map request (filter (has_stanza_variable stanzas) ats)) (map demand (filter (can_count stanzas) (flat_map (demands_at env) ats)))
    deps-grouped [] = refl
    deps-grouped (at ∷ ats) =
        let asking = filter (has_stanza_variable stanzas) ats in
        let rest = filter (can_count stanzas) (flat_map (demands_at env) ats) in
        let split =
        ap (map demand) (filter-append (can_count stanzas) (demands_at env at) (flat_map (demands_at env) ats) ∙ ap (λ l. l ++ rest) (entries-kept at))
        ∙ map-append demand (cond (has_stanza_variable stanzas at) (demands_at env at) []) rest in
        subst (λ (l : List Demand). AreGroups (map request (cond (has_stanza_variable stanzas at) (at ∷ asking) asking)) l) (sym split)
        (elim (has_stanza_variable stanzas at) as (λ b. AreGroups (map request (cond b (at ∷ asking) asking)) (map demand (cond b (demands_at env at) []) ++ map demand rest)) [
          | true ↦ (map demand (demands_at env at), map demand rest, refl, group at, deps-grouped ats)
          | false ↦ deps-grouped ats
        ])

    -- ---- the setup script

    abbrev set_up : Dep → Request
    set_up dep = setup_request packages names owner allows dep

    abbrev script : Dep → Demand
    script dep = setup_demand packages names owner allows dep

    script-group : (dep : Dep) → IsGroup (set_up dep) (script dep ∷ [])
    script-group dep = record {
      same = λ d h. one-same (set_up dep) (script dep) d (record { owner = refl; target = refl; allowed = refl }) h;
      yes = λ A. alone-is (is_made A owner);
    }

    scripts-grouped : (deps : List Dep) → AreGroups (map set_up deps) (map script deps)
    scripts-grouped [] = refl
    scripts-grouped (dep ∷ deps) = (script dep ∷ [], map script deps, refl, script-group dep, scripts-grouped deps)

    setup-grouped : (custom : Bool) (deps : List Dep) → AreGroups (setup_requests custom (map set_up deps)) (setup_if custom (setup_demands packages names owner allows deps))
    setup-grouped true deps = scripts-grouped deps
    setup-grouped false deps = refl

  -- ---- an instance

  body-grouped : (owner : Choice) (allows : Dep → Version → Bool) (body : Body) → IsBody env index body → AreGroups (body_requests env packages project names owner allows body) (body_demands packages project names owner allows body)
  body-grouped owner allows (Source source) is =
      let d = source.description in
      let front = front_demands packages project names owner d in
      let requests = map (whole_request env packages names owner allows) (filter (has_stanza_variable (has_stanzas packages owner.var)) (outward d)) in
      let deps = subst (λ l. AreGroups requests (flat_demands packages names owner allows l)) (sym is.demands) (deps-grouped owner allows (outward d)) in
      groups-append (requests_of front ++ requests) (setup_requests d.custom (map (setup_request packages names owner allows) d.setup))
      (front ++ flat_demands packages names owner allows source.flat) (setup_if d.custom (setup_demands packages names owner allows d.setup))
      (groups-append (requests_of front) requests front (flat_demands packages names owner allows source.flat) (groups-same front) deps)
      (setup-grouped owner allows d.custom d.setup)
  body-grouped owner allows (Installed unit needs) units = groups-same (unit_demands packages names owner unit.depends needs)

  part-grouped : (requests : List Request) (demands : List Demand) (part : Part) → (part ≡ ThePackage → AreGroups requests demands) → AreGroups (part_requests requests part) (part_demands demands part)
  part-grouped requests demands ThePackage h = h refl
  part-grouped requests demands (Flag f) h = refl
  part-grouped requests demands Tests h = refl
  part-grouped requests demands Benches h = refl

  -- ---- both problems

  abbrev whole : General
  whole = whole_problem env packages project names orders

  abbrev searched : General
  searched = general (problem_of packages project names orders)

  -- the instance that an owner chooses
  abbrev entry : Choice → Entry
  entry owner = entry_at (entries_of packages owner.var.«package») owner.val

  chosen-at : (owner : Choice) → IsChoice searched owner → owner.var.part ≡ ThePackage → IsBody env index (entry owner).body
  chosen-at owner is part =
      let p = owner.var.«package» in
      let below = known-below packages names owner.var is.variable in
      let value : owner.val < length (entries_of packages p) = subst (λ k. owner.val < domain_of packages p k) part is.value in
      (entry-sound index names numbers env sound p below (entry owner) (Contains-get_or (entries_of packages p) owner.val no_entry value)).body

  demands-grouped : (owner : Choice) → IsChoice searched owner → AreGroups (whole.demands owner) ((problem_of packages project names orders).demands owner)
  demands-grouped owner is =
      let e = entry owner in
      let allows = allowed_versions project e.instance in
      part-grouped (body_requests env packages project names owner allows e.body) (body_demands packages project names owner allows e.body) owner.var.part
      (λ part. body-grouped owner allows e.body (chosen-at owner is part))

  pub in-groups : IsInGroups (whole_problem env index.packages project names orders) (problem_of index.packages project names orders)
  in-groups = record {
    roots = groups-same (roots_of packages project names);
    demands = λ owner is. demands-grouped owner (record { variable = is.variable; value = is.value });
  }

  yes-there : (A : Assignment) (r : Request) → IsDemand whole r → r.is_yes A ≡ true → HasYes searched A r
  yes-there A r (inl root) holds = record { other = r; demand = inl root; owner = refl; target = refl; allowed = refl; yes = holds }
  yes-there A r (inr owned) holds =
      let owner = owned.0 in
      let demands = (problem_of packages project names orders).demands owner in
      let is : IsChoice searched owner = record { variable = owned.1.variable; value = owned.1.value } in
      let found = listed-there A r (whole.demands owner) demands (demands-grouped owner is) owned.2 holds in
      record {
        other = request_of found.demand;
        demand = inr (owner, is, map-contains request_of demands found.demand found.there);
        owner = found.same.owner;
        target = found.same.target;
        allowed = found.same.allowed;
        yes = found.yes;
      }

  yes-back : (A : Assignment) (r : Request) → IsDemand searched r → r.is_yes A ≡ true → HasYes whole A r
  yes-back A r (inl root) holds = record { other = r; demand = inl root; owner = refl; target = refl; allowed = refl; yes = holds }
  yes-back A r (inr owned) holds =
      let owner = owned.0 in
      let demands = (problem_of packages project names orders).demands owner in
      let one = contains-map request_of demands r owned.2 in
      let holds_one = ap (λ (s : Request). s.is_yes A) one.2 ∙ holds in
      let found = requested-there A one.0 (whole.demands owner) demands (demands-grouped owner owned.1) one.1 holds_one in
      subst (λ s. HasYes whole A s) one.2
      (record {
        other = found.request;
        demand = inr (owner, record { variable = owned.1.variable; value = owned.1.value }, found.there);
        owner = sym found.same.owner;
        target = sym found.same.target;
        allowed = sym found.same.allowed;
        yes = found.yes;
      })

  pub yes-together : AreYesTogether (whole_problem env index.packages project names orders) (general (problem_of index.packages project names orders))
  yes-together = record { bound = refl; known = refl; domain = refl; order = refl; barred = refl; there = yes-there; back = yes-back }
