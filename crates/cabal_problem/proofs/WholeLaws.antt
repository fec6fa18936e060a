-- The problem with whole conditions is lawful.
use Rattle.std.proofs.Common.{◌≡◌, ℕ, ◌<◌, Bool, true, false, ◌&&◌, List, ◌++◌, length, map, refl, sym, ap, ◌∙◌, subst, inl, inr}
use Rattle.std.specs.Prelude.{Contains}
use Rattle.std.specs.List.{filter, list_all}
use Rattle.std.proofs.lemmas.Bool.{and_parts}
use Rattle.std.proofs.lemmas.List.Elements.{All-contains, Contains-get_or}
use Rattle.plan_types.specs.declared.condition.Env.{Env}
use Rattle.plan_types.specs.declared.dependency.Dep.{Dep}
use Rattle.plan_types.specs.declared.dependency.DepKind.TheVariants as kind
use Rattle.plan_types.specs.declared.index.Body.{Body}
use Rattle.plan_types.specs.declared.index.Body.TheVariants.{Source as SourceBody, Installed}
use Rattle.plan_types.specs.declared.index.Entry.{Entry}
use Rattle.plan_types.specs.declared.index.Index.{Index}
use Rattle.plan_types.specs.declared.index.Package.{Package}
use Rattle.plan_types.specs.declared.index.Source.{Source}
use Rattle.plan_types.specs.declared.project.Project.{Project}
use Rattle.plan_types.specs.declared.version.Version.{Version}
use Rattle.conditionals.specs.Paths.{is_wanted}
use Rattle.conditionals.specs.Value.{value}
use Rattle.flatten.specs.WholeCondition.{whole_condition}
use Rattle.flatten.specs.Counting.{are_met, flags_of}
use Rattle.flatten.specs.Demands.{ExternalDep, outward, stanza_of}
use Rattle.flatten.specs.Sound.{IsSound, IsSource, IsBody, component_deps, is_of_components}
use Rattle.qualified_goals.specs.declared.variable.Qual.TheVariants.{Setup}
use Rattle.qualified_goals.specs.declared.variable.Part.{Part}
use Rattle.qualified_goals.specs.declared.variable.Part.TheVariants.{Package as ThePackage, Flag, Tests, Benches}
use Rattle.qualified_goals.specs.Names.{NameTable, AreNumbers}
use Rattle.choice_problem.specs.declared.problem.Choice.{Choice}
use Rattle.choice_problem.specs.declared.problem.Demand.{Demand}
use Rattle.choice_problem.specs.Assignment.{is_made}
use Rattle.choice_problem.specs.Problem.{IsChoice, IsOwned, IsRoot, Lawful}
use Rattle.choice_problem.specs.General.{Request, General, LawfulGeneral, IsOwnedRequest, IsRootRequest, owner_of, request_of}
use Rattle.common_laws.specs.Lists.{contains-none, contains-append, contains-left, contains-map, contains-filter, all-at, any-from, all-where}
use Rattle.solver_index.specs.AllowedVersions.{allowed_versions}
use Rattle.solver_index.specs.Places.{entry_at, no_entry}
use Rattle.cabal_problem.specs.Variables.{domain_of, is_custom, is_qual}
use Rattle.cabal_problem.specs.ListedDemands.{body_demands, demands_of, flat_demands, has_stanzas, part_demands, setup_demands, setup_if, unit_demands}
use Rattle.cabal_problem.specs.Laws.{known-below, known-qual, target-known}
use Rattle.cabal_problem.specs.Lawful.{is_lawful}
use Rattle.cabal_problem.specs.Problem.{problem_of}
use Rattle.cabal_problem.specs.WholeDemands.{body_requests, has_stanza_variable, front_demands, part_requests, parts_under, requests_of, setup_request, setup_requests, whole_problem, whole_request}
use Rattle.cabal_problem.proofs.Findings.{entry-sound, in-component-deps, kind-found, outward-at, outward-package, package-found, setup-found}
use Rattle.choice_problem.proofs.TrailLemmas.{is_made-is}
use Rattle.plan_types.specs.Packages.{entries_of}

module _ (env : Env) (index : Index) (project : Project) (names : NameTable) (orders : List (List ℕ))
    (sound : IsSound env index) (numbers : AreNumbers index.packages names) (is_lawful_problem : Lawful (problem_of index.packages project names orders)) where
  abbrev packages : List Package
  packages = index.packages

  abbrev whole : General
  whole = whole_problem env packages project names orders

  -- an owned demand is owned as a request too
  owned-request : (owner : Choice) (one : Demand) → IsOwned (problem_of packages project names orders) owner one → IsOwnedRequest whole owner (request_of one)
  owned-request owner one is =
      record {
        owner_is = ap owner_of is.condition;
        target = is.target;
        chosen = λ A yes. is_made-is A owner ((and_parts (is_made A owner) (list_all (is_made A) is.others) (sym (ap (λ when. list_all (is_made A) when) is.condition) ∙ yes)).0);
      }

  whole-owned : (owner : Choice) (e : Entry) (allows : Dep → Version → Bool) (source : Source) → is_qual packages names owner.var.qual ≡ true
      → Contains (entries_of packages owner.var.«package») e → e.body ≡ SourceBody source → IsSource env index source
      → (at : ExternalDep) → Contains (outward source.description) at → IsOwnedRequest whole owner (whole_request env packages names owner allows at)
  whole-owned owner e allows source q there body well at h =
      let d = source.description in
      let dep = at.guarded.dep in
      let is = outward-at d at h in
      let found = outward-package index names numbers env source well dep is in
      let comp = all-at (λ (other : Dep). is_of_components other.kind) (component_deps d) is.guarded.dep well.description.component_kinds (in-component-deps d is.component is.guarded is.in_components is.in_deps) in
      let has = kind-found index names numbers owner.var.«package» e source is.guarded is.component is.guarded.dep.kind refl there body is.in_components is.in_deps is.external_is comp
      (subst (λ (other : Dep). Rattle.flatten.specs.Sound.has_package index other.«package» ≡ true) (sym is.dep_is) found) in
      record {
        owner_is = refl;
        target = target-known packages names owner.var dep.kind dep.«package» q (package-found index names numbers dep.«package» found)
            (subst (λ (other : Dep). Rattle.cabal_problem.specs.Lawful.has_qual_for packages names owner.var.«package» other.kind other.«package» ≡ true) is.dep_is has);
        chosen = λ A yes. is_made-is A owner (and_parts (is_made A owner) (are_met (parts_under names owner A) (stanza_of at.component.kind)
            && is_wanted true (value env (flags_of (parts_under names owner A)) (whole_condition at.component at.guarded))) yes).0;
      }

  script-owned : (owner : Choice) (e : Entry) (allows : Dep → Version → Bool) (source : Source) → is_qual packages names owner.var.qual ≡ true
      → (source.description.custom ≡ true → is_qual packages names (Setup owner.var.«package») ≡ true) → IsSource env index source
      → (custom : Bool) → source.description.custom ≡ custom → (r : Request) → Contains (setup_requests custom (map (setup_request packages names owner allows) source.description.setup)) r → IsOwnedRequest whole owner r
  script-owned owner e allows source q has well false same r h = absurd (contains-none r h)
  script-owned owner e allows source q has well true same r h =
      let found = contains-map (setup_request packages names owner allows) source.description.setup r h in
      let dep = found.0 in
      subst (λ s. IsOwnedRequest whole owner s) found.2
      (record {
        owner_is = refl;
        target = target-known packages names owner.var kind.Setup dep.«package» q (setup-found index names numbers env source well dep found.1) (has same);
        chosen = λ A yes. is_made-is A owner yes;
      })

  -- the listed demands of a choice are owned
  abbrev AreOwned : Choice → Type 0
  AreOwned owner = (one : Demand) → Contains (demands_of packages project names owner) one → IsOwned (problem_of packages project names orders) owner one

  abbrev AreBodyOwned : Choice → (Dep → Version → Bool) → Body → Type 0
  AreBodyOwned owner allows body = (one : Demand) → Contains (body_demands packages project names owner allows body) one → IsOwned (problem_of packages project names orders) owner one

  body-requests-owned : (owner : Choice) (e : Entry) (allows : Dep → Version → Bool) (body : Body) → is_qual packages names owner.var.qual ≡ true → Contains (entries_of packages owner.var.«package») e → e.body ≡ body
      → IsBody env index body → AreBodyOwned owner allows body → (r : Request) → Contains (body_requests env packages project names owner allows body) r → IsOwnedRequest whole owner r
  body-requests-owned owner e allows (SourceBody source) q there same well owned r h =
      let d = source.description in
      let front = front_demands packages project names owner d in
      let deps = flat_demands packages names owner allows source.flat in
      let setups = setup_if d.custom (setup_demands packages names owner allows d.setup) in
      let request = whole_request env packages names owner allows in
      let requests = map request (filter (has_stanza_variable (has_stanzas packages owner.var)) (outward d)) in
      let scripts = setup_requests d.custom (map (setup_request packages names owner allows) d.setup) in
      elim (contains-append (requests_of front ++ requests) scripts r h) [
        | inl own ↦ elim (contains-append (requests_of front) requests r own) [
          | inl f ↦
              let one = contains-map request_of front r f in
              subst (λ s. IsOwnedRequest whole owner s) one.2
              (owned-request owner one.0 (owned one.0 (contains-left (front ++ deps) setups one.0 (contains-left front deps one.0 one.1))))
          | inr k ↦
              let at = contains-map request (filter (has_stanza_variable (has_stanzas packages owner.var)) (outward d)) r k in
              subst (λ s. IsOwnedRequest whole owner s) at.2
              (whole-owned owner e allows source q there same well at.0 (contains-filter (has_stanza_variable (has_stanzas packages owner.var)) (outward d) at.0 at.1).0)
        ]
        | inr s ↦
            let has = λ (custom : d.custom ≡ true). any-from (λ (f : Entry). is_custom f.body) (entries_of packages owner.var.«package») e there (ap is_custom same ∙ custom) in
            script-owned owner e allows source q has well d.custom refl r s
      ]
  body-requests-owned owner e allows (Installed unit needs) q there same units owned r h =
      let one = contains-map request_of (unit_demands packages names owner unit.depends needs) r h in
      subst (λ s. IsOwnedRequest whole owner s) one.2 (owned-request owner one.0 (owned one.0 one.1))

  part-requests-owned : (owner : Choice) (requests : List Request) (part : Part) → (part ≡ ThePackage → (r : Request) → Contains requests r → IsOwnedRequest whole owner r)
      → (r : Request) → Contains (part_requests requests part) r → IsOwnedRequest whole owner r
  part-requests-owned owner requests ThePackage h r k = h refl r k
  part-requests-owned owner requests (Flag f) h r k = absurd (contains-none r k)
  part-requests-owned owner requests Tests h r k = absurd (contains-none r k)
  part-requests-owned owner requests Benches h r k = absurd (contains-none r k)

  owned-listed : (owner : Choice) → IsChoice (problem_of packages project names orders) owner → AreOwned owner
  owned-listed owner is one k =
      All-contains (IsOwned (problem_of packages project names orders) owner) (demands_of packages project names owner) one (is_lawful_problem.demands owner is) k

  requests-owned : (owner : Choice) → IsChoice whole owner → (r : Request) → Contains (whole.demands owner) r → IsOwnedRequest whole owner r
  requests-owned owner is =
      let p = owner.var.«package» in
      let e = entry_at (entries_of packages p) owner.val in
      let below = known-below packages names owner.var is.variable in
      let allows = allowed_versions project e.instance in
      part-requests-owned owner (body_requests env packages project names owner allows e.body) owner.var.part (λ part.
      let value : owner.val < length (entries_of packages p) = subst (λ k. owner.val < domain_of packages p k) part is.value in
      let there = Contains-get_or (entries_of packages p) owner.val no_entry value in
      let demands = body_demands packages project names owner allows e.body in
      body-requests-owned owner e allows e.body (known-qual packages names owner.var is.variable) there refl (entry-sound index names numbers env sound p below e there).body
      (λ one k. owned-listed owner (record { variable = is.variable; value = is.value }) one (subst (λ q. Contains (part_demands demands q) one) (sym part) k)))

  pub whole-lawful : LawfulGeneral whole
  whole-lawful = record {
    bounded = record { variables = is_lawful_problem.bounded.variables; count = is_lawful_problem.bounded.count; each = is_lawful_problem.bounded.each };
    order = λ v known trail choices. is_lawful_problem.order v known trail (λ k d below. let c = choices k d below in record { variable = c.variable; value = c.value });
    roots = all-where (IsRootRequest whole) whole.roots (λ r h.
        let one = contains-map request_of (problem_of packages project names orders).roots r h in
        let is = All-contains (IsRoot (problem_of packages project names orders)) (problem_of packages project names orders).roots one.0 is_lawful_problem.roots one.1 in
        subst (λ s. IsRootRequest whole s) one.2 (record { owner = ap owner_of is.condition; target = is.target }));
    demands = λ owner is. all-where (IsOwnedRequest whole owner) (whole.demands owner) (requests-owned owner is);
  }
