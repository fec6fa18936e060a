-- Shared: where a flag has a value its package has one, whose instance asks for it.
use Rattle.std.proofs.Common.{◌≡◌, ◌⊎◌, inl, inr, ℕ, zero, suc, Bool, true, false, ◌&&◌, List, [], ◌∷◌, ◌++◌, length, map, Some, None, refl, sym, ap, ◌∙◌, subst}
use Rattle.std.specs.Prelude.{is_some, nat_lt}
use Rattle.std.specs.List.{Contains, filter, flat_map, list_any}
use Rattle.std.proofs.lemmas.Bool.{and_from, eq-eqb, false≢true, lt-ltb}
use Rattle.std.proofs.lemmas.List.{map-append}
use Rattle.std.proofs.lemmas.List.Elements.{Contains-get_or}
use Rattle.common_laws.specs.Lists.{any-from, contains-append, contains-cases, contains-flat_map, contains-left, contains-map, contains-none, map-contains}
use Rattle.plan_types.specs.Packages.{declared_by, entries_of, package_at}
use Rattle.plan_types.specs.declared.condition.Env.{Env}
use Rattle.plan_types.specs.declared.dependency.Dep.{Dep}
use Rattle.plan_types.specs.declared.description.Description.{Description}
use Rattle.plan_types.specs.declared.description.FlagDecl.{FlagDecl}
use Rattle.plan_types.specs.declared.index.Body.{Body}
use Rattle.plan_types.specs.declared.index.Body.TheVariants.{Source, Installed}
use Rattle.plan_types.specs.declared.index.Entry.{Entry}
use Rattle.plan_types.specs.declared.index.Package.{Package}
use Rattle.plan_types.specs.declared.project.Project.{Project}
use Rattle.plan_types.specs.declared.version.Version.{Version}
use Rattle.flatten.specs.Demands.{outward}
use Rattle.qualified_goals.specs.declared.variable.Part.{Part}
use Rattle.qualified_goals.specs.declared.variable.Part.TheVariants.{Package as ThePackage, Flag, Tests, Benches}
use Rattle.qualified_goals.specs.declared.variable.Qual.{Qual}
use Rattle.qualified_goals.specs.declared.variable.Var.{Var}
use Rattle.qualified_goals.specs.Names.{AreNumbers, NameTable, number_of}
use Rattle.choice_problem.specs.declared.problem.Choice.{Choice}
use Rattle.choice_problem.specs.declared.problem.Demand.{Demand}
use Rattle.choice_problem.specs.Assignment.{Assignment, is_made}
use Rattle.choice_problem.specs.General.{General, Request, request_of}
use Rattle.choice_problem.specs.Holds.{HoldsWithin, IsAsked}
use Rattle.choice_problem.specs.Problem.{IsChoice}
use Rattle.choice_problem.specs.Trail.{choice_of, demands_after, next_var, trail_from, with_next, with_value}
use Rattle.choice_problem.specs.Valid.{IsWholeValid}
use Rattle.choice_problem.proofs.TrailLemmas.{Passes, is_made-from, next-open, open-is, passes-push}
use Rattle.solver_index.specs.AllowedVersions.{allowed_versions}
use Rattle.constraint_set.specs.Bars.{is_number}
use Rattle.solver_index.specs.Places.{entry_at, flag_number, no_entry, rising}
use Rattle.cabal_problem.specs.Laws.{known-below, known-qual}
use Rattle.cabal_problem.specs.ListedDemands.{extra_root, flag_demand, has_stanzas, local_root, local_roots, roots_of, stanza_demand, stanza_if, unit_demand, unit_demands}
use Rattle.cabal_problem.specs.Values.{package_var}
use Rattle.cabal_problem.specs.Variables.{declares, has_kind, is_benchmark, is_qual, is_suite}
use Rattle.cabal_problem.specs.WholeDemands.{body_requests, has_stanza_variable, front_demands, part_requests, requests_of, setup_request, setup_requests, whole_problem, whole_request}
use Rattle.frozen_choices.proofs.OwnNumbers.{declared-number}

-- ---- what opens a variable

-- a variable is the target of a demand of the choices before it, all of which the assignment makes
pub record IsReached (g : General) (A : Assignment) (v : Var) : Type 0 where
  pub before : List Choice
  pub passes : Passes A before
  pub request : Request
  pub member : Contains (demands_after g before) request
  pub target : request.target ≡ v

abbrev vars : List Choice → List Var
vars trail = map (λ (c : Choice). c.var) trail

vars-push : (trail : List Choice) (w : Var) (n : ℕ) (v : Var) → Contains (vars (trail ++ choice_of w n ∷ [])) v → Contains (vars trail) v ⊎ (w ≡ v)
vars-push trail w n v h =
    elim (contains-append (vars trail) (w ∷ []) v (subst (λ l. Contains l v) (map-append (λ (c : Choice). c.var) trail (choice_of w n ∷ [])) h)) [
      | inl l ↦ inl l
      | inr r ↦ elim (contains-cases w [] v r) [ inl e ↦ inr e | inr none ↦ absurd (contains-none v none) ]
    ]

module _ (g : General) (A : Assignment) where
  abbrev IsKnownSo : List Choice → Var → Type 0
  IsKnownSo trail v = Contains (vars trail) v ⊎ IsReached g A v

  opened : (trail : List Choice) (w : Var) → Passes A trail → next_var g trail ≡ Some w → IsReached g A w
  opened trail w passes next =
      let o = open-is g trail w (next-open g trail w next) in
      record { before = trail; passes = passes; request = o.request; member = o.member; target = o.target }

  reached-from : (fuel : ℕ) (trail : List Choice) → Passes A trail → (v : Var) → Contains (vars (trail_from fuel g A trail)) v → IsKnownSo trail v
  reached-from zero trail passes v h = inl h
  reached-from (suc fuel) trail passes v h =
      elim (next_var g trail) as (λ o. next_var g trail ≡ o
      → Contains (vars (with_next o trail (λ w. with_value (A w) trail (λ n. trail_from fuel g A (trail ++ choice_of w n ∷ []))))) v → IsKnownSo trail v) [
        | None ↦ λ next k. inl k
        | Some w ↦ λ next k. elim (A w) as (λ o. A w ≡ o → Contains (vars (with_value o trail (λ n. trail_from fuel g A (trail ++ choice_of w n ∷ [])))) v → IsKnownSo trail v) [
          | None ↦ λ is l. inl l
          | Some n ↦ λ is l. elim (reached-from fuel (trail ++ choice_of w n ∷ []) (passes-push A trail (choice_of w n) passes is) v l) [
            | inl there ↦ elim (vars-push trail w n v there) [
              | inl before ↦ inl before
              | inr same ↦ inr (subst (IsReached g A) same (opened trail w passes next))
            ]
            | inr reached ↦ inr reached
          ]
        ] refl k
      ] refl h

  pub reached : IsWholeValid g A → (v : Var) (n : ℕ) → A v ≡ Some n → IsReached g A v
  reached valid v n is =
      elim (reached-from g.bound [] (λ c k. absurd (contains-none c k)) v ((valid.reached v).0 (ap is_some is))) [
        | inl none ↦ absurd (contains-none v none)
        | inr found ↦ found
      ]

-- ---- which demands are on flags

-- the variable of a flag of a package under a qualifier
abbrev pub flag_var : Qual → ℕ → ℕ → Var
flag_var q p f = record { qual = q; «package» = p; part = Flag f }

-- whether a part is a flag
abbrev is_flag_part : Part → Bool
is_flag_part ThePackage = false
is_flag_part (Flag f) = true
is_flag_part Tests = false
is_flag_part Benches = false

-- a demand is that of an instance for one of the flags that it declares
record AsksFlag (project : Project) (names : NameTable) (owner : Choice) (body : Body) (r : Request) : Type 0 where
  decl : FlagDecl
  declared : Contains (declared_by body) decl
  is : request_of (flag_demand project names owner decl) ≡ r

stanza-is : (there : Bool) (owner : Choice) (stanza : Part) (one : Demand) → Contains (stanza_if there owner stanza) one → stanza_demand owner stanza ≡ one
stanza-is true owner stanza one h = elim (contains-cases (stanza_demand owner stanza) [] one h) [ inl e ↦ e | inr none ↦ absurd (contains-none one none) ]
stanza-is false owner stanza one h = absurd (contains-none one h)

no-flag : {X : Type 0} (r s : Request) → r ≡ s → is_flag_part r.target.part ≡ false → is_flag_part s.target.part ≡ true → X
no-flag r s same other on_flag = absurd (false≢true (sym other ∙ ap (λ (x : Request). is_flag_part x.target.part) same ∙ on_flag))

module _ (env : Env) (packages : List Package) (project : Project) (names : NameTable) (orders : List (List ℕ)) where
  abbrev whole : General
  whole = whole_problem env packages project names orders

  root-asks : (r : Request) → Contains whole.roots r → is_flag_part r.target.part ≡ false
  root-asks r h =
      let extras = map (extra_root packages names) project.extra in
      let found = contains-map request_of (roots_of packages project names) r h in
      elim (contains-append (local_roots packages) extras found.0 found.1) [
        | inl l ↦
            let local = contains-map (local_root packages) (filter (λ p. (package_at packages p).local) (rising (length packages))) found.0 l in
            ap (λ (x : Request). is_flag_part x.target.part) (sym found.2) ∙ ap (λ (x : Demand). is_flag_part x.target.part) (sym local.2)
        | inr k ↦
            let extra = contains-map (extra_root packages names) project.extra found.0 k in
            ap (λ (x : Request). is_flag_part x.target.part) (sym found.2) ∙ ap (λ (x : Demand). is_flag_part x.target.part) (sym extra.2)
      ]

  front-asks : (owner : Choice) (d : Description) (one : Demand) → Contains (front_demands packages project names owner d) one → is_flag_part one.target.part ≡ true
      → (decl : FlagDecl) × Contains d.flags decl × (flag_demand project names owner decl ≡ one)
  front-asks owner d one h on_flag =
      let flags = map (flag_demand project names owner) d.flags in
      let has = has_stanzas packages owner.var in
      let tests = stanza_if (has && has_kind is_suite d) owner Tests in
      let benches = stanza_if (has && has_kind is_benchmark d) owner Benches in
      elim (contains-append (flags ++ tests) benches one h) [
        | inl l ↦ elim (contains-append flags tests one l) [
          | inl flag ↦ contains-map (flag_demand project names owner) d.flags one flag
          | inr test ↦ no-flag (request_of (stanza_demand owner Tests)) (request_of one) (ap request_of (stanza-is (has && has_kind is_suite d) owner Tests one test)) refl on_flag
        ]
        | inr bench ↦
            no-flag (request_of (stanza_demand owner Benches)) (request_of one) (ap request_of (stanza-is (has && has_kind is_benchmark d) owner Benches one bench)) refl on_flag
      ]

  script-asks : (owner : Choice) (allows : Dep → Version → Bool) (d : Description) (custom : Bool) (r : Request)
      → Contains (setup_requests custom (map (setup_request packages names owner allows) d.setup)) r → is_flag_part r.target.part ≡ false
  script-asks owner allows d true r h =
      ap (λ (x : Request). is_flag_part x.target.part) (sym (contains-map (setup_request packages names owner allows) d.setup r h).2)
  script-asks owner allows d false r h = absurd (contains-none r h)

  body-asks : (owner : Choice) (allows : Dep → Version → Bool) (body : Body) (r : Request) → Contains (body_requests env packages project names owner allows body) r
      → is_flag_part r.target.part ≡ true → AsksFlag project names owner body r
  body-asks owner allows (Source source) r h on_flag =
      let d = source.description in
      let front = requests_of (front_demands packages project names owner d) in
      let asked = filter (has_stanza_variable (has_stanzas packages owner.var)) (outward d) in
      let deps = map (whole_request env packages names owner allows) asked in
      let scripts = setup_requests d.custom (map (setup_request packages names owner allows) d.setup) in
      elim (contains-append (front ++ deps) scripts r h) [
        | inl l ↦ elim (contains-append front deps r l) [
          | inl f ↦
              let one = contains-map request_of (front_demands packages project names owner d) r f in
              let flag = front-asks owner d one.0 one.1 (ap (λ (x : Request). is_flag_part x.target.part) one.2 ∙ on_flag) in
              record { decl = flag.0; declared = flag.1; is = ap request_of flag.2 ∙ one.2 }
          | inr k ↦ let at = contains-map (whole_request env packages names owner allows) asked r k in no-flag (whole_request env packages names owner allows at.0) r at.2 refl on_flag
        ]
        | inr s ↦ absurd (false≢true (sym (script-asks owner allows d d.custom r s) ∙ on_flag))
      ]
  body-asks owner allows (Installed unit needs) r h on_flag =
      let one = contains-map request_of (unit_demands packages names owner unit.depends needs) r h in
      let unit_is = contains-map (unit_demand packages names owner unit.depends needs) (rising (length needs)) one.0 one.1 in
      no-flag (request_of (unit_demand packages names owner unit.depends needs unit_is.0)) r (ap request_of unit_is.2 ∙ one.2) refl on_flag

  part-asks : (owner : Choice) (requests : List Request) (part : Part) (r : Request) → Contains (part_requests requests part) r → Contains requests r × (part ≡ ThePackage)
  part-asks owner requests ThePackage r h = (h, refl)
  part-asks owner requests (Flag f) r h = absurd (contains-none r h)
  part-asks owner requests Tests r h = absurd (contains-none r h)
  part-asks owner requests Benches r h = absurd (contains-none r h)

  -- ---- what an instance that is chosen asks for

  declared-among : (owner : Choice) (allows : Dep → Version → Bool) (body : Body) (decl : FlagDecl) → Contains (declared_by body) decl
      → Contains (body_requests env packages project names owner allows body) (request_of (flag_demand project names owner decl))
  declared-among owner allows (Source source) decl h =
      let d = source.description in
      let one = flag_demand project names owner decl in
      let flags = map (flag_demand project names owner) d.flags in
      let has = has_stanzas packages owner.var in
      let tests = stanza_if (has && has_kind is_suite d) owner Tests in
      let benches = stanza_if (has && has_kind is_benchmark d) owner Benches in
      let front = front_demands packages project names owner d in
      let there : Contains front one = contains-left (flags ++ tests) benches one (contains-left flags tests one (map-contains (flag_demand project names owner) d.flags decl h)) in
      let deps = map (whole_request env packages names owner allows) (filter (has_stanza_variable (has_stanzas packages owner.var)) (outward d)) in
      let scripts = setup_requests d.custom (map (setup_request packages names owner allows) d.setup) in
      contains-left (requests_of front ++ deps) scripts (request_of one) (contains-left (requests_of front) deps (request_of one) (map-contains request_of front one there))
  declared-among owner allows (Installed unit needs) decl h = absurd (contains-none decl h)

  -- it asks for a value of each flag that it declares
  pub flag-asked : AreNumbers packages names → (A : Assignment) → HoldsWithin whole whole.known A → (q : Qual) (p i : ℕ) → A (package_var q p) ≡ Some i
      → (decl : FlagDecl) → Contains (declared_by (entry_at (entries_of packages p) i).body) decl
      → IsAsked whole whole.known A (request_of (flag_demand project names (choice_of (package_var q p) i) decl))
  flag-asked numbers A holds q p i chosen decl declared =
      let owner = choice_of (package_var q p) i in
      let is : IsChoice whole owner = holds.assignment.choice owner chosen in
      let below = known-below packages names (package_var q p) is.variable in
      let entries = entries_of packages p in
      let e = entry_at entries i in
      let f = flag_number names decl.name in
      let own : is_number (number_of names.flags decl.name) f ≡ true =
      ap (λ o. is_number o f) (declared-number packages names numbers p i below is.value decl declared) ∙ eq-eqb f f refl in
      let part : list_any (λ (x : Entry). declares names f x.body) entries ≡ true =
      any-from (λ (x : Entry). declares names f x.body) entries e (Contains-get_or entries i no_entry is.value)
      (any-from (λ (other : FlagDecl). is_number (number_of names.flags other.name) f) (declared_by e.body) decl declared own) in
      record {
        demand = inr (owner, is, declared-among owner (allowed_versions project e.instance) e.body decl declared);
        yes = and_from (is_made A owner) true (is_made-from A owner chosen) refl;
        inside = and_from (is_qual packages names q) (nat_lt p (length packages) && list_any (λ (x : Entry). declares names f x.body) entries)
            (known-qual packages names (package_var q p) is.variable)
            (and_from (nat_lt p (length packages)) (list_any (λ (x : Entry). declares names f x.body) entries) (lt-ltb p (length packages) below) part);
      }

  -- ---- where a flag has a value

  -- the instance of its package under its qualifier declares the flag
  pub record IsDeclared (A : Assignment) (q : Qual) (p f : ℕ) : Type 0 where
    pub place : ℕ
    pub chosen : A (package_var q p) ≡ Some place
    pub decl : FlagDecl
    pub declared : Contains (declared_by (entry_at (entries_of packages p) place).body) decl
    pub number_is : flag_number names decl.name ≡ f

  declared-so : (A : Assignment) (q : Qual) (p f : ℕ) (owner : Choice) → A owner.var ≡ Some owner.val → (r : Request) → r.target ≡ flag_var q p f
      → Contains (whole.demands owner) r → IsDeclared A q p f
  declared-so A q p f owner made r target h =
      let e = entry_at (entries_of packages owner.var.«package») owner.val in
      let allows = allowed_versions project e.instance in
      let requests = body_requests env packages project names owner allows e.body in
      let asked = part-asks owner requests owner.var.part r h in
      let flag = body-asks owner allows e.body r asked.0 (ap (λ (v : Var). is_flag_part v.part) target) in
      let beside : (request_of (flag_demand project names owner flag.decl)).target ≡ flag_var q p f = ap (λ (x : Request). x.target) flag.is ∙ target in
      let here : owner.var.«package» ≡ p = ap (λ (v : Var). v.«package») beside in
      let same : owner.var ≡ package_var q p =
      ap (λ part. record { qual = owner.var.qual; «package» = owner.var.«package»; part = part }) asked.1
      ∙ ap (λ n. package_var owner.var.qual n) here ∙ ap (λ k. package_var k p) (ap (λ (v : Var). v.qual) beside) in
      record {
        place = owner.val;
        chosen = ap A (sym same) ∙ made;
        decl = flag.decl;
        declared = subst (λ n. Contains (declared_by (entry_at (entries_of packages n) owner.val).body) flag.decl) here flag.declared;
        number_is = let parts : Flag (flag_number names flag.decl.name) ≡ Flag f = ap (λ (v : Var). v.part) beside in cc parts;
      }

  pub flag-declared : (A : Assignment) → IsWholeValid whole A → (q : Qual) (p f n : ℕ) → A (flag_var q p f) ≡ Some n → IsDeclared A q p f
  flag-declared A valid q p f n is =
      let v = flag_var q p f in
      let found = reached whole A valid v n is in
      elim (contains-append whole.roots (flat_map whole.demands found.before) found.request found.member) [
        | inl root ↦ absurd (false≢true (sym (root-asks found.request root) ∙ ap (λ (w : Var). is_flag_part w.part) found.target))
        | inr own ↦
            let owner = contains-flat_map whole.demands found.before found.request own in
            declared-so A q p f owner.0 (found.passes owner.0 owner.1) found.request found.target owner.2
      ]
