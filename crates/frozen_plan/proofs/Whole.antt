-- The problem of a project with the constraints of a whole valid trail is narrower, and bars no choice of the trail.
use Rattle.std.proofs.Common.{◌≡◌, ℕ, Bool, true, false, not, ◌&&◌, ◌||◌, List, ◌++◌, map, Some, refl, sym, ap, ◌∙◌, subst, inl, inr}
use Rattle.std.specs.List.{AllZip, Contains, filter, list_any}
use Rattle.std.proofs.lemmas.Bool.{and_parts, false≢true, or_cases, or_left, or_right}
use Rattle.plan_types.specs.Packages.{declared_by}
use Rattle.plan_types.specs.declared.condition.Env.{Env}
use Rattle.plan_types.specs.declared.constraint.Constraint.{Constraint}
use Rattle.plan_types.specs.declared.dependency.Dep.{Dep}
use Rattle.plan_types.specs.declared.description.FlagDecl.{FlagDecl}
use Rattle.plan_types.specs.declared.index.Body.{Body}
use Rattle.plan_types.specs.declared.index.Body.TheVariants.{Installed, Source}
use Rattle.plan_types.specs.declared.index.Index.{Index}
use Rattle.plan_types.specs.declared.index.Instance.{Instance}
use Rattle.plan_types.specs.declared.index.Package.{Package}
use Rattle.plan_types.specs.declared.project.Project.{Project}
use Rattle.plan_types.specs.declared.version.Version.{Version}
use Rattle.conditionals.specs.Paths.{is_same}
use Rattle.flatten.specs.Demands.{outward}
use Rattle.flatten.specs.Sound.{IsSound}
use Rattle.qualified_goals.specs.declared.variable.Part.{Part}
use Rattle.qualified_goals.specs.declared.variable.Part.TheVariants.{Benches, Flag, Package as ThePackage, Tests}
use Rattle.qualified_goals.specs.declared.variable.Var.{Var}
use Rattle.qualified_goals.specs.Names.{AreNumbers, NameTable}
use Rattle.choice_problem.specs.declared.problem.Choice.{Choice}
use Rattle.choice_problem.specs.declared.problem.Demand.{Demand}
use Rattle.choice_problem.specs.Assignment.{is_made}
use Rattle.choice_problem.specs.General.{General, Request, request_of}
use Rattle.choice_problem.specs.Trail.{AreNew, value_in}
use Rattle.choice_problem.specs.Valid.{IsWholeValid}
use Rattle.choice_problem.proofs.TrailLemmas.{is_made-is, value_in-made}
use Rattle.constraint_set.specs.Bars.{requires_value, excludes, is_boot, applies, is_on, names_flag, requires_stanza}
use Rattle.solver_index.specs.AllowedVersions.{allowed_versions}
use Rattle.solver_index.specs.Places.{flag_number}
use Rattle.cabal_problem.specs.ListedDemands.{flag_allows, flag_demand, has_stanzas, part_beside, stanza_if}
use Rattle.cabal_problem.specs.Problem.{barred_part}
use Rattle.cabal_problem.specs.Variables.{has_kind, is_benchmark, is_on as value_on, is_suite}
use Rattle.cabal_problem.specs.WholeDemands.{body_requests, has_stanza_variable, front_demands, part_requests, requests_of, setup_request, setup_requests, whole_problem, whole_request}
use Rattle.freeze_text.specs.Reads.{IsUnion, with_constraints}
use Rattle.frozen_choices.specs.Barred.{BarsNone, bars_choice}
use Rattle.frozen_choices.specs.Frozen.{entry_of, frozen}
use Rattle.frozen_plan.specs.Narrower.{AddsNothing, BarsNoneOf, IsNarrowed, IsNarrower, StaysFirst}
use Rattle.frozen_plan.proofs.FlagValues.{one-among}
use Rattle.frozen_plan.proofs.Lists.{zip-append, zip-map, zip-mapped, zip-self}
use Rattle.frozen_plan.proofs.Narrowed.{stays-first, valid-back}
use Rattle.frozen_plan.proofs.NoOther.{no-other}

-- more constraints bar more

fewer : (a b c : Bool) → (a ≡ true → b ≡ true) → (b || c) ≡ false → (a || c) ≡ false
fewer true b c more h = absurd (false≢true (sym h ∙ or_left b c (more refl)))
fewer false true c more h = absurd (false≢true (sym h))
fewer false false c more h = h

-- and nothing but what the first bar, or the others
none-more : (all some others rest : Bool) → all ≡ (some || others) → (some || rest) ≡ false → others ≡ false → (all || rest) ≡ false
none-more all true others rest is h k = absurd (false≢true (sym h))
none-more all false true rest is h k = absurd (false≢true (sym k))
none-more all false false rest is h k = ap (λ b. b || rest) is ∙ h

-- constraints that the project has besides
module _ (packages : List Package) (project : Project) (names : NameTable) (ks all : List Constraint) (union : IsUnion all project.constraints ks) where
  abbrev more : Project
  more = with_constraints all project

  -- a test that some constraint of the project passes
  own-passes : (test : Constraint → Bool) → list_any test project.constraints ≡ true → list_any test all ≡ true
  own-passes test h = union test ∙ or_left (list_any test project.constraints) (list_any test ks) h

  -- what excludes the instance of a choice, and what asks for the other value of a part
  abbrev excluding : Choice → Constraint → Bool
  excluding c k = applies names k c.var && excludes k.what (entry_of packages c).instance

  abbrev asking : Choice → Constraint → Bool
  asking c k = applies names k c.var && requires_value names k.what c.var.part (not (value_on c.val))

  abbrev wanted : Choice → Bool
  wanted c = requires_stanza project.tests project.benchmarks c.var.part && not (value_on c.val)

  fewer-of : (test : Constraint → Bool) (rest : Bool) → (list_any test all || rest) ≡ false → (list_any test project.constraints || rest) ≡ false
  fewer-of test rest h = fewer (list_any test project.constraints) (list_any test all) rest (own-passes test) h

  none-of : (test : Constraint → Bool) (rest : Bool) → (list_any test project.constraints || rest) ≡ false → list_any test ks ≡ false → (list_any test all || rest) ≡ false
  none-of test rest h k = none-more (list_any test all) (list_any test project.constraints) (list_any test ks) rest (union test) h k

  fewer-barred : (c : Choice) (part : Part) → barred_part packages more names c part ≡ false → barred_part packages project names c part ≡ false
  fewer-barred c ThePackage h = fewer-of (excluding c) (is_boot project (entry_of packages c).instance) h
  fewer-barred c (Flag f) h = fewer-of (asking c) (wanted c) h
  fewer-barred c Tests h = fewer-of (asking c) (wanted c) h
  fewer-barred c Benches h = fewer-of (asking c) (wanted c) h

  none-barred : (c : Choice) (part : Part) → barred_part packages project names c part ≡ false → bars_choice packages names ks c part ≡ false → barred_part packages more names c part ≡ false
  none-barred c ThePackage h k = none-of (excluding c) (is_boot project (entry_of packages c).instance) h k
  none-barred c (Flag f) h k = none-of (asking c) (wanted c) h k
  none-barred c Tests h k = none-of (asking c) (wanted c) h k
  none-barred c Benches h k = none-of (asking c) (wanted c) h k

  -- a flag may have each value that it may have without them
  allows-more : (v : Var) (decl : FlagDecl) (on : Bool) → flag_allows project names v decl on ≡ true → flag_allows more names v decl on ≡ true
  allows-more v decl on h =
      let test = λ (k : Constraint). is_on names k v.«package» && requires_value names k.what v.part on in
      let front = not decl.manual || is_same decl.default on in
      elim (or_cases front (names_flag project names v on) h) [
        | inl default ↦ or_left front (names_flag more names v on) default
        | inr named ↦ or_right front (names_flag more names v on) (own-passes test named)
      ]

  -- ranges are relaxed alike
  allows-same : (i : Instance) → allowed_versions project i ≡ allowed_versions more i
  unfolding allowed_versions
  allows-same i = refl

-- a demand is the same where it doesn't read constraints
same : (h : General) (r : Request) → IsNarrowed h r r
same h r = record {
  owner = refl;
  target = refl;
  yes = λ A. refl;
  allows = λ n k. k;
  no_other = λ A unbarred yes met. met;
}

module _ (env : Env) (index : Index) (project : Project) (names : NameTable) (orders : List (List ℕ)) (trail : List Choice) (sound : IsSound env index)
    (numbers : AreNumbers index.packages names) (new : AreNew trail) (valid : IsWholeValid (whole_problem env index.packages project names orders) (value_in trail))
    (all : List Constraint) (union : IsUnion all project.constraints (frozen index.packages names trail)) where
  abbrev packages : List Package
  packages = index.packages

  abbrev ks : List Constraint
  ks = frozen packages names trail

  abbrev frozen_project : Project
  frozen_project = with_constraints all project

  abbrev g : General
  g = whole_problem env index.packages project names orders

  abbrev h : General
  h = whole_problem env index.packages (with_constraints all project) names orders

  flag-narrowed : (owner : Choice) → owner.var.part ≡ ThePackage → (decl : FlagDecl) → Contains (declared_by (entry_of packages owner).body) decl
      → IsNarrowed h (request_of (flag_demand project names owner decl)) (request_of (flag_demand frozen_project names owner decl))
  flag-narrowed owner is decl declared =
      let v = part_beside owner (Flag (flag_number names decl.name)) in
      record {
        owner = refl;
        target = refl;
        yes = λ A. refl;
        allows = λ n k. one-among project frozen_project names v decl (allows-more packages project names ks all union v decl) (Some n) k;
        no_other = λ A unbarred yes met.
            let made = is_made-is A owner (and_parts (is_made A owner) true yes).0 in
            let free = subst (λ part. barred_part packages frozen_project names owner part ≡ false) is (unbarred owner made) in
            one-among frozen_project project names v decl (no-other env index project names orders trail sound numbers new valid.holds all union owner decl declared free) (A v) met;
      }

  -- what an instance asks for
  body-narrowed : (owner : Choice) (allows : Dep → Version → Bool) (body : Body)
      → ((decl : FlagDecl) → Contains (declared_by body) decl → IsNarrowed h (request_of (flag_demand project names owner decl)) (request_of (flag_demand frozen_project names owner decl)))
      → AllZip (IsNarrowed h) (body_requests env packages project names owner allows body) (body_requests env packages frozen_project names owner allows body)
  body-narrowed owner allows (Source source) flags =
      let d = source.description in
      let R = IsNarrowed h in
      let S = λ (a b : Demand). R (request_of a) (request_of b) in
      let tests = stanza_if (has_stanzas packages owner.var && has_kind is_suite d) owner Tests in
      let benches = stanza_if (has_stanzas packages owner.var && has_kind is_benchmark d) owner Benches in
      let own = flag_demand project names owner in
      let also = flag_demand frozen_project names owner in
      let of_flags = zip-map S own also d.flags flags in
      let with_tests = zip-append S (map own d.flags) (map also d.flags) tests tests of_flags (zip-self S tests (λ x. same h (request_of x))) in
      let with_benches = zip-append S (map own d.flags ++ tests) (map also d.flags ++ tests) benches benches with_tests (zip-self S benches (λ x. same h (request_of x))) in
      let front = front_demands packages project names owner d in
      let front_also = front_demands packages frozen_project names owner d in
      let as_requests = zip-mapped R request_of front front_also with_benches in
      let deps = map (whole_request env packages names owner allows) (filter (has_stanza_variable (has_stanzas packages owner.var)) (outward d)) in
      let scripts = setup_requests d.custom (map (setup_request packages names owner allows) d.setup) in
      zip-append R (requests_of front ++ deps) (requests_of front_also ++ deps) scripts scripts
      (zip-append R (requests_of front) (requests_of front_also) deps deps as_requests (zip-self R deps (same h))) (zip-self R scripts (same h))
  body-narrowed owner allows (Installed unit needs) flags = zip-self (IsNarrowed h) (body_requests env packages project names owner allows (Installed unit needs)) (same h)

  -- what a part asks for
  part-narrowed : (own also : List Request) (part : Part) → (part ≡ ThePackage → AllZip (IsNarrowed h) own also) → AllZip (IsNarrowed h) (part_requests own part) (part_requests also part)
  part-narrowed own also ThePackage zip = zip refl
  part-narrowed own also (Flag f) zip = tt
  part-narrowed own also Tests zip = tt
  part-narrowed own also Benches zip = tt

  demands-narrowed : (owner : Choice) → AllZip (IsNarrowed h) (g.demands owner) (h.demands owner)
  demands-narrowed owner =
      let e = entry_of packages owner in
      let own = body_requests env packages project names owner (allowed_versions project e.instance) e.body in
      let also = body_requests env packages frozen_project names owner (allowed_versions frozen_project e.instance) e.body in
      part-narrowed own also owner.var.part (λ is.
      subst (λ (allows : Dep → Version → Bool). AllZip (IsNarrowed h) own (body_requests env packages frozen_project names owner allows e.body)) (allows-same packages project names ks all union e.instance)
      (body-narrowed owner (allowed_versions project e.instance) e.body (flag-narrowed owner is)))

  pub narrower : IsNarrower g h
  narrower = record {
    bound = refl;
    known = refl;
    domain = refl;
    order = refl;
    barred = λ c free. fewer-barred packages project names ks all union c c.var.part free;
    roots = zip-self (IsNarrowed h) g.roots (same h);
    demands = demands-narrowed;
  }

  pub adds-nothing : AddsNothing g h
  adds-nothing = valid-back g h narrower

  module _ (bars_none : BarsNone packages names ks trail) where
    unbarred : BarsNoneOf h (value_in trail)
    unbarred c made = none-barred packages project names ks all union c c.var.part (valid.holds.unbarred c made) (bars_none c (value_in-made trail c.var c.val made))

    pub first-too : StaysFirst g h (value_in trail)
    first-too = stays-first g h narrower (value_in trail) unbarred
