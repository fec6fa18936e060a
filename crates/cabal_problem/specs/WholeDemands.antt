-- Demands with whole conditions. A dependency has one, which is Yes if its component's stanza is on and its whole
-- condition is Yes.
use Rattle.std.specs.Prelude.{ℕ, zero, suc, Bool, true, false, ◌&&◌, List, [], ◌++◌, map, filter, Option, Some, None}
use Rattle.std.specs.List.{list_all}
use Rattle.plan_types.specs.declared.condition.Env.{Env}
use Rattle.plan_types.specs.declared.dependency.Dep.{Dep}
use Rattle.plan_types.specs.declared.dependency.DepKind.TheVariants as kind
use Rattle.plan_types.specs.declared.description.Description.{Description}
use Rattle.plan_types.specs.declared.index.Body.{Body}
use Rattle.plan_types.specs.declared.index.Body.TheVariants.{Source, Installed}
use Rattle.plan_types.specs.declared.index.Package.{Package}
use Rattle.plan_types.specs.declared.project.Project.{Project}
use Rattle.plan_types.specs.declared.version.Version.{Version}
use Rattle.conditionals.specs.Paths.{is_wanted}
use Rattle.conditionals.specs.Value.{value}
use Rattle.flatten.specs.WholeCondition.{whole_condition}
use Rattle.flatten.specs.Counting.{Parts, flags_of, are_met}
use Rattle.flatten.specs.Demands.{ExternalDep, outward, stanza_of}
use Rattle.qualified_goals.specs.declared.variable.Part.{Part}
use Rattle.qualified_goals.specs.declared.variable.Part.TheVariants.{Package as ThePackage, Flag, Tests, Benches}
use Rattle.qualified_goals.specs.Names.{NameTable}
use Rattle.choice_problem.specs.declared.problem.Choice.{Choice}
use Rattle.choice_problem.specs.declared.problem.Demand.{Demand}
use Rattle.choice_problem.specs.Assignment.{Assignment, is_made}
use Rattle.choice_problem.specs.General.{Request, General, request_of}
use Rattle.choice_problem.specs.Valid.{IsWholeValid}
use Rattle.solver_index.specs.Places.{entry_at, number}
use Rattle.cabal_problem.specs.Variables.{has_kind, is_known, is_suite, is_benchmark, domain_of}
use Rattle.cabal_problem.specs.Values.{order_of}
use Rattle.solver_index.specs.Allowed.{allowed_by}
use Rattle.solver_index.specs.Dependencies.{part_of}
use Rattle.solver_index.specs.AllowedVersions.{allowed_versions}
use Rattle.cabal_problem.specs.ListedDemands.{part_beside, target_for, flag_demand, stanza_if, has_stanzas, has_part, unit_demands, roots_of}
use Rattle.cabal_problem.specs.Problem.{barred_part}
use Rattle.cabal_problem.specs.Bound.{bound_of}
use Rattle.plan_types.specs.Packages.{entries_of}

-- a value as off or on; none for other values
abbrev pub on_or_off : ℕ → Option Bool
on_or_off zero = Some false
on_or_off (suc zero) = Some true
on_or_off (suc (suc n)) = None

-- a chosen value as off or on; none without a choice
abbrev pub as_setting : Option ℕ → Option Bool
as_setting None = None
as_setting (Some n) = on_or_off n

-- an assignment's values of the flags and stanzas of the owner's package, under its qualifier
abbrev pub parts_under : NameTable → Choice → Assignment → Parts
parts_under names owner A part = as_setting (A (part_beside owner (part_of names part)))

-- the owner is chosen, its stanza is on where there is one, and the whole condition is Yes
abbrev pub is_whole_yes : Env → NameTable → Choice → ExternalDep → Assignment → Bool
is_whole_yes env names owner at A =
    let parts = parts_under names owner A in
    is_made A owner && (are_met parts (stanza_of at.component.kind) && is_wanted true (value env (flags_of parts) (whole_condition at.component at.guarded)))

-- the request of a dependency, with its whole condition
abbrev pub whole_request : Env → List Package → NameTable → Choice → (Dep → Version → Bool) → ExternalDep → Request
whole_request env packages names owner allows at =
    let dep = at.guarded.dep in
    record {
      owner = Some owner;
      target = target_for packages names owner.var dep.kind dep.«package»;
      allowed = allowed_by dep.kind (allows dep) dep (entries_of packages (number packages names dep.«package»));
      is_yes = is_whole_yes env names owner at;
    }

-- a component whose stanza has no variable makes no request
abbrev pub has_stanza_variable : Bool → ExternalDep → Bool
has_stanza_variable stanzas at = list_all (λ literal. has_part stanzas literal.part) (stanza_of at.component.kind)

-- demands as requests
abbrev pub requests_of : List Demand → List Request
requests_of demands = map request_of demands

-- Requests whose only condition is their owner: those on flags and stanzas, and those of setup dependencies.

-- the demands on the flags and stanzas of a source instance
abbrev pub front_demands : List Package → Project → NameTable → Choice → Description → List Demand
front_demands packages project names owner d =
    map (flag_demand project names owner) d.flags
    ++ stanza_if (has_stanzas packages owner.var && has_kind is_suite d) owner Tests
    ++ stanza_if (has_stanzas packages owner.var && has_kind is_benchmark d) owner Benches

-- the request of a setup dependency
abbrev pub setup_request : List Package → NameTable → Choice → (Dep → Version → Bool) → Dep → Request
setup_request packages names owner allows dep = record {
  owner = Some owner;
  target = target_for packages names owner.var kind.Setup dep.«package»;
  allowed = allowed_by kind.Setup (allows dep) dep (entries_of packages (number packages names dep.«package»));
  is_yes = λ A. is_made A owner;
}

-- the same if the instance has a setup script of its own
abbrev pub setup_requests : Bool → List Request → List Request
setup_requests true requests = requests
setup_requests false requests = []

-- the requests of an instance with this body
abbrev pub body_requests : Env → List Package → Project → NameTable → Choice → (Dep → Version → Bool) → Body → List Request
body_requests env packages project names owner allows (Source source) =
    requests_of (front_demands packages project names owner source.description)
    ++ map (whole_request env packages names owner allows) (filter (has_stanza_variable (has_stanzas packages owner.var)) (outward source.description))
    ++ setup_requests source.description.custom (map (setup_request packages names owner allows) source.description.setup)
body_requests env packages project names owner allows (Installed record_of needs) = requests_of (unit_demands packages names owner record_of.depends needs)

-- choices of flags and stanzas make no requests
abbrev pub part_requests : List Request → Part → List Request
part_requests requests ThePackage = requests
part_requests requests (Flag f) = []
part_requests requests Tests = []
part_requests requests Benches = []

-- the requests of a choice
abbrev pub whole_demands : Env → List Package → Project → NameTable → Choice → List Request
whole_demands env packages project names owner =
    let e = entry_at (entries_of packages owner.var.«package») owner.val in
    part_requests (body_requests env packages project names owner (allowed_versions project e.instance) e.body) owner.var.part

-- the problem of an index and a project, with whole conditions
abbrev pub whole_problem : Env → List Package → Project → NameTable → List (List ℕ) → General
whole_problem env packages project names orders = record {
  bound = bound_of packages names;
  known = is_known packages names;
  domain = λ v. domain_of packages v.«package» v.part;
  roots = requests_of (roots_of packages project names);
  order = λ v trail. order_of packages names orders v.qual v.«package» v.part trail;
  barred = λ c. barred_part packages project names c c.var.part;
  demands = whole_demands env packages project names;
}

-- whether an assignment is complete and valid for it
abbrev pub IsWholeAssignment : Env → List Package → Project → NameTable → List (List ℕ) → Assignment → Type 0
IsWholeAssignment env packages project names orders assignment = IsWholeValid (whole_problem env packages project names orders) assignment
