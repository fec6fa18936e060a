-- The order in which the instances of a package are tried.
use Rattle.std.specs.Prelude.{◌≡◌, ℕ, ◌<◌, ◌||◌, List, [], length, map, filter, slice_index_or, if◌then◌else◌}
use Rattle.plan_types.specs.declared.dependency.Named.{Named}
use Rattle.plan_types.specs.declared.index.Instance.{Instance}
use Rattle.plan_types.specs.declared.index.Package.{Package}
use Rattle.plan_types.specs.declared.project.Project.{Project}
use Rattle.plan_types.specs.declared.range.Range.{Range}
use Rattle.preferences.specs.declared.policy.Policy.{Policy}
use Rattle.preferences.specs.declared.policy.Policy.TheVariants.{Latest, Installed, Oldest}
use Rattle.preferences.specs.Places.{IsOrder}
use Rattle.qualified_goals.specs.Names.{Name}
use Rattle.plan_types.specs.Bytes.{same_text}
use Rattle.plan_types.specs.Packages.{package_at}

-- the policy by which the instances of a package are ordered
abbrev pub policy_of : Project → Package → Policy
policy_of project p = if project.prefer_oldest then Oldest else (if p.local || p.extra then Latest else Installed)

-- the ranges given for a name
abbrev pub ranges_for : Name → List Named → List Range
ranges_for name named = map (λ n. n.range) (filter (λ n. same_text n.name name) named)

-- every range that the preferences give for a name
abbrev pub preferred_of : Project → Name → List Range
preferred_of project name = ranges_for name project.preferences

-- the instances of a package
abbrev pub instances_of : Package → List Instance
instances_of p = map (λ e. e.instance) p.entries

-- the order of the instances of a package
abbrev pub IsOrderOf : Project → Package → List ℕ → Type 0
IsOrderOf project p values = IsOrder (policy_of project p) (preferred_of project p.name) (instances_of p) values

-- n rows, each of which fits its index
pub record IsTable {X : Type 0} (n : ℕ) (Fits : ℕ → X → Type 0) (none : X) (rows : List X) : Type 0 where
  pub count : length rows ≡ n
  pub each : (k : ℕ) → k < n → Fits k (slice_index_or rows k none)

-- the orders of all packages, by their numbers
abbrev pub AreOrders : Project → List Package → List (List ℕ) → Type 0
AreOrders project packages orders = IsTable (length packages) (λ p values. IsOrderOf project (package_at packages p) values) [] orders
