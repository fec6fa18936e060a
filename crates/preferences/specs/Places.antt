-- The order in which the instances of a package are tried.
use Rattle.std.specs.Prelude.{ℕ, Bool, true, false, List, [], length, slice_index_or}
use Rattle.std.specs.List.{list_all, range_with_len}
use Rattle.std.specs.List.Sorted.{IsPermutation, IsSorted}
use Rattle.std.specs.declared.cmp.Ordering.{Ordering}
use Rattle.std.specs.Ordering.{nat_cmp, bool_cmp, ordering_then}
use Rattle.std.specs.Cmp.Lexicographic.{slice_cmp}
use Rattle.plan_types.specs.declared.index.Instance.{Instance}
use Rattle.plan_types.specs.declared.index.Origin.{Origin}
use Rattle.plan_types.specs.declared.index.Origin.TheVariants.{Local, Source, Installed}
use Rattle.plan_types.specs.declared.range.Range.{Range}
use Rattle.plan_types.specs.Members.{members}
use Rattle.preferences.specs.declared.policy.Policy.{Policy}
use Rattle.preferences.specs.declared.policy.Policy.TheVariants as policy

-- whether the version lies in every preferred range
abbrev pub is_preferred : List Range → Instance → Bool
is_preferred preferred i = list_all (λ range. members range i.version) preferred

-- a local instance counts as a source instance
abbrev pub is_installed : Origin → Bool
is_installed Local = false
is_installed Source = false
is_installed Installed = true

-- true before false
abbrev pub true_first : Bool → Bool → Ordering
true_first a b = bool_cmp b a

-- the earlier version is tried first
abbrev pub earlier_first : Instance → Instance → Ordering
earlier_first a b = slice_cmp nat_cmp a.version.parts b.version.parts

-- the later version is tried first
abbrev pub later_first : Instance → Instance → Ordering
later_first a b = earlier_first b a

-- an installed instance is tried before a source instance
abbrev pub installed_first : Instance → Instance → Ordering
installed_first a b = true_first (is_installed a.origin) (is_installed b.origin)

-- the order of a policy
abbrev pub by_policy : Policy → Instance → Instance → Ordering
by_policy policy.Latest a b = ordering_then (later_first a b) (installed_first a b)
by_policy policy.Installed a b = ordering_then (installed_first a b) (later_first a b)
by_policy policy.Oldest a b = ordering_then (earlier_first a b) (installed_first a b)

-- an instance in the preferred ranges is tried before others
abbrev pub preferred_first : List Range → Instance → Instance → Ordering
preferred_first preferred a b = true_first (is_preferred preferred a) (is_preferred preferred b)

-- the order of unit ids
abbrev pub by_unit : Instance → Instance → Ordering
by_unit a b = slice_cmp nat_cmp a.unit b.unit

-- the order in which two instances are tried
abbrev pub instance_cmp : Policy → List Range → Instance → Instance → Ordering
instance_cmp p preferred a b = ordering_then (ordering_then (preferred_first preferred a b) (by_policy p a b)) (by_unit a b)

-- the instance that is read at a place beyond the last
abbrev pub no_instance : Instance
no_instance = record { name = []; version = record { parts = [] }; origin = Source; unit = [] }

-- the instance at a place
abbrev pub instance_at : List Instance → ℕ → Instance
instance_at instances place = slice_index_or instances place no_instance

-- the order of two places: by their instances, equal ones by place
abbrev pub place_cmp : Policy → List Range → List Instance → ℕ → ℕ → Ordering
place_cmp p preferred instances a b = ordering_then (instance_cmp p preferred (instance_at instances a) (instance_at instances b)) (nat_cmp a b)

-- all places of the instances, each once, sorted
pub record IsOrder (p : Policy) (preferred : List Range) (instances : List Instance) (places : List ℕ) : Type 0 where
  pub each : IsPermutation (range_with_len 0 (length instances)) places
  pub sorted : IsSorted (place_cmp p preferred instances) places
