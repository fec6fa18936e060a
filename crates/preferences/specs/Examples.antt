-- The order of small lists, computed.
use Rattle.std.specs.Prelude.{◌≡◌, ℕ, List, [], ◌∷◌, refl}
use Rattle.std.specs.declared.cmp.Ordering.TheVariants.{Less, Greater}
use Rattle.plan_types.specs.declared.index.Instance.{Instance}
use Rattle.plan_types.specs.declared.index.Origin.TheVariants.{Source, Installed}
use Rattle.preferences.specs.declared.policy.Policy.TheVariants as policy
use Rattle.preferences.specs.Places.{by_policy, place_cmp}

abbrev source : List ℕ → Instance
source parts = record { name = []; version = record { parts = parts }; origin = Source; unit = [] }

abbrev installed : List ℕ → List ℕ → Instance
installed parts unit = record { name = []; version = record { parts = parts }; origin = Installed; unit = unit }

latest_by_version : by_policy policy.Latest (source (1 ∷ 10 ∷ [])) (installed (1 ∷ 9 ∷ []) (97 ∷ [])) ≡ Less
latest_by_version = refl

installed_by_origin : by_policy policy.Installed (source (1 ∷ 10 ∷ [])) (installed (1 ∷ 9 ∷ []) (97 ∷ [])) ≡ Greater
installed_by_origin = refl

oldest_by_version : by_policy policy.Oldest (source (1 ∷ 10 ∷ [])) (installed (1 ∷ 9 ∷ []) (97 ∷ [])) ≡ Greater
oldest_by_version = refl

installed_where_versions_tie : by_policy policy.Oldest (installed (1 ∷ []) []) (source (1 ∷ [])) ≡ Less
installed_where_versions_tie = refl

-- the same version twice
by_unit_id : place_cmp policy.Latest [] (installed (1 ∷ []) (98 ∷ []) ∷ installed (1 ∷ []) (97 ∷ []) ∷ []) 1 0 ≡ Less
by_unit_id = refl

by_place : place_cmp policy.Latest [] (source (1 ∷ []) ∷ source (1 ∷ []) ∷ []) 0 1 ≡ Less
by_place = refl
