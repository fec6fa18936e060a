-- Pairs of demands that disagree, by their places.
use Rattle.std.specs.Prelude.{◌≡◌, ℕ, Bool, true, false, cond, ◌&&◌, ◌||◌, nat_eq, nat_lt, List, [], ◌∷◌, ◌++◌, Option, Some, None, slice_get, filter, map, flat_map, ◌⊎◌}
use Rattle.std.specs.List.{Contains}
use Rattle.qualified_goals.specs.declared.variable.Var.{Var}
use Rattle.qualified_goals.specs.Variable.{same_var}
use Rattle.choice_problem.specs.declared.problem.Choice.{Choice}
use Rattle.choice_problem.specs.declared.problem.Demand.{Demand}
use Rattle.choice_problem.specs.General.{owner_of}
use Rattle.choice_problem.specs.Trail.{value_in}
use Rattle.choice_problem.specs.Twins.{are_twins, under, differ}
use Rattle.choice_problem.specs.Conflict.{disagree, named_by}
use Rattle.choice_problem.specs.ConflictSet.{set_of}
use Rattle.demand_agreement.specs.declared.clash.Clash.{Clash}
use Rattle.demand_agreement.specs.Places.{demand_at, places_on}

-- of any two demands that disagree, at least one is at one of the places
abbrev pub AreSuspects : List Choice → List Demand → List ℕ → Type 0
AreSuspects trail demands places = (i j : ℕ) (d e : Demand) → slice_get demands i ≡ Some d → slice_get demands j ≡ Some e → disagree trail (d, e) ≡ true
    → Contains places i ⊎ Contains places j

-- whether a choice is the first of a condition
abbrev pub is_first : Choice → List Choice → Bool
is_first c [] = false
is_first c (owner ∷ others) = same_var owner.var c.var && nat_eq owner.val c.val

-- the places of a twin's demands on the target under its own qualifier, where the two values differ
abbrev pub apart_by : List Choice → List Demand → Var → Choice → List ℕ
apart_by trail demands target twin =
    cond (differ (value_in trail target) (value_in trail (under twin target)))
    (filter (λ k. is_first twin (demand_at demands k).when) (places_on (under twin target) demands)) []

-- those of all twins of an owner, where the target is under the owner's qualifier
abbrev pub apart_from : List Choice → List Demand → Choice → Var → List ℕ
apart_from trail demands owner target =
    cond (same_var (under owner target) target) (flat_map (apart_by trail demands target) (filter (are_twins owner) trail)) []

-- the places of the demands that disagree with a demand with this owner and target
abbrev pub clashing : List Choice → List Demand → Option Choice → Var → List ℕ
clashing trail demands None target = []
clashing trail demands (Some owner) target = apart_from trail demands owner target

-- the pair of two places, as later and earlier
abbrev pub clash_of : ℕ → ℕ → Clash
clash_of m n = cond (nat_lt m n) (record { later = n; earlier = m }) (record { later = m; earlier = n })

-- the pairs of a place with those of the demands that disagree with its own
abbrev pub clashes_at : List Choice → List Demand → ℕ → List Clash
clashes_at trail demands place = map (clash_of place) (clashing trail demands (owner_of (demand_at demands place).when) (demand_at demands place).target)

-- the pairs of several places
abbrev pub clashes : List Choice → List Demand → List ℕ → List Clash
clashes trail demands places = flat_map (clashes_at trail demands) places

-- the set of the variables that both demands of a pair name
abbrev pub set_named : List Demand → Clash → List Var
set_named demands clash = set_of (named_by (demand_at demands clash.earlier) ++ named_by (demand_at demands clash.later))

-- whether a pair comes first: by the later place, and then by the earlier
abbrev pub comes_before : Clash → Clash → Bool
comes_before a b = nat_lt a.later b.later || (nat_eq a.later b.later && nat_lt a.earlier b.earlier)

-- the lesser of two pairs, or the second where there is no first
abbrev pub lesser : Option Clash → Clash → Clash
lesser None c = c
lesser (Some first) c = cond (comes_before c first) c first

-- the least of an optional first pair and of a list
abbrev pub least_from : Option Clash → List Clash → Option Clash
least_from first [] = first
least_from first (c ∷ cs) = least_from (Some (lesser first c)) cs

-- the least pair of a list
abbrev pub least : List Clash → Option Clash
least cs = least_from None cs
