-- Demands by their places.
use Rattle.std.specs.Prelude.{ℕ, suc, ◌<◌, cond, List, [], ◌∷◌, slice_index_or}
use Rattle.qualified_goals.specs.declared.variable.Var.{Var}
use Rattle.qualified_goals.specs.declared.variable.Qual.TheVariants.{Top}
use Rattle.qualified_goals.specs.declared.variable.Part.TheVariants.{Package}
use Rattle.choice_problem.specs.declared.problem.Demand.{Demand}
use Rattle.choice_problem.specs.Active.{asks_for}

-- the demand for a place that no demand has
abbrev pub no_demand : Demand
no_demand = record { when = []; target = record { qual = Top; «package» = 0; part = Package }; allowed = [] }

-- the demand at a place
abbrev pub demand_at : List Demand → ℕ → Demand
demand_at listed place = slice_index_or listed place no_demand

-- each number is below n
abbrev pub AllBelow : ℕ → List ℕ → Type 0
AllBelow n [] = Unit {0}
AllBelow n (x ∷ xs) = (x < n) × AllBelow n xs

-- the places of the demands on a variable, where places are numbered from n
abbrev pub places_from : ℕ → Var → List Demand → List ℕ
places_from n v [] = []
places_from n v (d ∷ demands) = cond (asks_for v d) (n ∷ places_from (suc n) v demands) (places_from (suc n) v demands)

-- the places of the demands on a variable
abbrev pub places_on : Var → List Demand → List ℕ
places_on v demands = places_from 0 v demands
