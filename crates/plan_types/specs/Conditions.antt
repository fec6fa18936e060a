-- Tables of conditions that share subconditions by number.
use Rattle.std.specs.Prelude.{ℕ, List, [], ◌∷◌, ◌++◌, get_or}
use Rattle.plan_types.specs.declared.condition.Cond.{Cond}
use Rattle.plan_types.specs.declared.condition.Cond.TheVariants.{Always, Not, And}
use Rattle.plan_types.specs.declared.conditions.Row.{Row}
use Rattle.plan_types.specs.declared.conditions.Row.TheVariants.{Own, Negated, Both}

-- the condition with this number; `true` if there is none
abbrev pub numbered : List Cond → ℕ → Cond
numbered conds i = get_or conds i Always

-- the condition of a row, by the conditions before it
abbrev pub cond_of : List Cond → Row → Cond
cond_of before (Own cond) = cond
cond_of before (Negated i) = Not (numbered before i)
cond_of before (Both i j) = And (numbered before i) (numbered before j)

-- earlier conditions, followed by those of these rows
abbrev pub conds_behind : List Cond → List Row → List Cond
conds_behind before [] = before
conds_behind before (row ∷ rows) = conds_behind (before ++ cond_of before row ∷ []) rows

abbrev pub conds_of : List Row → List Cond
conds_of = conds_behind []
