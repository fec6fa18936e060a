-- The numbers of paths of the conditions in a table, from those of earlier rows.
use Rattle.std.specs.Prelude.{ℕ, ◌+◌, ◌*◌, ◌-◌, ◌^◌, min, List, get_or}
use Rattle.plan_types.specs.declared.condition.Env.{Env}
use Rattle.plan_types.specs.declared.conditions.Row.{Row}
use Rattle.plan_types.specs.declared.conditions.Row.TheVariants.{Own, Negated, Both}
use Rattle.conditionals.specs.Count.{numbers_of}
use Rattle.conditionals.specs.declared.count.PathCounts.{PathCounts}

-- the numbers at this place; those of `true` if there are none
abbrev pub numbers_at : List PathCounts → ℕ → PathCounts
numbers_at before i = get_or before i (record { yes = 1; no = 0 })

-- the numbers of `!`
abbrev pub numbers_of_not : PathCounts → PathCounts
numbers_of_not inner = record { yes = inner.no; no = inner.yes }

-- the numbers of `&&`
abbrev pub numbers_of_and : PathCounts → PathCounts → PathCounts
numbers_of_and left right = record {
  yes = min (left.yes * right.yes) (2 ^ 64 - 1);
  no = min (left.no + min (left.yes * right.no) (2 ^ 64 - 1)) (2 ^ 64 - 1);
}

-- the numbers of a row, after rows with these numbers
abbrev pub numbers_of_row : Env → List PathCounts → Row → PathCounts
numbers_of_row env before (Own cond) = numbers_of env cond
numbers_of_row env before (Negated i) = numbers_of_not (numbers_at before i)
numbers_of_row env before (Both i j) = numbers_of_and (numbers_at before i) (numbers_at before j)
