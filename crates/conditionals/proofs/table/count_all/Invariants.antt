use Rattle.std.proofs.Common.{◌≡◌, List, drop, map}
use Rattle.plan_types.specs.Conditions.{conds_behind, conds_of}
use Rattle.plan_types.specs.declared.condition.Cond.{Cond}
use Rattle.conditionals.specs.Count.{numbers_of}
use Rattle.conditionals.proofs.table.count_all.Given as goal

-- the conditions counted so far, and those of the remaining rows
abbrev pub invariant-loop-row : goal.invariant-loop-row
invariant-loop-row l = (before : List Cond) × (l.all.items ≡ map (numbers_of l.env) before) × (conds_behind before (drop l.row-index l.rows) ≡ conds_of l.rows)
