use Rattle.std.proofs.Common.{◌≡◌, List, drop}
use Rattle.plan_types.specs.Conditions.{conds_behind, conds_of}
use Rattle.plan_types.specs.declared.condition.Cond.{Cond}
use Rattle.impossible_conditions.specs.Known.{AreKnown}
use Rattle.impossible_conditions.specs.Outlook.{AreOutlooks}
use Rattle.impossible_conditions.proofs.outlook.outlooks.Given as goal

-- the facts about the conditions so far, and the conditions of the remaining rows
abbrev pub invariant-loop-row : goal.invariant-loop-row
invariant-loop-row l = (looked : List Cond) × AreKnown l.env looked l.before.items × AreOutlooks l.env looked l.all.items × (conds_behind looked (drop l.row-index l.rows) ≡ conds_of l.rows)
