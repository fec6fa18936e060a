-- Choices within their domains, and plain constraints.
use Rattle.std.specs.Prelude.{◌<◌, List, Contains}
use Rattle.std.specs.List.{AllByRecursion}
use Rattle.plan_types.specs.declared.constraint.Constraint.{Constraint}
use Rattle.plan_types.specs.declared.index.Package.{Package}
use Rattle.choice_problem.specs.declared.problem.Choice.{Choice}
use Rattle.cabal_problem.specs.Variables.{domain_of}
use Rattle.freeze_text.specs.Reads.{IsPlainConstraint}

-- each choice of a trail has a value of its domain
abbrev pub AreInDomains : List Package → List Choice → Type 0
AreInDomains packages trail = (c : Choice) → Contains trail c → c.val < domain_of packages c.var.«package» c.var.part

-- each constraint is plain, so its text reads back
abbrev pub ArePlain : List Constraint → Type 0
ArePlain constraints = AllByRecursion IsPlainConstraint constraints
