use Rattle.std.proofs.Common.{ap, ◌∙◌}
use Rattle.std.specs.List.{list_any}
use Rattle.plan_types.specs.Guarded.{GuardedDep}
use Rattle.cabal_problem.specs.Variables.{is_tool_of}
use Rattle.plan_types.proofs.GroupTests.{some-in-groups}
use Rattle.cabal_problem.proofs.variables.component_depends.Goals as goal

pub returns : goal.returns
returns c =
    c.some_group_asks.ensures
    ∙ some-in-groups (is_tool_of c.args.names.now c.args.t) c.groups.result.now
    ∙ ap (list_any (λ (guarded : GuardedDep). is_tool_of c.args.names.now c.args.t guarded.dep)) c.groups.ensures
