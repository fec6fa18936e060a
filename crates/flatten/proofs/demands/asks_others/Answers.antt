use Rattle.std.proofs.Common.{not, ap, ◌∙◌}
use Rattle.std.specs.List.{list_any}
use Rattle.plan_types.proofs.GroupTests.{some-in-groups}
use Rattle.flatten.proofs.DependencyGroups.{is-other}
use Rattle.flatten.proofs.demands.asks_others.Goals as goal

pub returns : goal.returns
returns c = c.some_has_others.ensures ∙ some-in-groups (λ dep. not dep.internal) c.groups.result.now ∙ ap (list_any is-other) c.groups.ensures
