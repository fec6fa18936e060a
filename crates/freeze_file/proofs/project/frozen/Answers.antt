use Rattle.std.proofs.Common.{◌++◌, List, sym, ap, ◌∙◌}
use Rattle.plan_types.specs.declared.constraint.Constraint.{Constraint}
use Rattle.choice_problem.specs.declared.problem.Choice.{Choice}
use Rattle.frozen_choices.specs.Frozen.{frozen_package}
use Rattle.freeze_file.proofs.Picked.{flat-more}
use Rattle.freeze_file.proofs.project.frozen.Goals as goal

pub loop-p-preserved : goal.loop-p-preserved
loop-p-preserved c =
    let packages = c.args.packages.now in
    let names = c.args.names.now in
    let p = c.loop-p.p in
    c.in_ok-push_package.ensures
    ∙ ap (λ (t : List Choice). c.loop-p.constraints ++ frozen_package packages names t p) c.in_ok-trail.ensures
    ∙ ap (λ (ks : List Constraint). ks ++ frozen_package packages names c.args.choices.now p) c.loop-p.invariant
    ∙ sym (flat-more (frozen_package packages names c.args.choices.now) p)
