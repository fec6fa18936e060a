use Rattle.std.proofs.Common.{◌++◌, map, refl, ap, ◌∙◌}
use Rattle.conditionals.specs.Value.{each_once}
use Rattle.plan_components.specs.Chosen.{chosen_flag, selection_of}
use Rattle.plan_components.proofs.Apart.{once-set}
use Rattle.plan_components.proofs.chosen.Chosen.flags.Goals as goal

pub returns-clause-once : goal.returns-clause-once
returns-clause-once c =
    let one = chosen_flag (selection_of c.args.self.now) c.args.qual c.args.package in
    ap each_once (c.in_ok-push_flags.ensures ∙ (λ j. c.new-flags.ensures j ++ map one (c.as_slice.ensures j)))
    ∙ once-set one (λ decl. refl) c.args.d.now.flags c.requires
