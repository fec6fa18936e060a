use Rattle.std.proofs.Common.{◌++◌, ◌∷◌, [], ap, ◌∙◌}
use Rattle.plan_components.specs.Chosen.{chosen_flag, selection_of}
use Rattle.plan_components.proofs.Turns.{turn_map}
use Rattle.plan_components.proofs.chosen.Chosen.push_flags.Goals as goal

pub loop-decl-preserved : goal.loop-decl-preserved
loop-decl-preserved c =
    turn_map (chosen_flag (selection_of c.args.self.now) c.args.qual c.args.package) c.args.decls.now c.loop-decl.decl-index c.decl-item.result c.loop-decl-test.true c.decl-item.is
    c.args.flags.now c.loop-decl.flags c.push.new.self c.loop-decl.invariant
    (c.in_ok-push.ensures.ok ∙ ap (λ flag. c.loop-decl.flags ++ flag ∷ []) c.in_ok-flag.ensures)
