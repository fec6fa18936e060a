use Rattle.std.proofs.Common.{List, get_or, ap, ◌∙◌}
use Rattle.qualified_goals.specs.declared.variable.Part.TheVariants.{Package}
use Rattle.qualified_goals.specs.declared.variable.Qual.TheVariants.{Top}
use Rattle.choice_problem.specs.declared.problem.Choice.{Choice}
use Rattle.choice_problem.specs.Trail.{value_in}
use Rattle.freeze_file.proofs.Fronts.{next_is_new}
use Rattle.freeze_file.proofs.project.trail_of.Goals as goal

-- what stands behind the last choice
no_choice : Choice
no_choice = record { var = record { qual = Top; «package» = 0; part = Package }; val = 0 }

pub push-requires : goal.push-requires
unfolding no_choice
push-requires c =
    ap (λ (t : List Choice). value_in t (get_or c.args.choices.now c.loop-choice.choice-index no_choice).var) c.loop-choice.invariant
    ∙ next_is_new c.requires c.loop-choice.choice-index no_choice c.loop-choice-test.true
