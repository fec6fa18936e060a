use Rattle.std.proofs.Common.{get_or, sym, ap, ◌∙◌, take, cond, Some, None}
use Rattle.std.proofs.lemmas.List.{take_more}
use Rattle.qualified_goals.specs.declared.variable.Part.TheVariants.{Package}
use Rattle.qualified_goals.specs.declared.variable.Qual.TheVariants.{Top}
use Rattle.qualified_goals.specs.Variable.{same_var}
use Rattle.choice_problem.specs.declared.problem.Choice.{Choice}
use Rattle.choice_problem.specs.Trail.{value_in}
use Rattle.plan_components.specs.Steps.{first_value}
use Rattle.plan_components.proofs.Values.{value_more}
use Rattle.plan_components.proofs.lookups.chosen_values.Goals as goal

-- the choice that is read beyond the last
no_choice : Choice
no_choice = record { var = record { qual = Top; «package» = 0; part = Package }; val = 0 }

pub loop-choice-preserved : goal.loop-choice-preserved
unfolding no_choice
loop-choice-preserved c v =
    let trail = c.args.trail.now in
    let i = c.loop-choice.choice-index in
    let choice = get_or trail i no_choice in
    c.in_ok-add_choice.ensures v ∙ ap (λ o. first_value o (cond (same_var choice.var v) (Some choice.val) None)) (c.loop-choice.invariant v)
    ∙ sym (value_more (take i trail) choice v) ∙ ap (λ t. value_in t v) (sym (take_more trail i no_choice c.loop-choice-test.true))
