use Rattle.std.proofs.Common.{◌∙◌}
use Rattle.choice_problem.proofs.RisingVariables.{there-some, there-none}
use Rattle.choice_problem.proofs.rising.stands_at.Goals as goal

pub returns-in-Some : goal.returns-in-Some
returns-in-Some c =
    c.is_same.ensures
    ∙ there-some c.args.v c.args.vars.now c.args.place c.in-Some.w.now c.requires.rising c.requires.place c.in-Some.ensures.lookup.3.0 c.in-Some.ensures.lookup.1

pub returns-in-None : goal.returns-in-None
returns-in-None c = there-none c.args.v c.args.vars.now c.args.place c.requires.rising c.requires.place c.in-None.ensures.lookup.3
