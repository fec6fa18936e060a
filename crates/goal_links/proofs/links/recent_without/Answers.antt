use Rattle.std.proofs.Common.{◌∙◌, ℕ, Option, arith, subst}
use Rattle.goal_links.specs.Row.{StandsIn}
use Rattle.goal_links.proofs.Nodes.{without-other}
use Rattle.goal_links.proofs.links.recent_without.Goals as goal

pub returns-in_default : goal.returns-in_default
returns-in_default c =
    without-other c.args.row.now.linked c.args.entry c.in-Some.n (λ e. omega (arith, e, c.if-n-entry.false))
    ∙ subst (λ (o : Option ℕ). StandsIn c.args.row.now.linked o) c.in-Some.is c.requires.recent
