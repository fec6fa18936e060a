use Rattle.std.proofs.Common.{◌≡◌, ◌∙◌, sym, ap, true}
use Rattle.std.specs.Option.{option_map}
use Rattle.qualified_goals.specs.declared.variable.Var.{Var}
use Rattle.qualified_goals.specs.Variable.{same_var}
use Rattle.choice_problem.specs.ConflictSet.{is_rising}
use Rattle.goal_links.specs.Beside.{first_of, behind_first}
use Rattle.goal_links.specs.Links.{var_at}
use Rattle.goal_links.specs.Mentions.{Mentioned}
use Rattle.goal_links.proofs.ChainWalks.{at-entry}
use Rattle.choice_stack.proofs.OpenVariables.{next-behind}
use Rattle.choice_stack.proofs.goals.Goals.next.Goals as goal

pub returns-clause-next : goal.returns-clause-next
returns-clause-next c =
    let now = c.args.self.now.row in
    let at : var_at now.vars c.entry-entry.result ≡ c.args.v = at-entry now.vars c.entry-entry.result c.args.v c.entry-entry.ensures in
    let rising : is_rising now.linked ≡ true = ap (λ (m : Mentioned). is_rising m.row.linked) (sym c.self.view_is) ∙ c.self.invariant.rising in
    c.var_at.ensures ∙ ap (λ (m : Mentioned). option_map (var_at m.row.vars) c.next-next.result) (sym c.self.view_is) ∙ c.next-next.ensures.next
    ∙ ap (λ (m : Mentioned). first_of (behind_first (same_var (var_at m.row.vars c.entry-entry.result)) m.row.linked)) c.self.view_is
    ∙ ap (λ (w : Var). first_of (behind_first (same_var w) now.linked)) at
    ∙ next-behind c.args.v now.linked rising c.requires
