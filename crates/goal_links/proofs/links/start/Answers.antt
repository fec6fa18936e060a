use Rattle.std.proofs.Common.{◌≡◌, ◌∙◌, ℕ, List, Option, Some, None, IfSome, true, sym}
use Rattle.std.proofs.lemmas.Bool.{false≢true}
use Rattle.qualified_goals.specs.declared.variable.Var.{Var}
use Rattle.qualified_goals.specs.Variable.{is_before}
use Rattle.goal_links.specs.Links.{is_entry_before, var_at}
use Rattle.goal_links.proofs.Nodes.{place-below}
use Rattle.goal_links.proofs.links.start.Goals as goal

pub is_entry_before-requires : goal.is_entry_before-requires
is_entry_before-requires c = place-below _ c.args.row.now.linked c.loop-ahead.back c.requires.below c.loop-ahead.invariant.back

some-before : (vars : List Var) (v : Var) (place : Option ℕ) → is_entry_before vars v place ≡ true → IfSome place (λ n. is_before (var_at vars n) v ≡ true)
some-before vars v None h = absurd (false≢true h)
some-before vars v (Some n) h = h

pub returns-then-is_entry_before-clause-before : goal.returns-then-is_entry_before-clause-before
returns-then-is_entry_before-clause-before c = some-before c.args.vars.now c.args.v c.loop-ahead.back (sym c.is_entry_before.ensures ∙ c.if-is_entry_before.true)
