use Rattle.std.proofs.Common.{◌≡◌, ◌++◌, ◌∷◌, [], length, get_or, ap, ◌∙◌, arith, length-append}
use Rattle.broken_units.proofs.Table.{no_user, none_pushed}
use Rattle.broken_units.proofs.users.no_users.Goals as goal

pub loop-preserved : goal.loop-preserved
loop-preserved c =
    let users = c.loop.users.items in
    let e : c.push.new.self.items ≡ users ++ [] ∷ [] = c.in_ok-push.ensures.items ∙ ap (λ l. users ++ l ∷ []) c.new.ensures in
    (omega (arith, ap length e, length-append users ([] ∷ [])), λ v. ap (λ us. get_or us v []) e ∙ none_pushed users c.loop.invariant.1 v)

pub returns-clause-none : goal.returns-clause-none
returns-clause-none c = no_user c.loop.users.items c.loop.invariant.1
