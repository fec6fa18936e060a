use Rattle.std.proofs.Common.{rules, set, true, get_or, false, subst, sym, ◌∙◌, ap, ◌≡◌, List, Bool}
use Rattle.plan_jobs.specs.Board.{MarksUsers}
use Rattle.std.specs.Prelude.{[], ◌∷◌}
use Rattle.plan_jobs.proofs.Spread.{holds_one}
use Rattle.plan_jobs.proofs.holding.hold_user.Goals as goal

pub returns-then-not-as_slice-user : goal.returns-then-not-as_slice-user
returns-then-not-as_slice-user c =
    let states = c.args.states.now in
    let held = c.args.held.now in
    let work = c.args.to_go.now in
    let user = c.args.user in
    let free : get_or held user false ≡ false = ap (λ (l : List Bool). get_or l user false) (sym c.as_slice.ensures) ∙ c.if-not-as_slice-user.true in
    subst (λ h. MarksUsers (user ∷ []) states held h work c.set-then-not-as_slice-user.new.self) (sym c.set.ensures)
    (subst (λ w. MarksUsers (user ∷ []) states held (set held user true) work w) (sym c.set-then-not-as_slice-user.ensures)
    (holds_one states held work user c.requires.within c.requires.count c.requires.room (search rules) free))
