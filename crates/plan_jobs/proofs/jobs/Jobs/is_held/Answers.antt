use Rattle.std.proofs.Common.{◌≡◌, List, Bool, get_or, false, sym, subst, ap, ◌∙◌}
use Rattle.plan_jobs.specs.Board.{AreAfter}
use Rattle.plan_jobs.proofs.Replies.{held_in, held_out}
use Rattle.plan_jobs.proofs.jobs.Jobs.is_held.Goals as goal

pub returns : goal.returns
returns c nodes slots events a =
    let i = c.self.inside in
    let a' = subst (λ board. AreAfter nodes slots events board) (sym c.self.view_is) a in
    let e : get_or c.as_slice.result.now c.args.place false ≡ get_or i.held c.args.place false = ap (λ (marks : List Bool). get_or marks c.args.place false) c.as_slice.ensures in (
      (λ m. held_in i.users.items i.states i.unmet i.ready i.held i.to_hold i.running i.slots c.self.invariant nodes slots events a' c.args.place (sym e ∙ m)),
      λ h. e ∙ held_out i.users.items i.states i.unmet i.ready i.held i.to_hold i.running i.slots c.self.invariant nodes slots events a' c.args.place h,
    )
