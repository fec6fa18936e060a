use Rattle.std.proofs.Common.{◌+◌, List, [], ◌∷◌, ◌++◌, Ok, set, sym, subst, ◌∙◌}
use Rattle.plan_jobs.specs.declared.job.JobFault.TheVariants.{NoneReady, NoSlot}
use Rattle.plan_jobs.specs.declared.job.JobState.{JobState}
use Rattle.plan_jobs.specs.declared.job.JobState.TheVariants.{Running}
use Rattle.plan_jobs.specs.Events.{IsStart, starts}
use Rattle.plan_jobs.specs.Board.{AreAfter, Keeps}
use Rattle.plan_jobs.proofs.Changes.{start_keeps}
use Rattle.plan_jobs.proofs.NextStates.{after_no_start, after_start}
use Rattle.plan_jobs.proofs.Replies.{least_in, none_in, running_in, slots_in}
use Rattle.plan_jobs.proofs.jobs.Jobs.start_next.Goals as goal

pub returns-then-self-clause-after : goal.returns-then-self-clause-after
returns-then-self-clause-after c nodes slots events a =
    let i = c.self.inside in
    let a' = subst (λ board. AreAfter nodes slots events board) (sym c.self.view_is) a in
    let run = running_in i.users.items i.states i.unmet i.ready i.held i.to_hold i.running i.slots c.self.invariant nodes slots events a' in
    after_no_start nodes slots events c.args.self.now a NoSlot (sym run ∙ c.if-self.true ∙ a'.limit)

pub returns-in_default-clause-reply : goal.returns-in_default-clause-reply
returns-in_default-clause-reply c nodes slots events a =
    let i = c.self.inside in
    let a' = subst (λ board. AreAfter nodes slots events board) (sym c.self.view_is) a in (
      slots_in i.users.items i.states i.unmet i.ready i.held i.to_hold i.running i.slots c.self.invariant nodes slots events a' c.if-self.false,
      none_in i.users.items i.states i.unmet i.ready i.held i.to_hold i.running i.slots c.self.invariant nodes slots events a' c.in_default.ensures,
    )

pub returns-in_default-clause-after : goal.returns-in_default-clause-after
returns-in_default-clause-after c nodes slots events a =
    let i = c.self.inside in
    let a' = subst (λ board. AreAfter nodes slots events board) (sym c.self.view_is) a in
    after_no_start nodes slots events c.args.self.now a NoneReady (
      slots_in i.users.items i.states i.unmet i.ready i.held i.to_hold i.running i.slots c.self.invariant nodes slots events a' c.if-self.false,
      none_in i.users.items i.states i.unmet i.ready i.held i.to_hold i.running i.slots c.self.invariant nodes slots events a' c.in_default.ensures,
    )

pub invariant_of-self : goal.invariant_of-self
invariant_of-self c =
    let i = c.self.inside in
    subst (λ (states : List JobState). Keeps i.users.items states i.unmet c.set-2.new.self i.held i.to_hold (i.running + 1) i.slots) (sym c.set.ensures)
    (subst (λ ready. Keeps i.users.items (set i.states c.in-Some.place Running) i.unmet ready i.held i.to_hold (i.running + 1) i.slots) (sym c.set-2.ensures)
    (start_keeps i.users.items i.states i.unmet i.ready i.held i.to_hold i.running i.slots c.self.invariant c.in-Some.place c.in-Some.ensures.marked c.if-self.false))

pub returns-clause-reply : goal.returns-clause-reply
returns-clause-reply c nodes slots events a =
    let i = c.self.inside in
    let a' = subst (λ board. AreAfter nodes slots events board) (sym c.self.view_is) a in (
      slots_in i.users.items i.states i.unmet i.ready i.held i.to_hold i.running i.slots c.self.invariant nodes slots events a' c.if-self.false,
      least_in i.users.items i.states i.unmet i.ready i.held i.to_hold i.running i.slots c.self.invariant nodes slots events a' c.in-Some.place c.in-Some.ensures,
    )

pub returns-clause-after : goal.returns-clause-after
returns-clause-after c nodes slots events a =
    let i = c.self.inside in
    let a' = subst (λ board. AreAfter nodes slots events board) (sym c.self.view_is) a in
    let r : IsStart nodes slots events (Ok c.in-Some.place) = (
      slots_in i.users.items i.states i.unmet i.ready i.held i.to_hold i.running i.slots c.self.invariant nodes slots events a' c.if-self.false,
      least_in i.users.items i.states i.unmet i.ready i.held i.to_hold i.running i.slots c.self.invariant nodes slots events a' c.in-Some.place c.in-Some.ensures,
    ) in
    subst (λ states. AreAfter nodes slots (events ++ starts (Ok c.in-Some.place) ∷ []) (record { users = i.users.items; states = states; slots = i.slots })) (sym c.set.ensures)
    (after_start nodes slots events _ a' c.in-Some.place r)
