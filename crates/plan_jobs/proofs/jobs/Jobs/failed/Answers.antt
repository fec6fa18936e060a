use Rattle.std.proofs.Common.{◌-◌, List, set, sym, subst, ap, ◌∙◌}
use Rattle.plan_jobs.specs.declared.job.JobState.{JobState}
use Rattle.plan_jobs.specs.declared.job.JobState.TheVariants.{Failed}
use Rattle.plan_jobs.specs.Board.{AreBegun, MarksMore, Keeps}
use Rattle.plan_jobs.proofs.Changes.{fail_keeps, begun_now, still_runs}
use Rattle.plan_jobs.proofs.NextStates.{after_failure, after_no_failure, accepted, refused, state_set}
use Rattle.plan_jobs.proofs.jobs.Jobs.failed.Goals as goal

pub returns-in_err-place-clause-reply : goal.returns-in_err-place-clause-reply
returns-in_err-place-clause-reply c nodes slots events a = refused nodes slots events c.args.self.now a c.args.place _ _ c.from_residual.result (c.as_slice.ensures ∙ ap (λ b. b.states) c.self.view_is) c.in_err-place.ensures c.from_residual.ensures.1

pub returns-in_err-place-clause-after : goal.returns-in_err-place-clause-after
returns-in_err-place-clause-after c nodes slots events a =
    after_no_failure nodes slots events c.args.self.now a c.args.place _ c.from_residual.result c.from_residual.ensures.1 (returns-in_err-place-clause-reply c nodes slots events a)

pub mark_held-requires-clause-begun : goal.mark_held-requires-clause-begun
mark_held-requires-clause-begun c =
    let i = c.self.inside in
    let place = c.in_ok-place.place in
    let runs = still_runs i.states c.as_slice.result.now c.args.place place c.as_slice.ensures c.in_ok-place.ensures.0 c.in_ok-place.ensures.2 in
    subst (λ users. AreBegun users c.as_slice-3.result.now) (sym c.as_slice-2.ensures.value)
    (subst (λ (states : List JobState). AreBegun i.users.items states) (sym (c.as_slice-3.ensures ∙ c.set.ensures)) (begun_now i.users.items i.states i.unmet i.ready i.held i.to_hold i.running i.slots c.self.invariant place runs Failed))

pub invariant_of-self : goal.invariant_of-self
invariant_of-self c =
    let i = c.self.inside in
    let place = c.in_ok-place.place in
    let e = c.mark_held.ensures in
    let m = subst (λ (states : List JobState). MarksMore i.users.items states place i.held c.mark_held.new.held) (c.as_slice-3.ensures ∙ c.set.ensures)
    (subst (λ users. MarksMore users c.as_slice-3.result.now place i.held c.mark_held.new.held) c.as_slice-2.ensures.value e.more) in
    subst (λ (states : List JobState). Keeps i.users.items states i.unmet i.ready c.mark_held.new.held c.mark_held.new.to_go (i.running - 1) i.slots) (sym c.set.ensures)
    (fail_keeps i.users.items i.states i.unmet i.ready i.held i.to_hold i.running i.slots c.self.invariant place
    (still_runs i.states c.as_slice.result.now c.args.place place c.as_slice.ensures c.in_ok-place.ensures.0 c.in_ok-place.ensures.2) c.mark_held.new.held c.mark_held.new.to_go m e.room e.idle)

pub returns-clause-reply : goal.returns-clause-reply
returns-clause-reply c nodes slots events a = accepted nodes slots events c.args.self.now a c.args.place _ (c.as_slice.ensures ∙ ap (λ b. b.states) c.self.view_is) (c.in_ok-place.ensures.1, c.in_ok-place.ensures.2)

pub returns-clause-after : goal.returns-clause-after
returns-clause-after c nodes slots events a =
    after_failure nodes slots events c.args.self.now a c.args.place tt _ (state_set _ c.args.self.now c.set.new.self c.in_ok-place.place c.args.place Failed c.self.view_is c.set.ensures c.in_ok-place.ensures.0) (returns-clause-reply c nodes slots events a)
