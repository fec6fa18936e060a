use Rattle.std.proofs.Common.{◌≡◌, ◌<◌, ◌+◌, ◌-◌, ◌≤◌, ℕ, List, [], length, get_or, set, sym, subst, ap, ◌∙◌}
use Rattle.std.specs.Prelude.{All}
use Rattle.std.proofs.lemmas.List.{get_or_read, length-set}
use Rattle.plan_jobs.specs.declared.job.JobState.{JobState}
use Rattle.plan_jobs.specs.declared.job.JobState.TheVariants.{Completed}
use Rattle.plan_jobs.specs.Board.{AreReady, Keeps, times}
use Rattle.plan_jobs.proofs.Changes.{complete_keeps, less_open, ready_now, begun_now, here, still_runs}
use Rattle.plan_jobs.proofs.Spread.{users_within}
use Rattle.plan_jobs.proofs.NextStates.{after_completion, after_no_completion, accepted, refused, state_set}
use Rattle.plan_jobs.proofs.jobs.Jobs.completed.Goals as goal

pub returns-in_err-place-clause-reply : goal.returns-in_err-place-clause-reply
returns-in_err-place-clause-reply c nodes slots events a = refused nodes slots events c.args.self.now a c.args.place _ _ c.from_residual.result (c.as_slice.ensures ∙ ap (λ b. b.states) c.self.view_is) c.in_err-place.ensures c.from_residual.ensures.1

pub returns-in_err-place-clause-after : goal.returns-in_err-place-clause-after
returns-in_err-place-clause-after c nodes slots events a =
    after_no_completion nodes slots events c.args.self.now a c.args.place _ c.from_residual.result c.from_residual.ensures.1 (returns-in_err-place-clause-reply c nodes slots events a)

pub count_down-requires : goal.count_down-requires
count_down-requires c =
    let i = c.self.inside in
    let place = c.in_ok-place.place in
    let runs = still_runs i.states c.as_slice.result.now c.args.place place c.as_slice.ensures c.in_ok-place.ensures.0 c.in_ok-place.ensures.2 in
    let list : c.as_slice-2.result.now ≡ get_or i.users.items place [] =
    c.as_slice-2.ensures ∙ get_or_read i.users.items place c.index.result.now (subst (λ n. place < n) (sym c.self.invariant.begun.count) (here i.users.items i.states i.unmet i.ready i.held i.to_hold i.running i.slots c.self.invariant place runs)) c.index.ensures [] in
    let states : c.as_slice-3.result.now ≡ set i.states place Completed = c.as_slice-3.ensures ∙ c.set.ensures in
    let count : length c.as_slice-3.result.now ≡ length i.states = ap length states ∙ length-set i.states place Completed in
    record {
      within = subst (λ list. All (λ user. user < length c.as_slice-3.result.now) list) (sym list)
          (subst (λ (states : List JobState). All (λ user. user < length states) (get_or i.users.items place [])) (sym states)
          (users_within i.users.items (set i.states place Completed) place (begun_now i.users.items i.states i.unmet i.ready i.held i.to_hold i.running i.slots c.self.invariant place runs Completed)));
      count = c.self.invariant.counts.count ∙ sym count;
      «open» = λ user. subst (λ list. times user list ≤ get_or i.unmet user 0) (sym list) (less_open i.users.items i.states i.unmet i.ready i.held i.to_hold i.running i.slots c.self.invariant place runs user);
      room = subst (λ n. n ≤ length i.ready) (sym count) c.self.invariant.room;
      ready = subst (λ (states : List JobState). AreReady states i.unmet i.ready) (sym states) (ready_now i.users.items i.states i.unmet i.ready i.held i.to_hold i.running i.slots c.self.invariant place runs);
    }

pub invariant_of-self : goal.invariant_of-self
invariant_of-self c =
    let i = c.self.inside in
    let place = c.in_ok-place.place in
    let runs = still_runs i.states c.as_slice.result.now c.args.place place c.as_slice.ensures c.in_ok-place.ensures.0 c.in_ok-place.ensures.2 in
    let e = c.count_down.ensures in
    let list : c.as_slice-2.result.now ≡ get_or i.users.items place [] =
    c.as_slice-2.ensures ∙ get_or_read i.users.items place c.index.result.now (subst (λ n. place < n) (sym c.self.invariant.begun.count) (here i.users.items i.states i.unmet i.ready i.held i.to_hold i.running i.slots c.self.invariant place runs)) c.index.ensures [] in
    subst (λ (states : List JobState). Keeps i.users.items states c.count_down.new.unmet c.count_down.new.ready i.held i.to_hold (i.running - 1) i.slots) (sym c.set.ensures)
    (complete_keeps i.users.items i.states i.unmet i.ready i.held i.to_hold i.running i.slots c.self.invariant place runs c.count_down.new.unmet c.count_down.new.ready e.count e.room
    (subst (λ list. (user : ℕ) → get_or c.count_down.new.unmet user 0 + times user list ≡ get_or i.unmet user 0) list e.less)
    (subst (λ (states : List JobState). AreReady states c.count_down.new.unmet c.count_down.new.ready) (c.as_slice-3.ensures ∙ c.set.ensures) e.ready))

pub returns-clause-reply : goal.returns-clause-reply
returns-clause-reply c nodes slots events a = accepted nodes slots events c.args.self.now a c.args.place _ (c.as_slice.ensures ∙ ap (λ b. b.states) c.self.view_is) (c.in_ok-place.ensures.1, c.in_ok-place.ensures.2)

pub returns-clause-after : goal.returns-clause-after
returns-clause-after c nodes slots events a =
    after_completion nodes slots events c.args.self.now a c.args.place tt _ (state_set _ c.args.self.now c.set.new.self c.in_ok-place.place c.args.place Completed c.self.view_is c.set.ensures c.in_ok-place.ensures.0) (returns-clause-reply c nodes slots events a)
