use Rattle.std.proofs.Common.{◌≤◌, List, length, sym, subst}
use Rattle.plan_jobs.specs.declared.job.JobState.{JobState}
use Rattle.plan_jobs.specs.Board.{AreBegun, AreHeld, AreReady, HasFailed}
use Rattle.plan_jobs.proofs.Begin.{begun_at_first, keeps_at_first, after_none}
use Rattle.plan_jobs.proofs.jobs.Jobs.new.Goals as goal

pub held_at_first-requires : goal.held_at_first-requires
held_at_first-requires c =
    let needs = c.in_ok-users.field-0 in
    subst (λ users. AreBegun users c.as_slice-4.result.now) (sym c.as_slice-3.ensures.value)
    (subst (λ (states : List JobState). AreBegun needs.users.items states) (sym c.as_slice-4.ensures) (begun_at_first c.args.nodes.now needs c.in_ok-users.ensures))

pub invariant_of-result : goal.invariant_of-result
invariant_of-result c =
    let needs = c.in_ok-users.field-0 in
    let r = c.in_ok-ready.ensures in
    let h = c.in_ok-held.ensures in
    let ready = subst (λ (states : List JobState). AreReady states needs.unmet c.in_ok-ready.ready) c.as_slice.ensures
    (subst (λ unmet. AreReady c.as_slice.result.now unmet c.in_ok-ready.ready) c.as_slice-2.ensures r.ready) in
    let held = subst (λ (states : List JobState). AreHeld needs.users.items states (HasFailed states) c.in_ok-held.held.held) c.as_slice-4.ensures
    (subst (λ users. AreHeld users c.as_slice-4.result.now (HasFailed c.as_slice-4.result.now) c.in_ok-held.held.held) c.as_slice-3.ensures.value h.held) in
    keeps_at_first c.args.nodes.now needs c.in_ok-users.ensures c.in_ok-ready.ready c.in_ok-held.held.held c.in_ok-held.held.to_go c.args.slots
    (subst (λ (states : List JobState). length states ≤ length c.in_ok-ready.ready) c.as_slice.ensures r.room) ready held
    (subst (λ (states : List JobState). length states ≤ length c.in_ok-held.held.to_go) c.as_slice-4.ensures h.room) h.idle

pub returns : goal.returns
returns c = after_none c.args.nodes.now c.in_ok-users.field-0 c.in_ok-users.ensures c.args.slots
