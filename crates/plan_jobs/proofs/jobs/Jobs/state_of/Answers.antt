use Rattle.std.proofs.Common.{◌≡◌, ◌<◌, List, get_or, subst, ap, ◌∙◌}
use Rattle.plan_jobs.specs.declared.job.JobState.{JobState}
use Rattle.plan_jobs.specs.declared.job.JobState.TheVariants.{Waiting}
use Rattle.plan_jobs.proofs.NextStates.{after_count, after_state}
use Rattle.plan_jobs.proofs.jobs.Jobs.state_of.Goals as goal

pub returns : goal.returns
returns c = record {
  state = λ nodes slots events a.
      let board = c.args.self.now in
      let e : c.self.inside.states ≡ board.states = ap (λ b. b.states) c.self.view_is in
      ap (λ (s : List JobState). get_or s c.args.place Waiting) (c.as_slice.ensures ∙ e)
      ∙ after_state nodes slots events board a c.args.place (subst (λ n. c.args.place < n) (after_count nodes slots events board a) c.requires);
}
