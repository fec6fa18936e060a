-- A job's state is one of four.
use Rattle.std.proofs.Common.{◌≡◌, inl, inr, refl}
use Rattle.plan_jobs.specs.declared.job.JobState.{JobState}
use Rattle.plan_jobs.specs.declared.job.JobState.TheVariants.{Waiting, Running, Completed, Failed}
use Rattle.common_laws.specs.Decidability.{Dec}

pub waits : (s : JobState) → Dec (s ≡ Waiting)
waits Waiting = inl refl
waits Running = inr (λ e. cc e)
waits Completed = inr (λ e. cc e)
waits Failed = inr (λ e. cc e)

pub runs : (s : JobState) → Dec (s ≡ Running)
runs Waiting = inr (λ e. cc e)
runs Running = inl refl
runs Completed = inr (λ e. cc e)
runs Failed = inr (λ e. cc e)

pub completed : (s : JobState) → Dec (s ≡ Completed)
completed Waiting = inr (λ e. cc e)
completed Running = inr (λ e. cc e)
completed Completed = inl refl
completed Failed = inr (λ e. cc e)

pub failed : (s : JobState) → Dec (s ≡ Failed)
failed Waiting = inr (λ e. cc e)
failed Running = inr (λ e. cc e)
failed Completed = inr (λ e. cc e)
failed Failed = inl refl
