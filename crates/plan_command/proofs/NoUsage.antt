-- A command's output isn't the usage line.
use Rattle.std.proofs.Common.{◌≡◌, ◌≢◌, Bool, Option, Some, refl, sym, ap, ◌∙◌}
use Rattle.choice_problem.specs.declared.outcome.Outcome.{Outcome}
use Rattle.choice_problem.specs.declared.outcome.Outcome.TheVariants as outcome
use Rattle.command_line.specs.declared.reading.Command.{Command}
use Rattle.outside_folder.specs.Files.{Bytes}
use Rattle.plan_search.specs.declared.search.Picking.{Picking}
use Rattle.plan_task.specs.declared.task.Task.{Task}
use Rattle.plan_search.specs.declared.search.Finding.{Finding}
use Rattle.plan_command.specs.declared.answer.Answer.{Answer}
use Rattle.plan_command.specs.declared.answer.Answer.TheVariants as answer
use Rattle.plan_command.specs.declared.form.Form.{Form}
use Rattle.plan_command.specs.declared.output.Output.{Output}
use Rattle.plan_command.specs.declared.status.Status.{Status}
use Rattle.plan_command.specs.declared.status.Status.TheVariants as status
use Rattle.plan_command.specs.Output.{IsOutputOfOutcome}
use Rattle.plan_command.specs.Run.{IsFormOf, IsPossibleOutput, MayPrint, Prints, failed_read, minimizes, of_refusal, of_task, out_of_memory, picking_for, text_prefix, whole_text}
use Rattle.plan_command.specs.Status.{status_of}

by-outcome : (form : Form) (task : Task) (finding : Finding) (found : Outcome) (output : Output)
    → IsOutputOfOutcome form task.settings.env task.index finding.names finding.blame found output → output.answer ≢ answer.Usage
by-outcome form task finding (outcome.Found trail counts) output (nodes, plan, planned) e = let other = sym planned.answer_is ∙ e in absurd (cc other)
by-outcome form task finding (outcome.NoPlan set counts) output is e = let other = ap (λ (o : Output). o.answer) (sym is) ∙ e in absurd (cc other)
by-outcome form task finding (outcome.GaveUp counts) output is e = let other = ap (λ (o : Output). o.answer) (sym is) ∙ e in absurd (cc other)

possible : (picking : Picking) (minimize : Bool) (IsForm : Form → Type 0) (output : Output) → IsPossibleOutput picking minimize IsForm output → output.answer ≢ answer.Usage
possible picking minimize IsForm output (of_refusal refusal is) e = let other = ap (λ (o : Output). o.answer) (sym is) ∙ e in absurd (cc other)
possible picking minimize IsForm output (of_task form of task ready is) e = by-outcome form task is.finding is.finding.outcome output is.output_is e

-- only the answer `Usage` has the status `Usage`
of-usage : (found : Answer) → status_of found ≡ status.Usage → found ≡ answer.Usage
of-usage answer.Planned e = absurd (cc e)
of-usage answer.NoPlan e = absurd (cc e)
of-usage answer.GaveUp e = absurd (cc e)
of-usage answer.Refused e = absurd (cc e)
of-usage answer.Usage e = refl

-- so a run of a command doesn't end with that status
pub no-usage : (command : Command) (old new : Option Bytes) (end : Status) → Prints (MayPrint (Some command)) old new end → end ≢ status.Usage
no-usage command old new end (whole_text output is answer_is appends) e =
    possible (picking_for command) (minimizes command) (IsFormOf command) output is (of-usage output.answer (sym answer_is ∙ e))
no-usage command old new end (text_prefix output is failed appends) e = let other = sym failed ∙ e in absurd (cc other)
no-usage command old new end (failed_read failed same) e = let other = sym failed ∙ e in absurd (cc other)
no-usage command old new end (out_of_memory none same) e = let other = sym none ∙ e in absurd (cc other)
