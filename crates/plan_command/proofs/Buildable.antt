-- In a printed plan, each identifier that a node needs is printed before the node.
use Rattle.std.proofs.Common.{◌≡◌, Bool, Option, Some, None, refl, sym, ap, ◌∙◌}
use Rattle.choice_problem.specs.Trail.{value_in}
use Rattle.choice_problem.specs.declared.outcome.Outcome.{Outcome}
use Rattle.choice_problem.specs.declared.outcome.Outcome.TheVariants as outcome
use Rattle.command_line.specs.declared.reading.Command.{Command}
use Rattle.outside_folder.specs.Files.{Bytes}
use Rattle.plan_components.specs.Chosen.{selection_from}
use Rattle.elaborate.proofs.NeedsBefore.{told_before}
use Rattle.plan_search.specs.Finding.{IsFindingOf}
use Rattle.plan_search.specs.declared.search.Finding.{Finding}
use Rattle.plan_search.specs.declared.search.Picking.{Picking}
use Rattle.plan_task.specs.Task.{IsReady}
use Rattle.plan_task.specs.declared.task.Task.{Task}
use Rattle.plan_command.specs.declared.answer.Answer.TheVariants.{Planned}
use Rattle.plan_command.specs.declared.form.Form.{Form}
use Rattle.plan_command.specs.declared.output.Output.{Output}
use Rattle.plan_command.specs.declared.status.Status.{Status}
use Rattle.plan_command.specs.Output.{IsOutputOfOutcome}
use Rattle.plan_command.specs.Run.{BuildsInOrder, IsFormOf, IsInOrder, IsPossibleOutput, MayPrint, Prints, minimizes, of_refusal, of_task, picking_for}
use Rattle.plan_command.proofs.Outputs.{prints-wider}

module _ (picking : Picking) (minimize : Bool) (IsForm : Form → Type 0) where
  module _ (form : Form) (of : IsForm form) (task : Task) (ready : IsReady task) (finding : Finding)
      (is : IsFindingOf picking minimize task.index task.settings finding) where
    by-outcome : (found : Outcome) → finding.outcome ≡ found → (output : Output)
        → IsOutputOfOutcome form task.settings.env task.index finding.names finding.blame found output → output.answer ≡ Planned → IsInOrder picking minimize IsForm output
    by-outcome (outcome.Found trail counts) same output (nodes, plan, planned) e = record {
      form = form;
      of_command = of;
      task = task;
      ready = ready;
      finding = finding;
      found = is;
      trail = trail;
      counts = counts;
      outcome_is = same;
      nodes = nodes;
      nodes_are = plan;
      planned = planned;
      told_before = told_before (selection_from task.index finding.names task.settings.env (value_in trail)) nodes plan;
    }
    by-outcome (outcome.NoPlan set counts) same output is e = let other = ap (λ (o : Output). o.answer) (sym is) ∙ e in absurd (cc other)
    by-outcome (outcome.GaveUp counts) same output is e = let other = ap (λ (o : Output). o.answer) (sym is) ∙ e in absurd (cc other)

  by-some : (output : Output) → IsPossibleOutput picking minimize IsForm output → output.answer ≡ Planned → IsInOrder picking minimize IsForm output
  by-some output (of_refusal refusal is) e = let other = ap (λ (o : Output). o.answer) (sym is) ∙ e in absurd (cc other)
  by-some output (of_task form of task ready is) e = by-outcome form of task ready is.finding is.found is.finding.outcome refl output is.output_is e

builds : (command : Option Command) (output : Output) → MayPrint command output → BuildsInOrder command output
builds None output is = λ e. let other = ap (λ (o : Output). o.answer) (sym is) ∙ e in absurd (cc other)
builds (Some command) output is = λ e. by-some (picking_for command) (minimizes command) (IsFormOf command) output is e

pub in-order : (command : Option Command) (old new : Option Bytes) (result : Status) → Prints (MayPrint command) old new result → Prints (BuildsInOrder command) old new result
in-order command old new result h = prints-wider (MayPrint command) (BuildsInOrder command) (builds command) old new result h
