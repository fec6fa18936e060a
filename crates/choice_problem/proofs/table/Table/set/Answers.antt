use Rattle.std.proofs.Common.{Some, ◌∙◌, ap, sym}
use Rattle.choice_problem.specs.Table.{entry}
use Rattle.choice_problem.proofs.PartialMaps.{stored, updated}
use Rattle.choice_problem.proofs.table.Table.set.Goals as goal
use Rattle.choice_problem.proofs.table.Table.set.Goals.{in-Ok, in-Err}

pub returns-clause-ok : goal.returns-clause-ok
returns-clause-ok c =
    elim c.match-insert.branch [
      | in-Ok w ↦ rw w.result-is (λ q.
          updated c.self.inside.entries.entries c.insert.new.self.entries c.args.self.now c.args.v q (Some c.args.n)
          c.self.view_is (w.in-Ok.ensures.updates.0 q))
      | in-Err w ↦ rw w.result-is tt
    ]

pub returns-clause-absent : goal.returns-clause-absent
returns-clause-absent c =
    elim c.match-insert.branch [
      | in-Ok w ↦ rw w.result-is tt
      | in-Err w ↦ rw w.result-is
          (ap (λ es. entry es c.args.v) (sym c.self.view_is) ∙ sym (stored c.self.inside.entries.entries c.args.v) ∙ w.in-Err.ensures.absent)
    ]
