use Rattle.std.proofs.Common.{Err, ap, ◌∙◌, subst, sym, ◌++◌}
use Rattle.std.proofs.lemmas.Result.{err_from_is_err_and}
use Rattle.entry_text.specs.Entries.{Each}
use Rattle.entry_text.proofs.CommaCuts.{texts}
use Rattle.entry_text.proofs.FoundEntries.{refuses_so, err_so, reads_more, fails_later, fails_here, reads_all}
use Rattle.entry_text.proofs.entries.read_each.Goals as goal

pub returns-in_err-item-clause-fault : goal.returns-in_err-item-clause-fault
returns-in_err-item-clause-fault g c =
    let row = c.args.row.now in
    let parts = c.args.parts.now in
    let p = err_from_is_err_and c.from_residual.result c.from_residual.ensures.1 in
    err_so _ c.from_residual.result c.in_err-item.field-0.0 (p.1 ∙ ap Err p.2)
    (refuses_so c.in_err-item.field-0.0 (fails_here (g.R.EntryKind.stands row) (g.R.EntryKind.fails row) (texts parts) parts c.loop-part.part-index _ c.loop-part-test.true c.loop-part.invariant.fails) c.in_err-item.ensures.fault)

pub loop-part-preserved : goal.loop-part-preserved
loop-part-preserved g c =
    let row = c.args.row.now in
    let parts = c.args.parts.now in
    let i = c.loop-part.part-index in
    record {
      reads = λ xs each. subst (λ t. Each (g.R.EntryKind.stands row) (texts parts) (t ++ xs)) (sym c.in_ok-push.ensures.ok)
          (reads_more (g.R.EntryKind.stands row) (texts parts) parts i _ c.loop-part.found c.in_ok-item.item c.loop-part-test.true c.in_ok-item.ensures.found c.loop-part.invariant.reads xs each);
      fails = fails_later (g.R.EntryKind.stands row) (g.R.EntryKind.fails row) (texts parts) parts i _ c.in_ok-item.item c.loop-part-test.true c.in_ok-item.ensures.found c.loop-part.invariant.fails;
    }

pub returns-clause-found : goal.returns-clause-found
returns-clause-found g c = reads_all (g.R.EntryKind.stands c.args.row.now) (texts c.args.parts.now) c.args.parts.now c.loop-part.part-index c.loop-part.found c.loop-part-test.false c.loop-part.invariant.reads
