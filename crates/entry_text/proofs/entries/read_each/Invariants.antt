use Rattle.std.proofs.Common.{List, ◌++◌, drop}
use Rattle.plan_types.specs.declared.refusal.Cause.{Cause}
use Rattle.entry_text.specs.Entries.{Each, First}
use Rattle.entry_text.proofs.CommaCuts.{texts}
use Rattle.entry_text.proofs.entries.read_each.Given as goal

-- the values so far, followed by those of the remaining parts, are those of all parts
abbrev pub invariant-loop-part : goal.invariant-loop-part
invariant-loop-part g l = record {
  reads : (more : List g.row.R-Item.Denot) → Each (g.R.EntryKind.stands l.row) (texts (drop l.part-index l.parts)) more → Each (g.R.EntryKind.stands l.row) (texts l.parts) (l.found ++ more);
  fails : (cause : Cause) → First (g.R.EntryKind.stands l.row) (g.R.EntryKind.fails l.row) (texts (drop l.part-index l.parts)) cause → First (g.R.EntryKind.stands l.row) (g.R.EntryKind.fails l.row) (texts l.parts) cause;
}
