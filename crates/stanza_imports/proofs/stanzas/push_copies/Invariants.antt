use Rattle.std.proofs.Common.{◌≡◌, ◌++◌, drop}
use Rattle.stanza_imports.proofs.stanzas.push_copies.Given as goal

abbrev pub invariant-loop-cond : goal.invariant-loop-cond
invariant-loop-cond l = l.conds ++ drop l.cond-index l.more ≡ l.fn.conds ++ l.more
