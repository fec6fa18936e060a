use Rattle.std.proofs.Common.{◌≡◌, take}
use Rattle.std.specs.Prelude.{sum_by}
use Rattle.stanza_imports.specs.declared.stanzas.Built.{Built}
use Rattle.common_laws.specs.Small.{capped}
use Rattle.stanza_imports.proofs.stanzas.total_weight.Given as goal

abbrev pub invariant-loop-one : goal.invariant-loop-one
invariant-loop-one l = l.weight ≡ capped (sum_by (λ (b : Built). b.body.summary.weight) (take l.one-index l.one-items))
