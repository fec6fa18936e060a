use Rattle.std.proofs.Common.{◌≡◌, ◌≤◌, length}
use Rattle.text_grammar.specs.Reading.{skip_blanks}
use Rattle.text_grammar.proofs.bytes.skip_blanks.Given as goal

-- only blanks were skipped so far
abbrev pub invariant-loop-rest : goal.invariant-loop-rest
invariant-loop-rest l = (skip_blanks l.rest ≡ skip_blanks l.text) × (length l.rest ≤ length l.text)

abbrev pub decreases-loop-rest : goal.decreases-loop-rest
decreases-loop-rest l = length l.rest
