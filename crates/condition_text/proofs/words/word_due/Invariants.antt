use Rattle.std.proofs.Common.{◌≡◌, ◌≤◌, length}
use Rattle.text_grammar.specs.Reading.{word_due}
use Rattle.condition_text.specs.Reading.{bad}
use Rattle.condition_text.proofs.words.word_due.Given as goal

-- the remaining letters decide the result
abbrev pub invariant-loop-letters : goal.invariant-loop-letters
invariant-loop-letters l = (word_due bad l.letters l.rest ≡ word_due bad l.word l.text) × (length l.rest ≤ length l.text)

abbrev pub decreases-loop-letters : goal.decreases-loop-letters
decreases-loop-letters l = length l.letters
