use Rattle.std.proofs.Common.{◌≡◌, ◌++◌, length}
use Rattle.plan_types.specs.Bytes.{joined_text}
use Rattle.plan_types.proofs.element.joined_text.Given as goal

-- the text so far and the rest make the whole text
abbrev pub invariant-loop-rest : goal.invariant-loop-rest
invariant-loop-rest l = l.text ++ joined_text l.rest ≡ joined_text l.values

abbrev pub decreases-loop-rest : goal.decreases-loop-rest
decreases-loop-rest l = length l.rest
