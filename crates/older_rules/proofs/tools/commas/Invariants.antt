use Rattle.std.proofs.Common.{◌≡◌, ◌++◌, length}
use Rattle.older_rules.specs.Tools.{commas}
use Rattle.older_rules.proofs.tools.commas.Given as goal

-- the text so far and the rest make the whole text
abbrev pub invariant-loop-rest : goal.invariant-loop-rest
invariant-loop-rest l = l.text ++ commas l.rest ≡ commas l.texts

abbrev pub decreases-loop-rest : goal.decreases-loop-rest
decreases-loop-rest l = length l.rest
