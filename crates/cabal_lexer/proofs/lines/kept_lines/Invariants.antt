use Rattle.std.proofs.Common.{◌≡◌, ◌<◌, ◌^◌, length}
use Rattle.std.specs.Prelude.{map}
use Rattle.cabal_lexer.specs.Lines.{kept_from}
use Rattle.cabal_lexer.proofs.lines.kept_lines.Given as goal

abbrev pub invariant-loop-raw : goal.invariant-loop-raw
invariant-loop-raw l = (l.kept.items ≡ kept_from 1 (map (λ raw. raw.now) l.yielded)) × (l.number ≡ length l.yielded) × (length l.raw-iterator.rest.now < 2 ^ 32)
