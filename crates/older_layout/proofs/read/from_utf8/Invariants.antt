use Rattle.std.proofs.Common.{◌≡◌, ◌≤◌, ◌*◌, length}
use Rattle.std.specs.Prelude.{map}
use Rattle.std.specs.String.{string_bytes}
use Rattle.older_layout.specs.OlderTree.{plain_text}
use Rattle.older_layout.proofs.read.from_utf8.Given as goal

abbrev pub invariant-loop-character : goal.invariant-loop-character
invariant-loop-character l = (string_bytes l.string ≡ plain_text (map (λ c. c) l.yielded)) × (length (string_bytes l.string) ≤ 4 * length l.yielded)
