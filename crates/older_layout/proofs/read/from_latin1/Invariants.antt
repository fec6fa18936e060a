use Rattle.std.proofs.Common.{◌≡◌, ◌≤◌, ◌*◌, length, take}
use Rattle.std.specs.String.{string_bytes}
use Rattle.older_layout.specs.OlderTree.{plain_text}
use Rattle.older_layout.proofs.read.from_latin1.Given as goal

abbrev pub invariant-loop-byte : goal.invariant-loop-byte
invariant-loop-byte l = (string_bytes l.string ≡ plain_text (take l.byte-index l.bytes)) × (length (string_bytes l.string) ≤ 4 * l.byte-index)
