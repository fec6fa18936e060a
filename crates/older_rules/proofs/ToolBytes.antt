-- The bytes of tools are ASCII.
use Rattle.std.proofs.Common.{arith}
use Rattle.std.proofs.lemmas.Bool.Decides.{nat_tests}
use Rattle.text_grammar.proofs.Boundaries.{PassesAscii}
use Rattle.older_rules.specs.Tools.{is_tool_byte}

pub is_tool_byte-ascii : PassesAscii is_tool_byte
is_tool_byte-ascii b h = grind (arith, nat_tests)
