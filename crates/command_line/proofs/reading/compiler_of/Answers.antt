use Rattle.std.proofs.Common.{subst, sym}
use Rattle.std.specs.Str.{IsAscii}
use Rattle.std.proofs.lemmas.Bool.{and_parts}
use Rattle.condition_text.specs.Grammar.{is_compiler_name}
use Rattle.command_line.specs.Form.{compiler_digits, compiler_name, is_version_text}
use Rattle.command_line.proofs.Forms.{compiler_ascii}
use Rattle.command_line.proofs.reading.compiler_of.Goals as goal

pub from_ascii-requires : goal.from_ascii-requires
from_ascii-requires c =
    let text = c.args.text.now in
    let parts = and_parts (is_compiler_name (compiler_name text)) (is_version_text (compiler_digits text)) c.requires in
    subst IsAscii (sym c.cut_at_last_dash.ensures.name) (compiler_ascii (compiler_name text) parts.0)
