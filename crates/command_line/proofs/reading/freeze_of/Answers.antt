use Rattle.std.proofs.Common.{◌≡◌, ◌∙◌, ap, true}
use Rattle.std.specs.Prelude.{is_some}
use Rattle.command_line.specs.declared.option_name.OptionName.TheVariants.{Compiler}
use Rattle.command_line.specs.Form.{is_compiler}
use Rattle.command_line.specs.Reading.{compiler_or}
use Rattle.command_line.specs.Words.{given}
use Rattle.command_line.proofs.Forms.{compiler_formed}
use Rattle.command_line.proofs.Parsed.{well_formed}
use Rattle.command_line.proofs.reading.freeze_of.Goals as goal

pub plain_options-requires : goal.plain_options-requires
plain_options-requires c =
    let words = c.args.words.now in
    ap (λ o. is_compiler (compiler_or o)) (c.in_ok-matches.ensures Compiler) ∙ compiler_formed (given Compiler words) (well_formed words (ap is_some c.requires) Compiler)
