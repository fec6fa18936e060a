use Rattle.std.proofs.Common.{◌≡◌, ◌∙◌, ap, true}
use Rattle.std.specs.Prelude.{is_some}
use Rattle.std.specs.Option.{option_copied, option_map_or}
use Rattle.command_line.specs.declared.option_name.OptionName.TheVariants.{Compiler, Slots}
use Rattle.command_line.specs.Form.{is_compiler, is_slot_count}
use Rattle.command_line.specs.Reading.{compiler_or}
use Rattle.command_line.specs.Words.{given}
use Rattle.command_line.proofs.Forms.{compiler_formed}
use Rattle.command_line.proofs.Parsed.{well_formed}
use Rattle.command_line.proofs.reading.replay_of.Goals as goal

pub plain_options-requires : goal.plain_options-requires
plain_options-requires c =
    let words = c.args.words.now in
    ap (λ o. is_compiler (compiler_or o)) (c.in_ok-matches.ensures Compiler) ∙ compiler_formed (given Compiler words) (well_formed words (ap is_some c.requires) Compiler)

pub slots_of-slots-requires : goal.slots_of-slots-requires
slots_of-slots-requires c =
    let words = c.args.words.now in
    ap (λ o. option_map_or is_slot_count o true) (c.value_of-2.ensures ∙ c.in_ok-matches.ensures Slots) ∙ well_formed words (ap is_some c.requires) Slots
