use Rattle.std.proofs.Common.{◌≡◌, ◌∙◌, ap, false}
use Rattle.std.specs.Option.{option_copied, option_map_or}
use Rattle.command_line.specs.declared.option_name.OptionName.TheVariants.{Number}
use Rattle.command_line.specs.Form.{is_number}
use Rattle.command_line.proofs.Parsed.{number_given}
use Rattle.command_line.proofs.reading.generate_of.Goals as goal

pub number_of-number-requires : goal.number_of-number-requires
number_of-number-requires c =
    let words = c.args.words.now in
    ap (λ o. option_map_or is_number o false) (c.value_of.ensures ∙ c.in_ok-matches.ensures Number) ∙ number_given words c.requires
