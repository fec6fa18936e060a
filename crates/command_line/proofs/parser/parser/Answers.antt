use Rattle.std.proofs.Common.{◌∙◌, ◌<◌, sym, ap, fold, get_or, length, subst, take, [], ◌∷◌}
use Rattle.std.proofs.lemmas.List.{take_more}
use Rattle.std.proofs.lemmas.List.Sums.{fold-append}
use Rattle.clap.specs.Words.{with_rule}
use Rattle.command_line.specs.declared.option_name.OptionName.TheVariants.{Index}
use Rattle.command_line.specs.Parser.{bare, command_rule, with_option}
use Rattle.command_line.proofs.parser.parser.Goals as goal

pub loop-option-preserved : goal.loop-option-preserved
loop-option-preserved c =
    let items = c.options-option-items.result in
    let i = c.loop-option.option-index in
    let within : i < length items = subst (λ xs. i < length xs) (sym c.options-option-items.ensures) c.loop-option-test.true in
    let option = get_or items i Index in
    let start = with_rule bare command_rule in
    c.in_ok-command-2.ensures ∙ ap (λ a. with_option a option) c.loop-option.invariant
    ∙ sym (fold-append with_option start (take i items) (option ∷ []))
    ∙ ap (fold with_option start) (sym (take_more items i Index within))
