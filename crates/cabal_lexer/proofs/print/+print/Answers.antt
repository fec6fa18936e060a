use Rattle.std.proofs.Common.{◌∙◌}
use Rattle.std.proofs.lemmas.Result.{on_ok_weaker}
use Rattle.cabal_lexer.proofs.Printed.{section_printed}
use Rattle.cabal_lexer.proofs.print.+print.Goals as goal

pub print_element-returns-in_ok-inner-in-Section : goal.print_element-returns-in_ok-inner-in-Section
print_element-returns-in_ok-inner-in-Section t c =
    on_ok_weaker c.print_items.result
    (section_printed c.args.text.now _ _ c.args.indent.now _ _ _ _ _ _ _ c.args.element.now c.in-Section.line c.in-Section.is c.as_str-in-Section.ensures c.as_str-in-Section-2.ensures
    c.as_slice-in-Section.ensures (c.as_str-in-Section-3.ensures ∙ c.in_ok-inner-in-Section.ensures) c.in_ok-print_section_line-in-Section.ensures)
    c.print_items.ensures
