use Rattle.std.proofs.Common.{◌∙◌, ◌++◌, ap, sym}
use Rattle.std.proofs.lemmas.Result.{on_ok_weaker}
use Rattle.plan_types.specs.Bytes.{joined_text}
use Rattle.project_file.specs.Parts.{flag_part, flag_parts}
use Rattle.project_file.proofs.Walk.{flag_field, flag_section}
use Rattle.cabal_lexer.proofs.ElementTrees.{added}
use Rattle.project_file.proofs.package.read_item.Goals as goal

pub returns-in-Field : goal.returns-in-Field
returns-in-Field c =
    let args = c.args.args.now in
    let old = c.args.parts.now in
    let field = c.in-Field in
    on_ok_weaker c.read_field.result
    (λ e behind. added old (flag_part args field.line field.name (joined_text field.values)) (flag_parts args behind) e
    ∙ ap (λ v. old ++ v) (sym (flag_field args field.line field.name field.values behind field.is)))
    c.read_field.ensures

pub returns-in-Section : goal.returns-in-Section
returns-in-Section c behind =
    ap (λ v. c.args.parts.now ++ v) (sym (flag_section c.args.args.now _ _ _ _ behind c.in-Section.is))
