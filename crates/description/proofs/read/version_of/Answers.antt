use Rattle.std.proofs.Common.{◌∙◌, ap, sym, take, ◌++◌, ◌∷◌, []}
use Rattle.std.proofs.lemmas.List.{take_more}
use Rattle.std.specs.Option.{option_or}
use Rattle.description.specs.Description.{version_of, version_said}
use Rattle.text_grammar.proofs.LastValue.{last_push}
use Rattle.description.specs.ShownVersion.{shown_version}
use Rattle.description.proofs.read.version_of.Goals as goal

pub loop-field-preserved : goal.loop-field-preserved
loop-field-preserved c =
    let heads = c.args.heads.now in
    let field = c.field-item.result in
    c.later-version.ensures
    ∙ ap (option_or (shown_version c.version_said.result)) c.loop-field.invariant
    ∙ ap (λ v. option_or v (version_of (take c.loop-field.field-index heads))) c.version_said.ensures
    ∙ sym (last_push (λ f. version_said f.head) (take c.loop-field.field-index heads) field)
    ∙ ap (λ v. version_of (take c.loop-field.field-index heads ++ v ∷ [])) c.field-item.is
    ∙ ap version_of (sym (take_more heads c.loop-field.field-index field c.loop-field-test.true))
