use Rattle.std.proofs.Common.{◌∙◌, ap, sym, take, ◌++◌, ◌∷◌, []}
use Rattle.std.proofs.lemmas.List.{take_more}
use Rattle.package_declarations.specs.Declarations.{name_behind, own_name}
use Rattle.package_declarations.proofs.LastNames.{own-name-more}
use Rattle.package_declarations.proofs.declarations.own_name.Goals as goal

pub loop-field-preserved : goal.loop-field-preserved
loop-field-preserved c =
    let heads = c.args.heads.now in
    let field = c.field-item.result in
    c.name_behind-name.ensures
    ∙ ap (λ v. name_behind v field.head) c.loop-field.invariant
    ∙ sym (own-name-more (take c.loop-field.field-index heads) field)
    ∙ ap (λ v. own_name (take c.loop-field.field-index heads ++ v ∷ [])) c.field-item.is
    ∙ ap own_name (sym (take_more heads c.loop-field.field-index field c.loop-field-test.true))
