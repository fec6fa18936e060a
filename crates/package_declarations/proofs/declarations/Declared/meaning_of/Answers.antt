use Rattle.std.proofs.Common.{◌&&◌, ◌∙◌, ap}
use Rattle.package_declarations.specs.Declarations.{is_bare, is_own, meaning_by, own_name}
use Rattle.stanza_imports.specs.Names.{has}
use Rattle.package_declarations.proofs.declarations.Declared.meaning_of.Goals as goal

pub returns : goal.returns
returns c file tells =
    let dep = c.args.dep.now in
    let own = is_own (own_name file.heads) dep.«package» in
    c.meaning_by.ensures
    ∙ ap (λ o. meaning_by dep.kind o (c.is_bare-bare.result && c.has-library.result)) (c.is_own-own.ensures file tells)
    ∙ ap (λ b. meaning_by dep.kind own (b && c.has-library.result)) (c.is_bare-bare.ensures ∙ ap (is_bare c.args.self.now.spec) c.as_slice.ensures ∙ ap (λ spec. is_bare spec dep.libs) tells.spec)
    ∙ ap (λ n. meaning_by dep.kind own (is_bare file.spec dep.libs && n)) (c.has-library.ensures ∙ ap (has c.args.self.now.libraries) c.as_str.ensures ∙ tells.libraries dep.«package»)
