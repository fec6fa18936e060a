use Rattle.std.proofs.Common.{◌∙◌, ap, sym}
use Rattle.std.proofs.lemmas.List.{drop_all}
use Rattle.std.specs.List.{list_all}
use Rattle.std.specs.Prelude.{Bool}
use Rattle.plan_types.specs.declared.dependency.LibName.{LibName}
use Rattle.package_declarations.specs.Declarations.{declares, is_library}
use Rattle.stanza_imports.proofs.NameList.{all-next, all-stops}
use Rattle.plan_types.specs.Packages.{library_name}
use Rattle.package_declarations.proofs.declarations.Declared.has_libraries.Goals as goal

pub returns-then-not-has_library : goal.returns-then-not-has_library
returns-then-not-has_library c file tells =
    let known : LibName → Bool = λ l. declares is_library file.sections (library_name l) in
    all-stops known c.args.libs.now c.loop-lib.lib-index c.lib-item.result c.loop-lib-test.true (sym c.lib-item.is) (sym (c.has_library.ensures file tells) ∙ c.if-not-has_library.true)
    ∙ c.loop-lib.invariant file tells

pub loop-lib-preserved : goal.loop-lib-preserved
loop-lib-preserved c file tells =
    let known : LibName → Bool = λ l. declares is_library file.sections (library_name l) in
    all-next known c.args.libs.now c.loop-lib.lib-index c.lib-item.result c.loop-lib-test.true (sym c.lib-item.is) (sym (c.has_library.ensures file tells) ∙ c.if-not-has_library.false)
    ∙ c.loop-lib.invariant file tells

pub returns : goal.returns
returns c file tells =
    let known : LibName → Bool = λ l. declares is_library file.sections (library_name l) in
    ap (list_all known) (sym (drop_all c.loop-lib.lib-index c.args.libs.now c.loop-lib-test.false)) ∙ c.loop-lib.invariant file tells
