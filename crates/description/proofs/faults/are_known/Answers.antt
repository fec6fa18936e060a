use Rattle.std.proofs.Common.{◌∙◌, ap, sym}
use Rattle.std.proofs.lemmas.List.{drop_all}
use Rattle.std.specs.List.{list_all}
use Rattle.package_declarations.specs.Declarations.{is_known}
use Rattle.stanza_imports.proofs.NameList.{all-next, all-stops}
use Rattle.description.proofs.faults.are_known.Goals as goal

pub returns-then-not-is_known : goal.returns-then-not-is_known
returns-then-not-is_known c file tells =
    all-stops (is_known file) c.args.deps.now c.loop-dep.dep-index c.dep-item.result c.loop-dep-test.true (sym c.dep-item.is) (sym (c.is_known.ensures file tells) ∙ c.if-not-is_known.true)
    ∙ c.loop-dep.invariant file tells

pub loop-dep-preserved : goal.loop-dep-preserved
loop-dep-preserved c file tells =
    all-next (is_known file) c.args.deps.now c.loop-dep.dep-index c.dep-item.result c.loop-dep-test.true (sym c.dep-item.is) (sym (c.is_known.ensures file tells) ∙ c.if-not-is_known.false)
    ∙ c.loop-dep.invariant file tells

pub returns : goal.returns
returns c file tells = ap (list_all (is_known file)) (sym (drop_all c.loop-dep.dep-index c.args.deps.now c.loop-dep-test.false)) ∙ c.loop-dep.invariant file tells
