use Rattle.std.proofs.Common.{◌≡◌, [], sym, ap, ◌∙◌, drop, arith}
use Rattle.std.proofs.lemmas.List.{drop_all}
use Rattle.std.proofs.lemmas.Result.{IfOk-weaker}
use Rattle.cabal_lexer.specs.Tree.{tree_of}
use Rattle.older_fields.specs.Refused.{first_fault}
use Rattle.older_fields.proofs.FaultSteps.{in_field, in_section}
use Rattle.older_fields.proofs.refused.+faults.Goals as goal

pub fault_in-returns-in-Field : goal.fault_in-returns-in-Field
fault_in-returns-in-Field t c =
    let part = c.in-Field in
    IfOk-weaker c.field_fault.result _ _ (λ found is. in_field c.args.edition c.args.item.now part.line part.name part.values found part.is is) c.field_fault.ensures

pub fault_in-returns-in-Section : goal.fault_in-returns-in-Section
fault_in-returns-in-Section t c =
    let part = c.in-Section in
    IfOk-weaker c.first_fault.result _ _
    (λ found is. in_section c.args.edition c.args.item.now part.line part.name part.args part.items found part.is
    (is ∙ ap (λ items. first_fault c.args.edition (tree_of items)) c.as_slice.ensures))
    c.first_fault.ensures

pub first_fault-returns : goal.first_fault-returns
unfolding first_fault
first_fault-returns t c =
    let over : drop c.loop-item.item-index c.args.items.now ≡ [] = drop_all c.loop-item.item-index c.args.items.now (omega (arith, c.loop-item-test.false, c.loop-item.auto.item-index-end)) in
    ap (λ rest. first_fault c.args.edition (tree_of rest)) (sym over) ∙ c.loop-item.invariant
