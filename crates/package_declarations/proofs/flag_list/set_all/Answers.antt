use Rattle.std.proofs.Common.{unwrap_or, drop, ◌+◌, refl, ap, ◌∙◌}
use Rattle.plan_types.specs.declared.description.FlagDecl.{FlagDecl}
use Rattle.text_grammar.specs.Last.{last_given}
use Rattle.package_declarations.specs.Flags.{default_said, manual_said}
use Rattle.package_declarations.proofs.LastValues.{last_more}
use Rattle.package_declarations.proofs.flag_list.set_all.Goals as goal

pub loop-part-preserved : goal.loop-part-preserved
loop-part-preserved c =
    let parts = c.args.parts.now in
    let part = c.part-item.result in
    let n = c.loop-part.part-index in
    let old = c.loop-part.flag in
    let with : FlagDecl → FlagDecl = λ flag. record flag {
      default = unwrap_or (last_given (λ p. default_said p.said) (drop (n + 1) parts)) flag.default;
      manual = unwrap_or (last_given (λ p. manual_said p.said) (drop (n + 1) parts)) flag.manual;
    } in
    ap with c.set.ensures
    ∙ (λ i. record old {
      default = last_more (λ p. default_said p.said) old.default _ parts n part c.loop-part-test.true c.part-item.is refl i;
      manual = last_more (λ p. manual_said p.said) old.manual _ parts n part c.loop-part-test.true c.part-item.is refl i;
    })
    ∙ c.loop-part.invariant
