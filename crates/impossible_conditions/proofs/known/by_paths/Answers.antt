use Rattle.std.proofs.Common.{sym, ap, ◌∙◌, subst}
use Rattle.conditionals.specs.Paths.{holds}
use Rattle.impossible_conditions.specs.FlagSettings.{AreSet}
use Rattle.impossible_conditions.proofs.Settings.{some-there, the-only}
use Rattle.impossible_conditions.proofs.known.by_paths.Goals.{then-paths-eq1+in_ok-add, else-paths-eq1}
use Rattle.impossible_conditions.proofs.known.by_paths.Goals as goal

pub returns : goal.returns
returns c flags some =
    let required : AreSet flags c.if-paths-eq1.required = elim c.if-paths-eq1.branch [
      | then-paths-eq1+in_ok-add w ↦
          let path = w.index-paths-0.result in
          let held = ap (holds flags) w.as_slice.ensures ∙ the-only flags c.args.paths.now path some w.if-paths-eq1.true w.index-paths-0.is in
          subst (AreSet flags) (sym w.required-is) (w.in_ok-add.ensures.learnt flags (c.new-required.ensures flags) held)
      | else-paths-eq1 w ↦ subst (AreSet flags) (sym w.required-is) (c.new-required.ensures flags)
    ] in
    record { known_impossible = some-there flags c.args.paths.now c.is_empty.result some c.is_empty.ensures; required = required }
