use Rattle.std.proofs.Common.{[], ◌∷◌, ◌&&◌, ◌||◌, Bool, sym, ap, ◌∙◌, take}
use Rattle.std.specs.List.{list_any}
use Rattle.std.proofs.Math.Bool.{or-false}
use Rattle.std.proofs.lemmas.List.Folds.{list_any-append}
use Rattle.common_laws.specs.Lists.{take_at}
use Rattle.plan_types.specs.declared.dependency.Relax.{Relax}
use Rattle.constraint_set.specs.Relaxed.{is_dep, is_owner}
use Rattle.constraint_set.proofs.relaxing.Relaxing.of.Goals as goal

pub loop-relax-preserved : goal.loop-relax-preserved
loop-relax-preserved c = λ i dep.
    let before = take c.loop-relax.relax-index c.args.relaxed.now in
    let relax = c.relax-item.result in
    let test : Relax → Bool = λ r. is_owner r.owner i && is_dep r.dep dep in
    c.in_ok-add.ensures i dep ∙ ap (λ b. b || test relax) (c.loop-relax.invariant i dep)
    ∙ sym (ap (list_any test) (take_at c.args.relaxed.now c.loop-relax.relax-index relax c.loop-relax-test.true c.relax-item.is)
    ∙ list_any-append test before (relax ∷ []) ∙ ap (λ b. list_any test before || b) (or-false (test relax)))
