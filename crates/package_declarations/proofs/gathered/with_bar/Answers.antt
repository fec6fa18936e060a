use Rattle.std.proofs.Common.{◌≡◌, ◌++◌, [], ◌∷◌, Bool, true, if◌then◌else◌, Some, subst, ap, ◌∙◌, sym}
use Rattle.std.proofs.lemmas.Option.{get_or_from_slice_get}
use Rattle.plan_types.specs.declared.condition.Cond.{Cond}
use Rattle.plan_types.specs.declared.condition.Cond.TheVariants.{Always, Not}
use Rattle.package_declarations.specs.Components.{unbuildable_said}
use Rattle.package_declarations.specs.Gathering.{joined_some}
use Rattle.package_declarations.specs.Levels.{IsNumbered}
use Rattle.package_declarations.proofs.Levels.{numbered-kept, some-last}
use Rattle.package_declarations.proofs.gathered.with_bar.Goals as goal

pub returns-clause-free : goal.returns-clause-free
returns-clause-free c before place numbered is =
    let old = c.args.conds.now in
    let mid = c.added.new.conds in
    let grown = c.in_ok-bar.ensures.grown in
    let bar = c.in_ok-bar.ensures.number ∙ ap (λ (cond : Cond). Some (Not cond)) (get_or_from_slice_get old c.args.here place Always is) in
    let free = c.in_ok-free.ensures.number (joined_some before) (Not place) (numbered-kept old mid grown c.args.barred (joined_some before) numbered) bar in
    let said : unbuildable_said c.args.said.now ≡ true = sym c.is_unbuildable.ensures ∙ c.if-not-is_unbuildable.false in
    let all = ap (λ (b : Bool). joined_some (before ++ (if b then Not place ∷ [] else []))) said ∙ some-last before (Not place) in
    subst (IsNumbered c.conjunction.new.conds (Some c.in_ok-free.free)) (sym all) free
