use Rattle.std.proofs.Common.{Some, ap, ◌∙◌}
use Rattle.std.proofs.lemmas.Option.{get_or_from_slice_get}
use Rattle.plan_types.specs.declared.condition.Cond.{Cond}
use Rattle.plan_types.specs.declared.condition.Cond.TheVariants.{Always, Not}
use Rattle.section_syntax.specs.Branch.{or_never, with_chain}
use Rattle.package_declarations.proofs.Levels.{grown-both, kept, numbered-kept}
use Rattle.package_declarations.proofs.branches.if_branch.Goals as goal

pub returns-clause-branch : goal.returns-clause-branch
returns-clause-branch c left numbered =
    let before = c.args.conds.now in
    let first = c.added.new.conds in
    let second = c.added-2.new.conds in
    let third = c.conjunction.new.conds in
    let after = c.conjunction-2.new.conds in
    let own = or_never c.args.own.now in
    let to_second = grown-both before first second c.in_ok-own-2.ensures.grown c.in_ok-other.ensures.grown in
    let to_third = grown-both before second third to_second c.in_ok-taken.ensures.grown in
    let own_is = c.in_ok-own-2.ensures.number ∙ ap Some c.in_ok-own.ensures in
    let other_is =
    c.in_ok-other.ensures.number
    ∙ ap (λ (cond : Cond). Some (Not cond)) (get_or_from_slice_get first c.in_ok-own-2.own own Always own_is) in
    let taken =
    c.in_ok-taken.ensures.number left own (numbered-kept before second to_second c.args.chain left numbered)
    (kept first second c.in_ok-other.ensures.grown c.in_ok-own-2.own own own_is) in
    record {
      taken = kept third after c.in_ok-left.ensures.grown c.in_ok-taken.taken (with_chain left own) taken;
      chain =
          c.in_ok-left.ensures.number left (Not own) (numbered-kept before third to_third c.args.chain left numbered)
          (kept second third c.in_ok-taken.ensures.grown c.in_ok-other.other (Not own) other_is);
    }
