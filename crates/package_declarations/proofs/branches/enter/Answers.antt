use Rattle.std.proofs.Common.{◌≡◌, Bool, true, false, if◌then◌else◌, ℕ, ◌++◌, List, [], Option, None, sym, subst}
use Rattle.std.proofs.lemmas.Result.{on_ok_weaker}
use Rattle.plan_types.specs.declared.condition.Cond.{Cond}
use Rattle.section_syntax.specs.Branch.{branch_of}
use Rattle.section_syntax.specs.Chained.{begun, chain_after}
use Rattle.package_declarations.specs.Levels.{AreLevels, IsNumbered}
use Rattle.package_declarations.proofs.Levels.{levels-kept}
use Rattle.package_declarations.proofs.branches.enter.Goals as goal
use Rattle.package_declarations.proofs.branches.enter.Goals.{then-fits, else-fits}

where-fits : (conds : List Cond) (fits : Bool) (chain used : Option ℕ) (left : Option Cond) → fits ≡ true → used ≡ chain → IsNumbered conds chain left → IsNumbered conds used (if fits then left else None)
where-fits conds fits chain used left is same numbered = rw is (subst (λ n. IsNumbered conds n left) (sym same) numbered)

where-not : (conds : List Cond) (fits : Bool) (used : Option ℕ) (left : Option Cond) → fits ≡ false → used ≡ None → IsNumbered conds used (if fits then left else None)
where-not conds fits used left is none = rw is (subst (λ n. IsNumbered conds n None) (sym none) tt)

pub returns-in_ok-branch-in-Branch-clause-levels : goal.returns-in_ok-branch-in-Branch-clause-levels
returns-in_ok-branch-in-Branch-clause-levels c = on_ok_weaker c.push_branch.result (λ told opened before are numbered.
    let old = c.args.conds.now in
    let found = c.branch_of.new.conds in
    let fits = c.in-Branch.fits in
    let left = if fits then chain_after before else None in
    let fitted : IsNumbered old c.if-fits.chain left = elim c.if-fits.branch [
      | then-fits w ↦ where-fits old fits c.args.chain c.if-fits.chain (chain_after before) w.if-fits.true w.chain-is numbered
      | else-fits w ↦ where-not old fits c.if-fits.chain (chain_after before) w.if-fits.false w.chain-is
    ] in
    let one = branch_of c.in-Branch.word left c.in-Branch.condition in
    subst (λ said. AreLevels c.push_branch.new.conds [] c.push_branch.new.levels (opened ++ begun said before)) (sym c.in-Branch.is)
    (told opened one (levels-kept old found c.in_ok-branch-in-Branch.ensures.grown [] c.args.levels.now opened are)
    (c.in_ok-branch-in-Branch.ensures.branch left fitted))) c.push_branch.ensures.levels
