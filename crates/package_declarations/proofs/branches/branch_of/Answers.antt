use Rattle.std.proofs.Common.{None, sym, subst}
use Rattle.std.proofs.lemmas.Result.{IfOk-weaker}
use Rattle.section_syntax.specs.Branch.{branch_of}
use Rattle.package_declarations.specs.Levels.{IsBranch}
use Rattle.package_declarations.proofs.branches.branch_of.Goals as goal

pub returns-in-If-clause-branch : goal.returns-in-If-clause-branch
returns-in-If-clause-branch c = IfOk-weaker c.if_branch.result _ _ (λ level told left numbered.
    subst (λ word. IsBranch c.if_branch.new.conds level (branch_of word left c.args.own.now)) (sym c.in-If.is) (told None tt)) c.if_branch.ensures.branch
