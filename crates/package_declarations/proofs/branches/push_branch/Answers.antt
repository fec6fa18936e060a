use Rattle.std.proofs.Common.{◌++◌, [], ◌∷◌, map, Some, sym, subst, ap, ◌∙◌}
use Rattle.std.proofs.lemmas.Result.{on_ok_weaker}
use Rattle.section_syntax.specs.Branch.{condition}
use Rattle.package_declarations.specs.Gathering.{joined_some}
use Rattle.package_declarations.specs.Levels.{AreLevels, IsNumbered, innermost}
use Rattle.package_declarations.proofs.Levels.{all-last, innermost-numbered, levels-kept, levels-pushed, numbered-kept}
use Rattle.package_declarations.proofs.branches.push_branch.Goals as goal

pub returns-clause-levels : goal.returns-clause-levels
returns-clause-levels c = on_ok_weaker c.push.result (λ pushed opened one are is.
    let old = c.args.conds.now in
    let new = c.conjunction.new.conds in
    let grown = c.in_ok-taken.ensures.grown in
    let around = map condition opened in
    let numbered =
    subst (λ n. IsNumbered old n (joined_some around)) (sym (c.innermost-around.ensures ∙ ap innermost c.as_slice.ensures))
    (innermost-numbered old c.args.levels.now opened are) in
    let taken = c.in_ok-taken.ensures.number (joined_some around) one.condition numbered is.taken in
    subst (λ l. AreLevels new [] l (opened ++ one ∷ [])) (sym pushed)
    (levels-pushed new [] c.args.levels.now opened _ one (levels-kept old new grown [] c.args.levels.now opened are)
    (record {
      taken = taken ∙ ap Some (sym (all-last around one.condition));
      chain = numbered-kept old new grown c.args.branch.chain one.chain is.chain;
    }))) c.push.ensures.ok
