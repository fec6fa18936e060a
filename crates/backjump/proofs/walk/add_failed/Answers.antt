-- the last set becomes the union
use Rattle.std.proofs.Common.{◌≡◌, [], ◌∷◌, ◌++◌, List, Option, sym, ap, subst, ◌∙◌}
use Rattle.std.specs.Prelude.{MatchOption}
use Rattle.qualified_goals.specs.declared.variable.Var.{Var}
use Rattle.choice_problem.specs.ConflictSet.{union}
use Rattle.choice_problem.proofs.TrailEnds.{snoc-same}
use Rattle.backjump.proofs.walk.add_failed.Goals as goal

pub returns : goal.returns
returns c outer before e =
    let old = c.args.failed.now in
    let kept = c.pop.new.self in
    let last = c.unwrap-last.result in
    let popped : old ≡ kept ++ last ∷ [] =
    subst (λ (o : Option (List Var)). MatchOption o ((old ≡ []) × (kept ≡ [])) (λ s. old ≡ kept ++ s ∷ [])) c.unwrap-last.ensures c.pop.ensures in
    let same = snoc-same kept last outer before (sym popped ∙ e) in
    c.in_ok-push.ensures.ok ∙ ap (λ (sets : List (List Var)). sets ++ c.in_ok-both.both ∷ []) same.0
    ∙ ap (λ (s : List Var). outer ++ s ∷ []) (c.in_ok-both.ensures ∙ ap (λ s. union s c.args.set) same.1)
