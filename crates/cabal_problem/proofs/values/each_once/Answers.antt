use Rattle.std.proofs.Common.{ℕ, ◌∙◌, ◌∷◌, [], ◌++◌, cond, List, Some, take, get_or, sym, ap}
use Rattle.std.proofs.lemmas.List.{take_more}
use Rattle.choice_problem.specs.Assignment.{is_one_of}
use Rattle.cabal_problem.specs.Values.{each_once}
use Rattle.cabal_problem.proofs.Elsewhere.{each_once-push}
use Rattle.cabal_problem.proofs.values.each_once.Goals as goal

pub loop-n-preserved : goal.loop-n-preserved
loop-n-preserved c =
    let values = c.args.values.now in
    let n = get_or values c.loop-n.n-index 0 in
    c.in_ok-push_new.ensures
    ∙ ap (λ (l : List ℕ). l ++ cond (is_one_of (Some n) l) [] (n ∷ [])) c.loop-n.invariant
    ∙ sym (each_once-push (take c.loop-n.n-index values) n)
    ∙ ap each_once (sym (take_more values c.loop-n.n-index 0 c.loop-n-test.true))
