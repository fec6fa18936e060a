-- Answers of outer points by those of inner ones. The count of tries never falls.
use Rattle.std.proofs.Common.{◌≡◌, ℕ, zero, suc, ◌≤◌, true, false, cond, not, ◌&&◌, List, [], ◌∷◌, ◌++◌, Some, None, refl, ap, arith}
use Rattle.qualified_goals.specs.declared.variable.Var.{Var}
use Rattle.choice_problem.specs.declared.problem.Choice.{Choice}
use Rattle.choice_problem.specs.Trail.{with_next}
use Rattle.choice_problem.specs.Active.{open_in}
use Rattle.choice_problem.specs.Conflict.{conflict}
use Rattle.choice_problem.specs.ConflictSet.{has, union}
use Rattle.choice_problem.specs.Answer.{Found, GaveUp, Past, Answer, fails, after_conflict, of_value, of_values}
use Rattle.choice_problem.proofs.SearchLimits.{after_end-tries, of_values-tries, answer-tries}
use Rattle.choice_tree.specs.Tree.{values_left}
use Rattle.backjump.specs.Walk.{Point, Search, manner, below, of_point, of_point_after, resume, failed_with}

module _ (s : Search) where
  pub point-rises : (point : Point) (failed : List Var) (past : Past) → past.counts.visited ≤ (of_point s point failed past).past.counts.visited
  point-rises point failed past =
      of_values-tries (below point.fuel s) (manner s) s.problem point.prefix point.node.var (values_left point.node) failed past
      (answer-tries point.fuel (manner s) s.problem)

  pub after-rises : (point : Point) (answer : Answer) → answer.past.counts.visited ≤ (of_point_after s point answer).past.counts.visited
  after-rises point answer =
      after_end-tries answer.past.counts.visited (manner s) point.node.var answer.ended answer.past (λ set now. of_point s point (union point.failed set) now) (omega arith)
      (λ set. point-rises point (union point.failed set) answer.past)

  pub resume-rises : (points : List Point) (answer : Answer) → answer.past.counts.visited ≤ (resume s points answer).past.counts.visited
  unfolding resume
  resume-rises [] answer = omega arith
  resume-rises (point ∷ outer) answer =
      let one = after-rises point answer in
      let rest = resume-rises outer (of_point_after s point answer) in
      omega (arith, one, rest)

  -- a trail found, or the limit reached, is the answer of all outer points
  pub resume-found : (points : List Point) (trail : List Choice) (past : Past)
      → resume s points (record { ended = Found trail; past = past }) ≡ record { ended = Found trail; past = past }
  unfolding resume
  resume-found [] trail past = refl
  resume-found (point ∷ outer) trail past = resume-found outer trail past

  pub resume-stopped : (points : List Point) (past : Past) → resume s points (record { ended = GaveUp; past = past }) ≡ record { ended = GaveUp; past = past }
  unfolding resume
  resume-stopped [] past = refl
  resume-stopped (point ∷ outer) past = resume-stopped outer past

  pub resume-none : (answer : Answer) → resume s [] answer ≡ answer
  unfolding resume
  resume-none answer = refl

  pub resume-point : (point : Point) (outer : List Point) (answer : Answer) → resume s (point ∷ outer) answer ≡ resume s outer (of_point_after s point answer)
  unfolding resume
  resume-point point outer answer = refl

  -- a set without the point's variable leaves the point, and one with it stays there
  pub after-lacking : (point : Point) (set : List Var) (past : Past) → has set point.node.var ≡ false
      → of_point_after s point (failed_with set past) ≡ failed_with set past
  after-lacking point set past e =
      ap (λ b. cond (true && not b) (failed_with set past) (of_point s point (union point.failed set) past)) e

  pub after-having : (point : Point) (set : List Var) (past : Past) → has set point.node.var ≡ true
      → of_point_after s point (failed_with set past) ≡ of_point s point (union point.failed set) past
  after-having point set past e =
      ap (λ b. cond (true && not b) (failed_with set past) (of_point s point (union point.failed set) past)) e

  -- the answer of a choice, with a conflict or without
  pub value-kept : (fuel : ℕ) (prefix : List Choice) (c : Choice) (past : Past) → conflict s.problem prefix c ≡ None
      → of_value (below fuel s) s.problem prefix c past ≡ below fuel s (prefix ++ c ∷ []) past
  value-kept fuel prefix c past e = ap (λ o. after_conflict o past (below fuel s (prefix ++ c ∷ []) past)) e

  pub value-failed : (fuel : ℕ) (prefix : List Choice) (c : Choice) (past : Past) (set : List Var) → conflict s.problem prefix c ≡ Some set
      → of_value (below fuel s) s.problem prefix c past ≡ fails set past
  value-failed fuel prefix c past set e = ap (λ o. after_conflict o past (below fuel s (prefix ++ c ∷ []) past)) e

  pub below-none : (fuel : ℕ) (prefix : List Choice) (past : Past) → s.guide past.met (open_in s.problem prefix) ≡ None
      → below fuel s prefix past ≡ record { ended = Found prefix; past = past }
  below-none zero prefix past e = refl
  below-none (suc fuel) prefix past e =
      ap (λ o. with_next o (record { ended = Found prefix; past = past }) (λ v. of_values (below fuel s) (manner s) s.problem prefix v (s.problem.order v prefix) [] past)) e

  pub below-some : (fuel : ℕ) (prefix : List Choice) (past : Past) (v : Var) → s.guide past.met (open_in s.problem prefix) ≡ Some v
      → below (suc fuel) s prefix past ≡ of_values (below fuel s) (manner s) s.problem prefix v (s.problem.order v prefix) [] past
  below-some fuel prefix past v e =
      ap (λ o. with_next o (record { ended = Found prefix; past = past }) (λ w. of_values (below fuel s) (manner s) s.problem prefix w (s.problem.order w prefix) [] past)) e
