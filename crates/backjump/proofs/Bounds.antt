-- A search makes no more tries than its answer counts.
use Rattle.std.proofs.Common.{◌≡◌, ℕ, ◌+◌, ◌-◌, ◌*◌, ◌<◌, ◌≤◌, List, [], ◌∷◌, ◌++◌, length, sym, ap, subst, arith, length-append}
use Rattle.std.specs.Prelude.{Result, IfOk, OnErr}
use Rattle.std.proofs.lemmas.Result.{IfOk-weaker}
use Rattle.common_laws.specs.Small.{on-err}
use Rattle.choice_problem.specs.Trail.{choice_of}
use Rattle.choice_problem.specs.Answer.{Answer, one_visited, of_value}
use Rattle.choice_problem.proofs.SearchLimits.{of_value-tries, answer-tries}
use Rattle.choice_tree.specs.declared.tree.TreeNode.{TreeNode}
use Rattle.choice_tree.specs.Tree.{stepped, values_left, GivesNext}
use Rattle.backjump.specs.declared.walk.Walk.{Walk}
use Rattle.backjump.specs.declared.walk.Turn.{Turn}
use Rattle.backjump.specs.declared.walk.Turn.TheVariants.{Look, Try, Back}
use Rattle.backjump.specs.declared.walk.End.{End}
use Rattle.backjump.specs.declared.walk.End.TheVariants.{Whole, NoPlan, Stopped}
use Rattle.backjump.specs.declared.walk.WalkStep.{WalkStep}
use Rattle.backjump.specs.declared.walk.WalkStep.TheVariants.{On}
use Rattle.backjump.specs.Walk.{Point, Search, manner, whole, below, of_point, of_point_after, resume, nodes_of, Recalls, past_at, failed_with, AtValue, IsAt, IsEnd, IsNext, load, Goes, GoesOn, Moves, Stops, StopsAt}
use Rattle.backjump.proofs.Rises.{point-rises, after-rises, resume-rises}
use Rattle.backjump.proofs.Moves.{lighter-more}

module _ {G : Type 0} (recalls : Recalls G) (s : Search) where
  abbrev all : ℕ
  all = (whole s).past.counts.visited

  handed : (points : List Point) (answer : Answer) (n : ℕ) → whole s ≡ resume s points answer → n ≤ answer.past.counts.visited → n ≤ all
  handed points answer n e h = omega (arith, h, resume-rises s points answer, ap (λ (a : Answer). a.past.counts.visited) e)

  pub at-within : (w : Walk G) (visited : ℕ) (turn : Turn) → IsAt recalls s w visited turn → visited ≤ all
  at-within w visited Look at =
      handed at.points (below at.fuel s w.state.trail (past_at w visited at.met)) visited at.answer (answer-tries at.fuel (manner s) s.problem w.state.trail (past_at w visited at.met))
  at-within w visited Try at =
      handed at.outer (of_point s at.point at.point.failed (past_at w visited at.met)) visited at.answer (point-rises s at.point at.point.failed (past_at w visited at.met))
  at-within w visited (Back set) at =
      handed at.outer (of_point_after s at.point (failed_with set (past_at w visited at.met))) visited at.answer (after-rises s at.point (failed_with set (past_at w visited at.met)))

  pub value-within : (w : Walk G) (visited n : ℕ) → AtValue recalls s w visited n → visited + 1 ≤ all
  value-within w visited n at =
      let point = at.at.point in
      let past = one_visited (past_at w visited at.at.met) in
      let answer = of_value (below point.fuel s) s.problem point.prefix (choice_of point.node.var n) past in
      let one = of_value-tries (below point.fuel s) s.problem point.prefix (choice_of point.node.var n) past (answer-tries point.fuel (manner s) s.problem) in
      let two = after-rises s point answer in
      handed at.at.outer (of_point_after s point answer) (visited + 1) at.at.answer (omega (arith, one, two))

  pub stops-still : (w : Walk G) (visited : ℕ) (turn : Turn) (steps : ℕ) → IsAt recalls s w visited turn → StopsAt s visited steps steps
  stops-still w visited turn steps at = record { tried = 0; steps = omega arith; most = omega (arith, at-within w visited turn at) }

  pub goes-still : (old new : Walk G) (turn : Turn) (visited most steps : ℕ) (step : WalkStep) → most ≤ load old turn → Moves recalls s new visited most step
      → GoesOn recalls s old new turn visited steps steps step
  goes-still old new turn visited most steps step h moves =
      let same : visited ≡ visited + 0 = omega arith in
      record {
        tried = 0;
        steps = omega arith;
        next = subst (λ n. IsNext recalls s new n step) same moves.next;
        lighter = lighter-more most (4 * 0 + load old turn) new step moves.lighter (omega (arith, h));
      }

  pub goes-tried : (old new : Walk G) (visited most before now : ℕ) (step : WalkStep) → most ≤ 4 + load old Try → now ≡ before + 1 → Moves recalls s new (visited + 1) most step
      → GoesOn recalls s old new Try visited before now step
  goes-tried old new visited most before now step h k moves = record {
    tried = 1;
    steps = k;
    next = moves.next;
    lighter = lighter-more most (4 * 1 + load old Try) new step moves.lighter (omega (arith, h));
  }

  -- a step without a try, and one that ran out of memory
  pub goes-if-ok : {E : Type 0} (result : Result WalkStep E) (told : WalkStep → Type 0) (old new : Walk G) (turn at-turn : Turn) (most steps : ℕ) → turn ≡ at-turn
      → ((visited : ℕ) → IsAt recalls s old visited at-turn → most ≤ load old at-turn)
      → ((step : WalkStep) → told step → (visited : ℕ) → IsAt recalls s old visited at-turn → Moves recalls s new visited most step)
      → IfOk result told → IfOk result (Goes recalls s old new turn steps steps)
  goes-if-ok result told old new turn at-turn most steps is less moves ok =
      subst (λ t. IfOk result (Goes recalls s old new t steps steps)) (sym is)
      (IfOk-weaker result told (Goes recalls s old new at-turn steps steps)
      (λ step h visited at. goes-still old new at-turn visited most steps step (less visited at) (moves step h visited at)) ok)

  pub stops-on-err : {A E : Type 0} (result : Result A E) (w : Walk G) (turn : Turn) (steps : ℕ) → OnErr result (Stops recalls s w turn steps steps)
  stops-on-err result w turn steps = on-err result (Stops recalls s w turn steps steps) (λ visited at. stops-still w visited turn steps at)

  -- a node that gives a value leaves the number of nodes unchanged
  pub same-length : (w : Walk G) (visited n : ℕ) (tree : List TreeNode) → ((outer : List TreeNode) (node : TreeNode) → w.tree ≡ outer ++ node ∷ [] → GivesNext outer node tree n)
      → IsAt recalls s w visited Try → length tree ≡ length w.tree
  same-length w visited n tree t at =
      let node = at.point.node in
      let outer = nodes_of at.outer in
      let gives = t outer node at.held.nodes in
      omega (arith, ap length gives.nodes, ap length at.held.nodes, length-append outer (node ∷ []), length-append outer (stepped node ∷ []))

  pub same-length-none : (w : Walk G) (visited : ℕ) (tree : List TreeNode) → ((outer : List TreeNode) (node : TreeNode) → w.tree ≡ outer ++ node ∷ [] → (values_left node ≡ []) × (tree ≡ w.tree))
      → IsAt recalls s w visited Try → length tree ≡ length w.tree
  same-length-none w visited tree t at = ap length (t (nodes_of at.outer) at.point.node at.held.nodes).1

  -- an end counts all tries
  pub end-visited : (w : Walk G) (visited : ℕ) (end : End) → IsEnd s w visited end → visited ≡ all
  end-visited w visited Whole at = sym (ap (λ k. k.visited) at.counts_are)
  end-visited w visited (NoPlan set) at = sym (ap (λ k. k.visited) at.counts_are)
  end-visited w visited Stopped at = sym (ap (λ k. k.visited) at.counts_are)

  -- each step reduces the sum of the load and of 4 for each try left
  pub smaller : (old new : Walk G) (turn next : Turn) (visited start before now : ℕ) → before ≡ start + visited → GoesOn recalls s old new turn visited before now (On next)
      → 4 * (all - (now - start)) + load new next < 4 * (all - (before - start)) + load old turn
  smaller old new turn next visited start before now h goes =
      let most = at-within new (visited + goes.tried) next goes.next in
      omega (arith, h, goes.steps, goes.lighter, most)
