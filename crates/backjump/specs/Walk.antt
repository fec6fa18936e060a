-- States of a search: the points on its path, and the answer of the whole search from there.
use Rattle.std.specs.Prelude.{◌≡◌, ℕ, suc, ◌+◌, ◌*◌, ◌<◌, ◌≤◌, min, true, IsTrue, List, [], ◌∷◌, ◌++◌, length, All}
use Rattle.plan_types.specs.declared.limit.Limit.{Limit}
use Rattle.qualified_goals.specs.declared.variable.Var.{Var}
use Rattle.choice_problem.specs.declared.problem.Choice.{Choice}
use Rattle.choice_problem.specs.Problem.{Problem}
use Rattle.choice_problem.specs.Trail.{choice_of}
use Rattle.choice_problem.specs.Active.{is_open, reason}
use Rattle.choice_problem.specs.Guide.{Guide, cap}
use Rattle.choice_problem.specs.ConflictSet.{union, set_of}
use Rattle.choice_problem.specs.Answer.{Ended, Found, Failed, GaveUp, Past, Answer, Manner, counts_of, one_visited, exhausts, of_value, after_value, of_values, answer_from, guided_answer}
use Rattle.validation.specs.View.{Represents}
use Rattle.choice_tree.specs.declared.tree.TreeNode.{TreeNode}
use Rattle.choice_tree.specs.Tree.{values_left, choice_at}
pub use Rattle.backjump.specs.Guide.{Recalls}
use Rattle.backjump.specs.declared.walk.Walk.{Walk}
use Rattle.backjump.specs.declared.walk.Turn.{Turn}
use Rattle.backjump.specs.declared.walk.Turn.TheVariants.{Look, Try, Back}
use Rattle.backjump.specs.declared.walk.End.{End}
use Rattle.backjump.specs.declared.walk.End.TheVariants.{Whole, NoPlan, Stopped}
use Rattle.backjump.specs.declared.walk.WalkStep.{WalkStep}
use Rattle.backjump.specs.declared.walk.WalkStep.TheVariants.{On, Done}

-- a point of a search: the choices before it, its node, the union of its failed values' sets, and the number of choices
-- that may follow its own
pub record Point : Type 0 where
  pub prefix : List Choice
  pub node : TreeNode
  pub failed : List Var
  pub fuel : ℕ

-- a search with backjumps
abbrev pub manner_of : Guide → Limit → Manner
manner_of guide limit = record { guide = guide; limit = limit; jumps = true }

-- a search: its problem, guide and limit
pub record Search : Type 0 where
  pub problem : Problem
  pub guide : Guide
  pub limit : Limit

abbrev pub search_of : Problem → Guide → Limit → Search
search_of p guide limit = record { problem = p; guide = guide; limit = limit }

-- the parameters of a search
abbrev pub manner : Search → Manner
manner s = manner_of s.guide s.limit

-- the answer of a search
abbrev pub whole : Search → Answer
whole s = guided_answer s.guide s.problem s.limit

-- the answer of a prefix that at most fuel choices may follow
abbrev pub below : ℕ → Search → List Choice → Past → Answer
below fuel s prefix past = answer_from fuel (manner s) s.problem prefix past

-- the answer of a point by its node's values left, with the union of the failed values' sets
abbrev pub of_point : Search → Point → List Var → Past → Answer
of_point s point failed past =
    of_values (below point.fuel s) (manner s) s.problem point.prefix point.node.var (values_left point.node) failed past

-- the answer of a point, given that of the value that its node gave last
abbrev pub of_point_after : Search → Point → Answer → Answer
of_point_after s point answer =
    after_value (manner s) point.node.var answer (λ set now. of_point s point (union point.failed set) now)

-- the answer of the outermost point, given that of the innermost one's value; the innermost comes first
unfoldable pub resume : Search → List Point → Answer → Answer
resume s [] answer = answer
resume s (point ∷ outer) answer = resume s outer (of_point_after s point answer)

-- the points' nodes, innermost last
abbrev pub nodes_of : List Point → List TreeNode
nodes_of [] = []
nodes_of (point ∷ outer) = nodes_of outer ++ point.node ∷ []

-- the points' failed sets, innermost last
abbrev pub sets_of : List Point → List (List Var)
sets_of [] = []
sets_of (point ∷ outer) = sets_of outer ++ point.failed ∷ []

-- the point's variable is open, and the values left are of its domain
pub record IsPoint (p : Problem) (point : Point) : Type 0 where
  pub opened : IsTrue (is_open p point.prefix point.node.var)
  pub values : All (λ n. n < p.domain point.node.var) (values_left point.node)

-- the value that a point gave last ends the prefix, which at most fuel choices may follow
pub record IsMade (p : Problem) (point : Point) (prefix : List Choice) (fuel : ℕ) : Type 0 where
  pub is : IsPoint p point
  pub given : 0 < point.node.given
  pub prefix_is : prefix ≡ point.prefix ++ choice_at point.node ∷ []
  pub fuel_is : fuel ≡ point.fuel

-- the choices of these points are the prefix
abbrev pub IsChain : Problem → List Point → List Choice → ℕ → Type 0
IsChain p [] prefix fuel = (prefix ≡ []) × (fuel ≡ p.bound)
IsChain p (point ∷ outer) prefix fuel = IsMade p point prefix fuel × IsChain p outer point.prefix (suc point.fuel)

-- the answer of a failure with this set
abbrev pub failed_with : List Var → Past → Answer
failed_with set past = record { ended = Failed set; past = past }

-- the counts and conflict sets of a walk, with this number of tries
abbrev pub past_at : {G : Type 0} → Walk G → ℕ → List (List Var) → Past
past_at w visited met = record { counts = counts_of visited w.counts.exhausted; met = met }

module _ {G : Type 0} (recalls : Recalls G) where
  -- a walk has these points, this number of tries and these conflict sets
  pub record IsHeld (p : Problem) (w : Walk G) (visited : ℕ) (met : List (List Var)) (points : List Point) : Type 0 where
    pub stands : Represents p w.state
    pub nodes : w.tree ≡ nodes_of points
    pub sets : w.failed ≡ sets_of points
    pub visited_is : w.counts.visited ≡ min visited cap
    pub recalled : recalls w.guide met w.state.trail

  -- the walk has a choice for each node, and the answer of its trail decides that of the search
  pub record AtLook (s : Search) (w : Walk G) (visited : ℕ) : Type 0 where
    pub met : List (List Var)
    pub points : List Point
    pub fuel : ℕ
    pub held : IsHeld s.problem w visited met points
    pub chain : IsChain s.problem points w.state.trail fuel
    pub answer : whole s ≡ resume s points (below fuel s w.state.trail (past_at w visited met))

  -- the walk is at its last node, and this point's answer decides that of the search
  pub record AtPoint (s : Search) (w : Walk G) (visited : ℕ) (answer_at : Point → Past → Answer) : Type 0 where
    pub met : List (List Var)
    pub point : Point
    pub outer : List Point
    pub held : IsHeld s.problem w visited met (point ∷ outer)
    pub is : IsPoint s.problem point
    pub prefix_is : w.state.trail ≡ point.prefix
    pub chain : IsChain s.problem outer point.prefix (suc point.fuel)
    pub answer : whole s ≡ resume s outer (answer_at point (past_at w visited met))

  -- the walk tries the values left
  abbrev pub AtTry : Search → Walk G → ℕ → Type 0
  AtTry s w visited = AtPoint s w visited (λ point past. of_point s point point.failed past)

  -- the value that was given last has failed
  abbrev pub AtBack : Search → Walk G → ℕ → List Var → Type 0
  AtBack s w visited set = AtPoint s w visited (λ point past. of_point_after s point (failed_with set past))

  -- the point has failed
  abbrev pub AtCut : Search → Walk G → ℕ → List Var → Type 0
  AtCut s w visited set = AtPoint s w visited (λ point past. failed_with set past)

  -- no value is left
  abbrev pub AtExhausted : Search → Walk G → ℕ → Type 0
  AtExhausted s w visited = AtPoint s w visited (λ point past. exhausts (manner s) s.problem point.prefix point.node.var point.failed past)

  -- the last node has given a value that isn't tried yet
  pub record AtValue (s : Search) (w : Walk G) (visited n : ℕ) : Type 0 where
    pub at : AtPoint s w visited (λ point past.
        of_point_after s point (of_value (below point.fuel s) s.problem point.prefix (choice_of point.node.var n) (one_visited past)))
    pub given : 0 < at.point.node.given
    pub choice : choice_at at.point.node ≡ choice_of at.point.node.var n
    pub value : n < s.problem.domain at.point.node.var

  -- the state of a walk at a turn
  abbrev pub IsAt : Search → Walk G → ℕ → Turn → Type 0
  IsAt s w visited Look = AtLook s w visited
  IsAt s w visited Try = AtTry s w visited
  IsAt s w visited (Back set) = AtBack s w visited set

-- the search's answer is this end, with the walk's counts
pub record HasEnded {G : Type 0} (s : Search) (w : Walk G) (visited : ℕ) (ended : Ended) : Type 0 where
  pub visited_is : w.counts.visited ≡ min visited cap
  pub ended_is : (whole s).ended ≡ ended
  pub counts_are : (whole s).past.counts ≡ counts_of visited w.counts.exhausted

-- the search's answer is this end
abbrev pub IsEnd : {G : Type 0} → Search → Walk G → ℕ → End → Type 0
IsEnd s w visited Whole = HasEnded s w visited (Found w.state.trail)
IsEnd s w visited (NoPlan set) = HasEnded s w visited (Failed set)
IsEnd s w visited Stopped = HasEnded s w visited GaveUp

-- a turn's part of the load, which each step reduces; a try counts 4
abbrev pub weight : Turn → ℕ
weight Look = 3
weight Try = 0
weight (Back set) = 1

-- the work left at a turn, without the tries
abbrev pub load : {G : Type 0} → Walk G → Turn → ℕ
load w turn = 2 * length w.tree + weight turn

-- the load after a step is below most
abbrev pub IsLighter : {G : Type 0} → ℕ → Walk G → WalkStep → Type 0
IsLighter most w (On turn) = load w turn < most
IsLighter most w (Done end) = Unit {0}

-- a step that ran out of memory; the tries so far are at most those of the search
pub record StopsAt (s : Search) (visited before now : ℕ) : Type 0 where
  pub tried : ℕ
  pub steps : now ≡ before + tried
  pub most : visited + tried ≤ (whole s).past.counts.visited

-- the last set is replaced by its union with the set
abbrev pub AddsToLast : List Var → List (List Var) → List (List Var) → Type 0
AddsToLast set old new = (outer : List (List Var)) (before : List Var) → old ≡ outer ++ before ∷ [] → new ≡ outer ++ union before set ∷ []

module _ {G : Type 0} (recalls : Recalls G) where
  -- the state after a step
  abbrev pub IsNext : Search → Walk G → ℕ → WalkStep → Type 0
  IsNext s w visited (On turn) = IsAt recalls s w visited turn
  IsNext s w visited (Done end) = IsEnd s w visited end

  -- a step from a turn, with a number of tries
  pub record GoesOn (s : Search) (old new : Walk G) (turn : Turn) (visited before now : ℕ) (step : WalkStep) : Type 0 where
    pub tried : ℕ
    pub steps : now ≡ before + tried
    pub next : IsNext s new (visited + tried) step
    pub lighter : IsLighter (4 * tried + load old turn) new step

  -- a step from a turn, after any number of tries
  abbrev pub Goes : Search → Walk G → Walk G → Turn → ℕ → ℕ → WalkStep → Type 0
  Goes s old new turn before now step = (visited : ℕ) → IsAt recalls s old visited turn → GoesOn s old new turn visited before now step

  -- a step without tries
  pub record Moves (s : Search) (new : Walk G) (visited most : ℕ) (step : WalkStep) : Type 0 where
    pub next : IsNext s new visited step
    pub lighter : IsLighter most new step

  -- a step that picks the next variable
  abbrev pub Looks : Search → Walk G → Walk G → WalkStep → Type 0
  Looks s old new step = (visited : ℕ) → AtLook recalls s old visited → Moves s new visited (load old Look) step

  -- a step that tries the value given by the last node
  abbrev pub Tries : Search → ℕ → Walk G → Walk G → WalkStep → Type 0
  Tries s value old new step = (visited : ℕ) → AtValue recalls s old visited value → Moves s new (visited + 1) (4 + load old Try) step

  -- a step that leaves the last node, which has failed with this set
  abbrev pub Cuts : List Var → Walk G → Walk G → WalkStep → Type 0
  Cuts set old new step = (s : Search) (visited : ℕ) → AtCut recalls s old visited set → Moves s new visited (load old Try) step

  -- a step after all values of the last node have failed
  abbrev pub Exhausts : Guide → Limit → Walk G → Walk G → WalkStep → Type 0
  Exhausts guide limit old new step = (p : Problem) (visited : ℕ) → AtExhausted recalls (search_of p guide limit) old visited
      → Moves (search_of p guide limit) new visited (load old Try) step

  -- a step after the value given by the last node has failed with this set
  abbrev pub Falls : List Var → Walk G → Walk G → WalkStep → Type 0
  Falls set old new step = (s : Search) (visited : ℕ) → AtBack recalls s old visited set → Moves s new visited (load old Try + 1) step

  -- the set of the exhausted innermost point: the union of its values' sets, its variable and its reason
  abbrev pub IsPointSet : Walk G → List Var → Type 0
  IsPointSet w set = (p : Problem) (visited : ℕ) (met : List (List Var)) (point : Point) (outer : List Point) → IsHeld recalls p w visited met (point ∷ outer)
      → w.state.trail ≡ point.prefix → set ≡ union point.failed (set_of (point.node.var ∷ reason p point.prefix point.node.var))

  -- a step from a turn that ran out of memory
  abbrev pub Stops : Search → Walk G → Turn → ℕ → ℕ → Type 0
  Stops s old turn before now = (visited : ℕ) → IsAt recalls s old visited turn → StopsAt s visited before now

  -- the walk is at this turn, after some number of tries
  abbrev pub SomeAt : Search → Walk G → Turn → Type 0
  SomeAt s w turn = (visited : ℕ) × IsAt recalls s w visited turn

  -- the walk is at this untried value of the last node, after some number of tries
  abbrev pub SomeValue : Search → Walk G → ℕ → Type 0
  SomeValue s w n = (visited : ℕ) × AtValue recalls s w visited n

  -- the walk is at its last node, for some problem and after some number of tries
  pub record SomePoint (w : Walk G) : Type 0 where
    pub p : Problem
    pub visited : ℕ
    pub met : List (List Var)
    pub point : Point
    pub outer : List Point
    pub held : IsHeld recalls p w visited met (point ∷ outer)
    pub prefix_is : w.state.trail ≡ point.prefix
    pub chain : IsChain p outer point.prefix (suc point.fuel)
