-- The steps of a search keep the answer of the whole.
use Rattle.std.proofs.Common.{◌≡◌, ℕ, suc, ◌+◌, ◌<◌, ◌≤◌, Bool, true, false, cond, ◌&&◌, List, [], ◌∷◌, ◌++◌, length, Option, Some, None, refl, sym, ap, ◌∙◌, subst, arith, length-append, lt-ltb, nat_lt}
use Rattle.std.specs.Prelude.{min, MatchOption}
use Rattle.std.specs.List.{All}
use Rattle.std.proofs.lemmas.List.Elements.{All-tail, All-head}
use Rattle.qualified_goals.specs.declared.variable.Var.{Var}
use Rattle.choice_problem.specs.declared.problem.Choice.{Choice}
use Rattle.choice_problem.specs.Problem.{Problem, Lawful}
use Rattle.choice_problem.specs.General.{general}
use Rattle.choice_problem.specs.Trail.{value_in, choice_of}
use Rattle.choice_problem.specs.Active.{open_in, reason}
use Rattle.choice_problem.specs.Guide.{IsGuide, cap}
use Rattle.choice_problem.specs.Conflict.{conflict}
use Rattle.choice_problem.specs.ConflictSet.{has, set_of, union}
use Rattle.choice_problem.specs.Answer.{GaveUp, Past, Answer, counts_of, one_visited, one_exhausted, fails, is_reached, gives_up, of_values, nothing_yet, guided_answer}
use Rattle.validation.specs.View.{View, Represents}
use Rattle.choice_tree.specs.declared.tree.TreeNode.{TreeNode}
use Rattle.choice_tree.specs.Tree.{fresh, stepped, values_left, choice_at, GivesNext}
use Rattle.choice_problem.proofs.TrailLemmas.{open-unchosen}
use Rattle.choice_problem.proofs.TrailEnds.{snoc-none, snoc-same}
use Rattle.backjump.specs.declared.walk.Walk.{Walk}
use Rattle.backjump.specs.declared.walk.Turn.TheVariants.{Look, Try, Back}
use Rattle.backjump.specs.declared.walk.End.TheVariants.{Whole, NoPlan, Stopped}
use Rattle.backjump.specs.declared.walk.WalkStep.{WalkStep}
use Rattle.backjump.specs.declared.walk.WalkStep.TheVariants.{On, Done}
use Rattle.backjump.specs.Walk.{Point, Search, manner, whole, below, of_point_after, resume, nodes_of, sets_of, IsChain, Recalls, past_at, IsHeld, failed_with, AtLook, AtTry, AtBack, AtCut, AtExhausted, AtValue, load, IsLighter, Moves}
use Rattle.backjump.proofs.Rises.{resume-found, resume-stopped, resume-none, resume-point, after-lacking, after-having, value-kept, value-failed, below-none, below-some}
use Rattle.validation.proofs.NextViews.{known-open}
use Rattle.backjump.proofs.Room.{fuel-left}

-- what a `pop` leaves of a list whose last item is known
pub popped : {X : Type 0} (old new outer : List X) (x : X) (r : Option X)
    → MatchOption r ((old ≡ []) × (new ≡ [])) (λ last. old ≡ new ++ last ∷ []) → old ≡ outer ++ x ∷ [] → new ≡ outer
popped old new outer x None h e = absurd (snoc-none outer x [] (sym h.0 ∙ e))
popped old new outer x (Some last) h e = (snoc-same new last outer x (sym h ∙ e)).0

-- walks with one part replaced
abbrev pub with_tree : {G : Type 0} → Walk G → List TreeNode → Walk G
with_tree w tree = record { tree = tree; failed = w.failed; state = w.state; counts = w.counts; guide = w.guide }

abbrev pub with_node : {G : Type 0} → Walk G → List TreeNode → List (List Var) → Walk G
with_node w tree failed = record { tree = tree; failed = failed; state = w.state; counts = w.counts; guide = w.guide }

abbrev pub with_state : {G : Type 0} → Walk G → View → ℕ → G → Walk G
with_state w state visited guide = record { tree = w.tree; failed = w.failed; state = state; counts = counts_of visited w.counts.exhausted; guide = guide }

abbrev pub with_exhausted : {G : Type 0} → Walk G → ℕ → G → Walk G
with_exhausted w exhausted guide = record { tree = w.tree; failed = w.failed; state = w.state; counts = counts_of w.counts.visited exhausted; guide = guide }

abbrev pub with_less : {G : Type 0} → Walk G → List TreeNode → List (List Var) → View → G → Walk G
with_less w tree failed state guide = record { tree = tree; failed = failed; state = state; counts = w.counts; guide = guide }

pub lighter-more : {G : Type 0} (most more : ℕ) (w : Walk G) (step : WalkStep) → IsLighter most w step → most ≤ more → IsLighter more w step
lighter-more most more w (On turn) h k = omega (arith, h, k)
lighter-more most more w (Done end) h k = tt

-- the last of a chain's nodes has given a value
pub chain-given : (p : Problem) (points : List Point) (prefix : List Choice) (fuel : ℕ) → IsChain p points prefix fuel
    → (outer : List TreeNode) (node : TreeNode) → nodes_of points ≡ outer ++ node ∷ [] → 0 < node.given
chain-given p [] prefix fuel h outer node e = absurd (snoc-none outer node [] e)
chain-given p (point ∷ rest) prefix fuel h outer node e = subst (λ (n : TreeNode). 0 < n.given) (snoc-same (nodes_of rest) point.node outer node e).1 h.0.given

-- a chain with points has a prefix with choices
pub chain-some : (p : Problem) (outer : List Point) (prefix : List Choice) (fuel : ℕ) → IsChain p outer prefix fuel → (length (nodes_of outer) ≡ 0 → ⊥) → prefix ≡ [] → ⊥
chain-some p [] prefix fuel h some e = some refl
chain-some p (point ∷ outer) prefix fuel h some e = snoc-none point.prefix (choice_at point.node) [] (sym e ∙ h.0.prefix_is)

module _ {G : Type 0} (recalls : Recalls G) (s : Search) where
  pub start-at : (w : Walk G) → Represents s.problem w.state → w.state.trail ≡ [] → w.tree ≡ [] → w.failed ≡ [] → w.counts ≡ counts_of 0 0 → recalls w.guide [] [] → AtLook recalls s w 0
  unfolding guided_answer resume
  start-at w stands none tree failed counts recalled = record {
    met = [];
    points = [];
    fuel = s.problem.bound;
    held = record {
      stands = stands;
      nodes = tree;
      sets = failed;
      visited_is = ap (λ k. k.visited) counts;
      recalled = subst (λ l. recalls w.guide [] l) (sym none) recalled;
    };
    chain = (none, refl);
    answer = ap (λ l. below s.problem.bound s l nothing_yet) (sym none)
        ∙ ap (λ n. below s.problem.bound s w.state.trail (record { counts = counts_of 0 n; met = [] })) (sym (ap (λ k. k.exhausted) counts));
  }

  pub look-none : (w : Walk G) (visited : ℕ) (at : AtLook recalls s w visited) → s.guide at.met (open_in s.problem w.state.trail) ≡ None
      → Moves recalls s w visited (load w Look) (Done Whole)
  look-none w visited at e =
      let past = past_at w visited at.met in
      let answer = at.answer ∙ ap (resume s at.points) (below-none s at.fuel w.state.trail past e) ∙ resume-found s at.points w.state.trail past in
      record { next = record { visited_is = at.held.visited_is; ended_is = ap (λ a. a.ended) answer; counts_are = ap (λ a. a.past.counts) answer }; lighter = tt }

  pub look-some : (lawful : Lawful s.problem) (is : IsGuide s.guide) (w : Walk G) (visited : ℕ) (v : Var) (values : List ℕ) (tree : List TreeNode) (failed : List (List Var))
      (at : AtLook recalls s w visited) → s.guide at.met (open_in s.problem w.state.trail) ≡ Some v → values ≡ s.problem.order v w.state.trail
      → tree ≡ w.tree ++ fresh v values ∷ [] → failed ≡ w.failed ++ [] ∷ [] → Moves recalls s (with_node w tree failed) visited (load w Look) (On Try)
  look-some lawful is w visited v values tree failed at e o t f =
      let p = s.problem in
      let trail = w.state.trail in
      let past = past_at w visited at.met in
      let choices = at.held.stands.choices in
      let opened = is.picked at.met (open_in p trail) v e in
      let left = fuel-left p lawful at.points trail at.fuel v at.held.stands.new choices at.chain opened in
      record {
        next = record {
          met = at.met;
          point = record { prefix = trail; node = fresh v values; failed = []; fuel = left.0 };
          outer = at.points;
          held = record {
            stands = at.held.stands;
            nodes = t ∙ ap (λ l. l ++ fresh v values ∷ []) at.held.nodes;
            sets = f ∙ ap (λ l. l ++ [] ∷ []) at.held.sets;
            visited_is = at.held.visited_is;
            recalled = at.held.recalled;
          };
          is = record {
            opened = opened;
            values = subst (λ l. All (λ n. n < p.domain v) l) (sym o) (lawful.order v (known-open p trail v lawful choices opened).known trail choices).below;
          };
          prefix_is = refl;
          chain = subst (λ n. IsChain p at.points trail n) left.1 at.chain;
          answer = at.answer
              ∙ ap (resume s at.points)
              (ap (λ n. below n s trail past) left.1 ∙ below-some s left.0 trail past v e
              ∙ ap (λ l. of_values (below left.0 s) (manner s) p trail v l [] past) (sym o));
        };
        lighter = omega (arith, ap length t, length-append w.tree (fresh v values ∷ []));
      }

  next-visited : (now before visited : ℕ) → now ≡ min (before + 1) cap → before ≡ min visited cap → now ≡ min (visited + 1) cap
  next-visited now before visited h k = omega (arith, h, k)

  pub choose-kept : (w : Walk G) (visited n now : ℕ) (state : View) (guide : G) (at : AtValue recalls s w visited n)
      → now ≡ min (w.counts.visited + 1) cap → conflict s.problem w.state.trail (choice_of at.at.point.node.var n) ≡ None
      → Represents s.problem state → state.trail ≡ w.state.trail ++ choice_of at.at.point.node.var n ∷ []
      → recalls guide at.at.met (w.state.trail ++ choice_of at.at.point.node.var n ∷ [])
      → Moves recalls s (with_state w state now guide) (visited + 1) (4 + load w Try) (On Look)
  choose-kept w visited n now state guide at v e stands t recalled =
      let p = s.problem in
      let point = at.at.point in
      let outer = at.at.outer in
      let c = choice_of point.node.var n in
      let past = one_visited (past_at w visited at.at.met) in
      let trail : state.trail ≡ point.prefix ++ c ∷ [] = t ∙ ap (λ l. l ++ c ∷ []) at.at.prefix_is in
      record {
        next = record {
          met = at.at.met;
          points = point ∷ outer;
          fuel = point.fuel;
          held = record {
            stands = stands;
            nodes = at.at.held.nodes;
            sets = at.at.held.sets;
            visited_is = next-visited now w.counts.visited visited v at.at.held.visited_is;
            recalled = subst (λ l. recalls guide at.at.met l) (sym t) recalled;
          };
          chain = (
            record { is = at.at.is; given = at.given; prefix_is = trail ∙ ap (λ d. point.prefix ++ d ∷ []) (sym at.choice); fuel_is = refl },
            at.at.chain,
          );
          answer = at.at.answer
              ∙ ap (λ a. resume s outer (of_point_after s point a))
              (value-kept s point.fuel point.prefix c past (subst (λ l. conflict p l c ≡ None) at.at.prefix_is e)
              ∙ ap (λ l. below point.fuel s l past) (sym trail))
              ∙ sym (resume-point s point outer (below point.fuel s state.trail past));
        };
        lighter = omega arith;
      }

  pub choose-failed : (w : Walk G) (visited n now : ℕ) (set : List Var) (guide : G) (at : AtValue recalls s w visited n)
      → now ≡ min (w.counts.visited + 1) cap → conflict s.problem w.state.trail (choice_of at.at.point.node.var n) ≡ Some set
      → recalls guide (set ∷ at.at.met) w.state.trail
      → Moves recalls s (with_state w w.state now guide) (visited + 1) (4 + load w Try) (On (Back set))
  choose-failed w visited n now set guide at v e recalled =
      let p = s.problem in
      let point = at.at.point in
      let c = choice_of point.node.var n in
      let past = one_visited (past_at w visited at.at.met) in
      record {
        next = record {
          met = set ∷ at.at.met;
          point = point;
          outer = at.at.outer;
          held = record {
            stands = at.at.held.stands;
            nodes = at.at.held.nodes;
            sets = at.at.held.sets;
            visited_is = next-visited now w.counts.visited visited v at.at.held.visited_is;
            recalled = recalled;
          };
          is = at.at.is;
          prefix_is = at.at.prefix_is;
          chain = at.at.chain;
          answer = at.at.answer
              ∙ ap (λ a. resume s at.at.outer (of_point_after s point a))
              (value-failed s point.fuel point.prefix c past set (subst (λ l. conflict p l c ≡ Some set) at.at.prefix_is e));
        };
        lighter = omega arith;
      }

  nodes-length : (point : Point) (outer : List Point) → length (nodes_of (point ∷ outer)) ≡ length (nodes_of outer) + 1
  nodes-length point outer = length-append (nodes_of outer) (point.node ∷ [])

  cut-end : (set : List Var) (past : Past) (outer : List Point) → whole s ≡ resume s outer (failed_with set past) → length (nodes_of outer) ≡ 0
      → whole s ≡ failed_with set past
  cut-end set past [] answer h = answer ∙ resume-none s (failed_with set past)
  cut-end set past (point ∷ outer) answer h = absurd (omega (arith, h, nodes-length point outer))

  pub cut-done : (w : Walk G) (visited : ℕ) (set : List Var) (tree : List TreeNode) (failed : List (List Var))
      → ((outer : List TreeNode) (node : TreeNode) → w.tree ≡ outer ++ node ∷ [] → tree ≡ outer) → length tree ≡ 0
      → AtCut recalls s w visited set → Moves recalls s (with_node w tree failed) visited (load w Try) (Done (NoPlan set))
  cut-done w visited set tree failed t h at =
      let answer = cut-end set (past_at w visited at.met) at.outer at.answer (sym (ap length (t (nodes_of at.outer) at.point.node at.held.nodes)) ∙ h) in
      record { next = record { visited_is = at.held.visited_is; ended_is = ap (λ a. a.ended) answer; counts_are = ap (λ a. a.past.counts) answer }; lighter = tt }

  -- the recall of a guide after the last choice is undone
  abbrev pub TakesBack : G → G → List TreeNode → Type 0
  TakesBack old new tree = (outer : List TreeNode) (node : TreeNode) → tree ≡ outer ++ node ∷ []
      → (met : List (List Var)) (front : List Choice) (c : Choice) → c.var ≡ node.var → value_in front node.var ≡ None → recalls old met (front ++ c ∷ []) → recalls new met front

  back-at : (w : Walk G) (visited : ℕ) (met : List (List Var)) (set : List Var) (tree : List TreeNode) (failed : List (List Var)) (state : View) (guide : G) (prefix : List Choice) (fuel : ℕ) (outer : List Point)
      → tree ≡ nodes_of outer → failed ≡ sets_of outer → (length tree ≡ 0 → ⊥)
      → Represents s.problem state → ((front : List Choice) (c : Choice) → w.state.trail ≡ front ++ c ∷ [] → state.trail ≡ front)
      → TakesBack w.guide guide tree → recalls w.guide met w.state.trail
      → w.state.trail ≡ prefix → w.counts.visited ≡ min visited cap → IsChain s.problem outer prefix fuel
      → whole s ≡ resume s outer (failed_with set (past_at w visited met))
      → AtBack recalls s (with_less w tree failed state guide) visited set
  back-at w visited met set tree failed state guide prefix fuel [] t f some stands u b recalled e v chain answer = absurd (some (ap length t))
  back-at w visited met set tree failed state guide prefix fuel (point ∷ outer) t f some stands u b recalled e v chain answer =
      let trail = e ∙ chain.0.prefix_is in
      let front = u point.prefix (choice_at point.node) trail in
      record {
        met = met;
        point = point;
        outer = outer;
        held = record {
          stands = stands;
          nodes = t;
          sets = f;
          visited_is = v;
          recalled = subst (λ l. recalls guide met l) (sym front)
              (b (nodes_of outer) point.node t met point.prefix (choice_at point.node) refl (open-unchosen (general s.problem) point.prefix point.node.var chain.0.is.opened) (subst (λ l. recalls w.guide met l) trail recalled));
        };
        is = chain.0.is;
        prefix_is = front;
        chain = chain.1;
        answer = answer ∙ resume-point s point outer (failed_with set (past_at w visited met));
      }

  pub cut-back : (w : Walk G) (visited : ℕ) (set : List Var) (tree : List TreeNode) (failed : List (List Var)) (state : View) (guide : G) (popped_off : Option (List Var))
      → ((outer : List TreeNode) (node : TreeNode) → w.tree ≡ outer ++ node ∷ [] → tree ≡ outer)
      → MatchOption popped_off ((w.failed ≡ []) × (failed ≡ [])) (λ last. w.failed ≡ failed ++ last ∷ [])
      → (length tree ≡ 0 → ⊥) → (Represents s.problem w.state → Represents s.problem state)
      → ((front : List Choice) (c : Choice) → w.state.trail ≡ front ++ c ∷ [] → state.trail ≡ front)
      → TakesBack w.guide guide tree
      → AtCut recalls s w visited set → Moves recalls s (with_less w tree failed state guide) visited (load w Try) (On (Back set))
  cut-back w visited set tree failed state guide popped_off t f some stands u b at =
      let tree_is = t (nodes_of at.outer) at.point.node at.held.nodes in
      let failed_is = popped w.failed failed (sets_of at.outer) at.point.failed popped_off f at.held.sets in
      record {
        next = back-at w visited at.met set tree failed state guide at.point.prefix (suc at.point.fuel) at.outer tree_is failed_is some (stands at.held.stands) u b at.held.recalled
            at.prefix_is at.held.visited_is at.chain at.answer;
        lighter = omega (arith, ap length tree_is, ap length at.held.nodes, nodes-length at.point at.outer);
      }

  -- whether a search gives up, by the depth

  gives_up-snoc : (prefix : List Choice) (c : Choice) (exhausted : ℕ) → gives_up s.limit (prefix ++ c ∷ []) exhausted ≡ is_reached s.limit exhausted
  gives_up-snoc [] c exhausted = refl
  gives_up-snoc (d ∷ prefix) c exhausted = refl

  pub gives_up-is : (outer : List Point) (prefix : List Choice) (fuel depth exhausted : ℕ) → IsChain s.problem outer prefix fuel → depth ≡ length (nodes_of outer) + 1
      → nat_lt 1 depth && is_reached s.limit exhausted ≡ gives_up s.limit prefix exhausted
  gives_up-is [] prefix fuel depth exhausted chain h =
      ap (λ n. nat_lt 1 n && is_reached s.limit exhausted) h ∙ ap (λ l. gives_up s.limit l exhausted) (sym chain.0)
  gives_up-is (point ∷ outer) prefix fuel depth exhausted chain h =
      ap (λ b. b && is_reached s.limit exhausted) (lt-ltb 1 depth (omega (arith, h, nodes-length point outer)))
      ∙ sym (ap (λ l. gives_up s.limit l exhausted) chain.0.prefix_is ∙ gives_up-snoc point.prefix (choice_at point.node) exhausted)

  depth-is : (w : Walk G) (visited : ℕ) (met : List (List Var)) (point : Point) (outer : List Point) → IsHeld recalls s.problem w visited met (point ∷ outer)
      → length w.tree ≡ length (nodes_of outer) + 1
  depth-is w visited met point outer held = ap length held.nodes ∙ nodes-length point outer

  exhausts-as : Bool → Point → Past → Answer
  exhausts-as b point past =
      cond b (record { ended = GaveUp; past = past }) (fails (union point.failed (set_of (point.node.var ∷ reason s.problem point.prefix point.node.var))) (one_exhausted past))

  pub exhaust-stopped : (w : Walk G) (visited depth : ℕ) → depth ≡ length w.tree → nat_lt 1 depth && is_reached s.limit w.counts.exhausted ≡ true
      → AtExhausted recalls s w visited → Moves recalls s w visited (load w Try) (Done Stopped)
  unfolding exhausts-as
  exhaust-stopped w visited depth d h at =
      let past = past_at w visited at.met in
      let is = sym (gives_up-is at.outer at.point.prefix (suc at.point.fuel) depth w.counts.exhausted at.chain (d ∙ depth-is w visited at.met at.point at.outer at.held)) ∙ h in
      let answer = at.answer ∙ ap (λ b. resume s at.outer (exhausts-as b at.point past)) is ∙ resume-stopped s at.outer past in
      record { next = record { visited_is = at.held.visited_is; ended_is = ap (λ a. a.ended) answer; counts_are = ap (λ a. a.past.counts) answer }; lighter = tt }

  pub exhaust-cut : (w : Walk G) (visited depth exhausted : ℕ) (set : List Var) (guide : G) → depth ≡ length w.tree → nat_lt 1 depth && is_reached s.limit w.counts.exhausted ≡ false
      → exhausted ≡ min (w.counts.exhausted + 1) cap → (at : AtExhausted recalls s w visited)
      → set ≡ union at.point.failed (set_of (at.point.node.var ∷ reason s.problem at.point.prefix at.point.node.var))
      → recalls guide (set ∷ at.met) w.state.trail
      → AtCut recalls s (with_exhausted w exhausted guide) visited set
  unfolding exhausts-as
  exhaust-cut w visited depth exhausted set guide d h k at e recalled =
      let past = past_at w visited at.met in
      let is = sym (gives_up-is at.outer at.point.prefix (suc at.point.fuel) depth w.counts.exhausted at.chain (d ∙ depth-is w visited at.met at.point at.outer at.held)) ∙ h in
      record {
        met = set ∷ at.met;
        point = at.point;
        outer = at.outer;
        held = record { stands = at.held.stands; nodes = at.held.nodes; sets = at.held.sets; visited_is = at.held.visited_is; recalled = recalled };
        is = at.is;
        prefix_is = at.prefix_is;
        chain = at.chain;
        answer = at.answer ∙ ap (λ b. resume s at.outer (exhausts-as b at.point past)) is
            ∙ ap (λ x. resume s at.outer (fails x (one_exhausted past))) (sym e)
            ∙ ap (λ n. resume s at.outer (failed_with set (record { counts = counts_of visited n; met = set ∷ at.met }))) (sym k);
      }

  -- a set with the point's variable stays there, and another one leaves the point

  pub back-kept : (w : Walk G) (visited : ℕ) (set : List Var) (failed : List (List Var)) (at : AtBack recalls s w visited set) → has set at.point.node.var ≡ true
      → ((outer : List (List Var)) (before : List Var) → w.failed ≡ outer ++ before ∷ [] → failed ≡ outer ++ union before set ∷ [])
      → Moves recalls s (with_node w w.tree failed) visited (load w Try + 1) (On Try)
  back-kept w visited set failed at h f =
      let point = at.point in
      record {
        next = record {
          met = at.met;
          point = record { prefix = point.prefix; node = point.node; failed = union point.failed set; fuel = point.fuel };
          outer = at.outer;
          held = record {
            stands = at.held.stands;
            nodes = at.held.nodes;
            sets = f (sets_of at.outer) point.failed at.held.sets;
            visited_is = at.held.visited_is;
            recalled = at.held.recalled;
          };
          is = record { opened = at.is.opened; values = at.is.values };
          prefix_is = at.prefix_is;
          chain = at.chain;
          answer = at.answer ∙ ap (resume s at.outer) (after-having s point set (past_at w visited at.met) h);
        };
        lighter = omega arith;
      }

  pub back-cut : (w : Walk G) (visited : ℕ) (set : List Var) (at : AtBack recalls s w visited set) → has set at.point.node.var ≡ false → AtCut recalls s w visited set
  back-cut w visited set at h = record {
    met = at.met;
    point = at.point;
    outer = at.outer;
    held = at.held;
    is = at.is;
    prefix_is = at.prefix_is;
    chain = at.chain;
    answer = at.answer ∙ ap (resume s at.outer) (after-lacking s at.point set (past_at w visited at.met) h);
  }

  -- the next value of the last node

  pub try-none : (w : Walk G) (visited : ℕ) (tree : List TreeNode)
      → ((outer : List TreeNode) (node : TreeNode) → w.tree ≡ outer ++ node ∷ [] → (values_left node ≡ []) × (tree ≡ w.tree))
      → AtTry recalls s w visited → AtExhausted recalls s (with_tree w tree) visited
  try-none w visited tree t at =
      let none = t (nodes_of at.outer) at.point.node at.held.nodes in
      let point = at.point in
      record {
        met = at.met;
        point = point;
        outer = at.outer;
        held = record { stands = at.held.stands; nodes = none.1 ∙ at.held.nodes; sets = at.held.sets; visited_is = at.held.visited_is; recalled = at.held.recalled };
        is = at.is;
        prefix_is = at.prefix_is;
        chain = at.chain;
        answer = at.answer
            ∙ ap (λ l. resume s at.outer (of_values (below point.fuel s) (manner s) s.problem point.prefix point.node.var l point.failed (past_at w visited at.met))) none.0;
      }

  pub try-some : (w : Walk G) (visited n : ℕ) (tree : List TreeNode)
      → ((outer : List TreeNode) (node : TreeNode) → w.tree ≡ outer ++ node ∷ [] → GivesNext outer node tree n)
      → AtTry recalls s w visited → AtValue recalls s (with_tree w tree) visited n
  try-some w visited n tree t at =
      let p = s.problem in
      let point = at.point in
      let gives = t (nodes_of at.outer) point.node at.held.nodes in
      let all = subst (λ l. All (λ m. m < p.domain point.node.var) l) gives.left at.is.values in
      record {
        at = record {
          met = at.met;
          point = record { prefix = point.prefix; node = stepped point.node; failed = point.failed; fuel = point.fuel };
          outer = at.outer;
          held = record { stands = at.held.stands; nodes = gives.nodes; sets = at.held.sets; visited_is = at.held.visited_is; recalled = at.held.recalled };
          is = record { opened = at.is.opened; values = All-tail (λ m. m < p.domain point.node.var) n (values_left (stepped point.node)) all };
          prefix_is = at.prefix_is;
          chain = at.chain;
          answer = at.answer
              ∙ ap (λ l. resume s at.outer (of_values (below point.fuel s) (manner s) p point.prefix point.node.var l point.failed (past_at w visited at.met))) gives.left;
        };
        given = omega arith;
        choice = gives.choice;
        value = All-head (λ m. m < p.domain point.node.var) n (values_left (stepped point.node)) all;
      }
