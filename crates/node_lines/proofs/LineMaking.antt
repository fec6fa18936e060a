-- Shared: lines that are made in build order are the lines of the nodes.
use Rattle.std.proofs.Common.{◌≡◌, ◌<◌, ◌⊎◌, inl, inr, ⊎_elim, ℕ, true, false, List, [], ◌∷◌, ◌++◌, length, replicate, fold, get_or, nat_eq, Option, Some, None, refl, sym, ap, ◌∙◌, subst, append_assoc, append-nil}
use Rattle.std.specs.List.{All, Contains, list_any}
use Rattle.std.specs.Option.{option_and_then, unwrap_or}
use Rattle.std.proofs.lemmas.Bool.{cases_eq, eqb-true, eq-eqb, false≢true}
use Rattle.std.proofs.lemmas.List.{get_or-replicate, get_or-set_other, get_or-set_same, length-replicate, length-set}
use Rattle.std.proofs.lemmas.List.Elements.{Contains-push_cases}
use Rattle.common_laws.specs.Lists.{any-at, any-from, contains-none}
use Rattle.plan_nodes.specs.declared.node.PlanNode.{PlanNode}
use Rattle.plan_nodes.specs.Line.{no_line}
use Rattle.plan_components.specs.declared.node.Need.{Need}
use Rattle.plan_components.specs.declared.node.Node.{Node}
use Rattle.plan_components.specs.declared.reached.Reached.{Reached}
use Rattle.plan_components.specs.Chosen.{Selection}
use Rattle.plan_components.specs.Needs.{needs_of}
use Rattle.plan_components.specs.Plan.{AreReached}
use Rattle.plan_components.specs.SameNode.{place_of}
use Rattle.plan_components.specs.Steps.{node_at}
use Rattle.plan_lines.specs.Line.{line_of}
use Rattle.build_order.specs.Order.{IsBuildOrder, IsReady}
use Rattle.common_laws.specs.Graphs.{Needs}
use Rattle.build_order.proofs.PlacedNodes.{all_within}
use Rattle.node_lines.specs.Along.{line_from, lines_along, with_place}
use Rattle.node_lines.specs.Gather.{empty, gathered, line_at}
use Rattle.node_lines.specs.Lines.{AreLines, HasLine, needed_by, told}
use Rattle.node_lines.proofs.Gathering.{gathers, have_lines}
use Rattle.node_lines.proofs.NodePlaces.{edge, from_edge, graph, graph_count, need_stands, nodes, row_at}

some-is : (o : Option PlanNode) (line : PlanNode) → o ≡ Some line → o ≡ Some (unwrap_or o no_line)
some-is None line h = absurd (cc h)
some-is (Some l) line h = refl

-- the number of lines stays the same
pub lines_count : (selection : Selection) (reached : Reached) (order : List ℕ) → length (lines_along selection reached order) ≡ length reached.set.keys
lines_count selection reached order = from (replicate (length reached.set.keys) None) order ∙ length-replicate (length reached.set.keys) None
  where
    from : (lines : List (Option PlanNode)) (places : List ℕ) → length (fold (with_place selection reached) lines places) ≡ length lines
    from lines [] = refl
    from lines (u ∷ places) = from (with_place selection reached lines u) places ∙ length-set lines u (line_from selection reached lines u)

module _ (selection : Selection) (reached : Reached) (are : AreReached selection reached) where
  abbrev all : List Node
  all = nodes selection reached are

  abbrev edges : List (List ℕ)
  edges = graph selection reached are

  -- the lines so far are right, and each placed node that has a line has it there
  pub record AreRight (front : List ℕ) (lines : List (Option PlanNode)) : Type 0 where
    pub count : length lines ≡ length all
    pub sound : (i : ℕ) (line : PlanNode) → i < length all → get_or lines i None ≡ Some line → HasLine selection (node_at all i) line
    pub whole : (i : ℕ) (line : PlanNode) → Contains front i → HasLine selection (node_at all i) line → get_or lines i None ≡ Some line

  pub right_first : AreRight [] (replicate (length all) None)
  right_first = record {
    count = length-replicate (length all) None;
    sound = λ i line lt h. absurd (none-some (sym (get_or-replicate (length all) i None None lt) ∙ h));
    whole = λ i line c h. absurd (contains-none i c);
  }
    where
      none-some : {l : PlanNode} → None ≡ Some l → ⊥
      none-some e = cc e

  module _ (front : List ℕ) (lines : List (Option PlanNode)) (right : AreRight front lines) (u : ℕ) (lt : u < length all) where
    abbrev here : Node
    here = node_at all u

    abbrev row : List Need
    row = needs_of selection here

    abbrev so_far : Node → Option PlanNode
    so_far = line_at all lines

    by_row : line_from selection reached lines u ≡ option_and_then (line_of selection here) (gathered so_far row)
    by_row = ap (λ needs. option_and_then (line_of selection here) (gathered so_far needs)) (row_at selection reached are u lt)

    -- a line that is made is the node's
    made_sound : (line : PlanNode) → option_and_then (line_of selection here) (gathered so_far row) ≡ Some line → HasLine selection here line
    made_sound line h =
        elim (gathered so_far row) as (λ o. gathered so_far row ≡ o → option_and_then (line_of selection here) o ≡ Some line → HasLine selection here line) [
          | None ↦ λ e k. absurd (cc k)
          | Some needed ↦ λ e k.
              let f : Node → PlanNode = λ node. unwrap_or (so_far node) no_line in
              let each : (need : Need) → Contains row need → so_far need.node ≡ Some (f need.node) =
              λ need c. let found = have_lines so_far empty needed row e need c in some-is (so_far need.node) found.0 found.1 in
              let have : (need : Need) → Contains row need → HasLine selection need.node (f need.node) =
              λ need c. let at = need_stands selection reached are u need lt c in
              subst (λ node. HasLine selection node (f need.node)) at.is (right.sound (place_of all need.node) (f need.node) at.within (each need c)) in
              let same : Some needed ≡ Some (needed_by f row) = sym e ∙ gathers so_far f row each in
              told here line f have (ap (λ o. option_and_then (line_of selection here) o) (sym same) ∙ k)
        ] refl h

    -- if the lines of all needs were made, the node's own line is made
    made_whole : ((v : ℕ) → Needs edges u v → Contains front v) → (node : Node) (line : PlanNode) → node ≡ here → HasLine selection node line
        → option_and_then (line_of selection here) (gathered so_far row) ≡ Some line
    made_whole met node line same (told it l f each is) =
        let each_here : (need : Need) → Contains row need → so_far need.node ≡ Some (f need.node) =
        λ need c.
        let at = need_stands selection reached are u need lt c in
        let has = each need (subst (λ n. Contains (needs_of selection n) need) (sym same) c) in
        right.whole (place_of all need.node) (f need.node) (met (place_of all need.node) (edge selection reached are u need lt c))
        (subst (λ n. HasLine selection n (f need.node)) (sym at.is) has) in
        ap (λ o. option_and_then (line_of selection here) o) (gathers so_far f row each_here)
        ∙ ap (λ n. line_of selection n (needed_by f (needs_of selection n))) (sym same) ∙ is

    pub right_next : ((v : ℕ) → Needs edges u v → Contains front v) → (Contains front u → ⊥) → AreRight (front ++ u ∷ []) (with_place selection reached lines u)
    right_next met unplaced = record {
      count = length-set lines u (line_from selection reached lines u) ∙ right.count;
      sound = λ i line within h. ⊎_elim
          (λ e. subst (λ k. HasLine selection (node_at all k) line) (sym e)
          (made_sound line (sym by_row ∙ (sym now ∙ (ap (λ k. get_or (with_place selection reached lines u) k None) (sym e) ∙ h)))))
          (λ ne. right.sound i line within (sym (elsewhere i ne) ∙ h))
          (cases_eq i u);
      whole = λ i line c h. ⊎_elim
          (λ old. elsewhere i (λ e. unplaced (subst (Contains front) e old)) ∙ right.whole i line old h)
          (λ e. ap (λ k. get_or (with_place selection reached lines u) k None) (sym e)
          ∙ (now ∙ (by_row ∙ made_whole met (node_at all i) line (ap (node_at all) (sym e)) h)))
          (Contains-push_cases front u i c);
    }
      where
        now : get_or (with_place selection reached lines u) u None ≡ line_from selection reached lines u
        now = get_or-set_same lines u (line_from selection reached lines u) None (subst (λ n. u < n) (sym right.count) lt)

        elsewhere : (i : ℕ) → (i ≡ u → ⊥) → get_or (with_place selection reached lines u) i None ≡ get_or lines i None
        elsewhere i ne = get_or-set_other lines u i (line_from selection reached lines u) None ne

  -- ---- a whole order

  module _ (order : List ℕ) (build : IsBuildOrder edges order) where
    ready : (front rest : List ℕ) (u : ℕ) → order ≡ front ++ u ∷ rest → IsReady edges front u
    ready front rest u e = (build.each front rest u e).ready

    inside : (u : ℕ) → u < length edges → u < length all
    inside u lt = subst (λ n. u < n) (graph_count selection reached are) lt

    goes : (rest front : List ℕ) (lines : List (Option PlanNode)) → order ≡ front ++ rest → AreRight front lines → AreRight order (fold (with_place selection reached) lines rest)
    goes [] front lines e right = subst (λ l. AreRight l lines) (sym (e ∙ append-nil front)) right
    goes (u ∷ rest) front lines e right =
        let r = ready front rest u e in
        goes rest (front ++ u ∷ []) (with_place selection reached lines u) (e ∙ sym (append_assoc front (u ∷ []) rest))
        (right_next front lines right u (inside u r.node) r.met r.unplaced)

    pub right_last : AreRight order (lines_along selection reached order)
    right_last = goes order [] (replicate (length all) None) refl right_first

    decide : (i : ℕ) → Contains order i ⊎ (Contains order i → ⊥)
    decide i =
        elim (list_any (λ k. nat_eq k i) order) as (λ b. list_any (λ k. nat_eq k i) order ≡ b → Contains order i ⊎ (Contains order i → ⊥)) [
          | true ↦ λ e. let found = any-at (λ k. nat_eq k i) order e in inl (subst (Contains order) (eqb-true found.0 i found.2) found.1)
          | false ↦ λ e. inr (λ c. false≢true (sym e ∙ any-from (λ k. nat_eq k i) order i c (eq-eqb i i refl)))
        ] refl

    -- a node with a line is placed
    placed : (node : Node) (line : PlanNode) → HasLine selection node line → (i : ℕ) → i < length all → node ≡ node_at all i → Contains order i
    placed node line (told it l f each is) i lt same = ⊎_elim (λ c. c) (λ out. absurd (build.whole i (record {
      node = subst (λ n. i < n) (sym (graph_count selection reached are)) lt;
      unplaced = out;
      met = λ v e.
          let found = from_edge selection reached are i v lt e in
          let at = need_stands selection reached are i found.0 lt found.1 in
          subst (Contains order) found.2
          (placed found.0.node (f found.0.node) (each found.0 (subst (λ n. Contains (needs_of selection n) found.0) (sym same) found.1)) (place_of all found.0.node) at.within (sym at.is));
    }))) (decide i)

    pub are_lines : AreLines selection all (lines_along selection reached order)
    are_lines = record {
      count = right_last.count;
      each = λ i line lt. (right_last.sound i line lt, λ h. right_last.whole i line (placed (node_at all i) line h i lt refl) h);
    }

    pub all_inside : All (λ u. u < length all) order
    all_inside = subst (λ n. All (λ u. u < n) order) (graph_count selection reached are) (all_within edges order build)
