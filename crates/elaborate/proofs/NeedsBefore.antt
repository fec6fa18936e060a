-- Shared: what a line needs is printed before it.
use Rattle.std.proofs.Common.{◌≡◌, ◌<◌, ⊎_elim, ℕ, Bool, true, false, cond, List, [], ◌∷◌, ◌++◌, map, fold, length, get_or, Option, Some, None, refl, sym, ap, ◌∙◌, subst, append_assoc, append-nil}
use Rattle.std.specs.Prelude.{All, Contains, filter}
use Rattle.std.specs.BTreeSet as ordered
use Rattle.std.specs.Cmp.Lexicographic.{slice_cmp}
use Rattle.std.specs.List.{list_any}
use Rattle.std.specs.Ordering.{nat_cmp}
use Rattle.std.proofs.lemmas.List.{get_or-map, length-map}
use Rattle.std.proofs.lemmas.List.Elements.{All-contains, All-contains_itself, All-nil, Contains-get_or, Contains-push, Contains-push_cases}
use Rattle.std.proofs.lemmas.Map.Views.{All-insert_key}
use Rattle.indexmap.specs.IndexSet.{insert_key}
use Rattle.common_laws.specs.Graphs.{Needs}
use Rattle.common_laws.specs.Lists.{any-at, contains-append, contains-filter, contains-head, contains-left, contains-map, contains-none, contains-tail, map-contains, push_split}
use Rattle.common_laws.specs.Passing.{none-back}
use Rattle.common_laws.specs.Small.{same-is}
use Rattle.plan_types.specs.declared.dependency.DepKind.{DepKind}
use Rattle.plan_types.specs.declared.index.Body.{Body}
use Rattle.plan_types.specs.declared.index.Body.TheVariants.{Installed, Source}
use Rattle.flatten.specs.Sound.{is_of_setup}
use Rattle.cabal_problem.specs.Variables.{is_tool}
use Rattle.plan_nodes.specs.declared.node.PlanNode.{PlanNode}
use Rattle.plan_nodes.specs.Line.{all_needs, in_order, node_line}
use Rattle.plan_nodes.specs.Once.{each_line_once, same_line}
use Rattle.build_order.specs.Order.{IsBuildOrder}
use Rattle.plan_components.specs.declared.node.Need.{Need}
use Rattle.plan_components.specs.declared.node.Node.{Node}
use Rattle.plan_components.specs.Chosen.{Selection, body_at}
use Rattle.plan_components.specs.Needs.{needs_of}
use Rattle.plan_components.specs.Plan.{needed}
use Rattle.plan_components.specs.SameNode.{place_of}
use Rattle.plan_components.specs.Steps.{no_node}
use Rattle.plan_lines.specs.declared.needed.Needed.{Needed}
use Rattle.plan_lines.specs.Line.{line_by}
use Rattle.node_lines.specs.Lines.{HasLine, ids_for, is_of_library, needed_by, told}
use Rattle.plan_components.specs.Places.{row_of}
use Rattle.node_lines.proofs.OneLine.{one}
use Rattle.node_lines.proofs.NodePlaces.{at_place}
use Rattle.elaborate.specs.declared.told.LinedNode.{LinedNode}
use Rattle.elaborate.specs.Before.{NeedsPrintedBefore}
use Rattle.elaborate.specs.Plan.{AreRanked, IsPlan, graph_of, line_at, no_told, nodes_of}

-- ---- identifiers in order

ordered-from : (texts seen more : List (List ℕ)) → All (Contains texts) seen → All (Contains texts) more
    → All (Contains texts) (fold (ordered.insert_key (slice_cmp nat_cmp)) seen more)
ordered-from texts seen [] h k = h
ordered-from texts seen (text ∷ more) h k =
    ordered-from texts (ordered.insert_key (slice_cmp nat_cmp) seen text) more
    (All-insert_key (slice_cmp nat_cmp) text (Contains texts) seen h (All-contains (Contains texts) (text ∷ more) text k (contains-head text more)))
    (λ i d lt. All-contains (Contains texts) (text ∷ more) (get_or more i d) k (contains-tail text more (get_or more i d) (Contains-get_or more i d lt)))

-- `in_order` adds no text
was-there : (texts : List (List ℕ)) (text : List ℕ) → Contains (in_order texts) text → Contains texts text
was-there texts text c = All-contains (Contains texts) (in_order texts) text (ordered-from texts [] texts (All-nil (Contains texts)) (All-contains_itself texts)) c

-- ---- a line has what its node needs

some-same : {X : Type 0} (x y : X) → Some x ≡ Some y → x ≡ y
some-same x y e = cc e

record HasNeeds (line : PlanNode) (ids : Needed) : Type 0 where
  libs : line.libs ≡ ids.libs
  tools : line.tools ≡ ids.tools
  setups : line.setups ≡ ids.setups

has-needs : (selection : Selection) (node : Node) (ids : Needed) (body : Option Body) (line : PlanNode) → line_by selection node ids body ≡ Some line → HasNeeds line ids
has-needs selection node ids None line e = absurd (cc e)
has-needs selection node ids (Some (Installed record_of needs)) line e =
    let same = some-same _ line e in
    record { libs = ap (λ (l : PlanNode). l.libs) (sym same); tools = ap (λ (l : PlanNode). l.tools) (sym same); setups = ap (λ (l : PlanNode). l.setups) (sym same) }
has-needs selection node ids (Some (Source source)) line e =
    let same = some-same _ line e in
    record { libs = ap (λ (l : PlanNode). l.libs) (sym same); tools = ap (λ (l : PlanNode). l.tools) (sym same); setups = ap (λ (l : PlanNode). l.setups) (sym same) }

-- a need whose line has an identifier
record IsNeed (line_at : Node → PlanNode) (needs : List Need) (id : List ℕ) : Type 0 where
  need : Need
  among : Contains needs need
  same : (line_at need.node).id ≡ id

of-kind : (is_meant : DepKind → Bool) (f : Node → PlanNode) (needs : List Need) (id : List ℕ) → Contains (ids_for is_meant f needs) id → IsNeed f needs id
of-kind is_meant f needs id c =
    let kept = filter (λ (n : Need). is_meant n.kind) needs in
    let from = contains-map (λ (n : Need). (f n.node).id) kept id (was-there (map (λ (n : Need). (f n.node).id) kept) id c) in
    record { need = from.0; among = (contains-filter (λ (n : Need). is_meant n.kind) needs from.0 from.1).0; same = from.2 }

-- a need of a node whose line has this identifier
record Asks (selection : Selection) (node : Node) (id : List ℕ) : Type 0 where
  need : Need
  among : Contains (needs_of selection node) need
  line : PlanNode
  has : HasLine selection need.node line
  same : line.id ≡ id

asks-for : (selection : Selection) (node : Node) (line : PlanNode) → HasLine selection node line → (id : List ℕ) → Contains (all_needs line) id → Asks selection node id
asks-for selection node line (told n l f each is) id c =
    let needs = needs_of selection node in
    let has = has-needs selection node (needed_by f needs) (body_at selection node.qual node.«package») line is in
    let from : IsNeed f needs id = ⊎_elim
    (λ a. ⊎_elim
    (λ l. of-kind is_of_library f needs id (subst (λ k. Contains k id) has.libs l))
    (λ t. of-kind is_tool f needs id (subst (λ k. Contains k id) has.tools t))
    (contains-append line.libs line.tools id a))
    (λ s. of-kind is_of_setup f needs id (subst (λ k. Contains k id) has.setups s))
    (contains-append (line.libs ++ line.tools) line.setups id (was-there (line.libs ++ line.tools ++ line.setups) id c)) in
    record { need = from.need; among = from.among; line = f from.need.node; has = each from.need from.among; same = from.same }

-- ---- in build order

module _ (selection : Selection) (all : List LinedNode) (ranked : AreRanked selection all) (places : List ℕ) (build : IsBuildOrder (graph_of selection all) places) where
  abbrev row : LinedNode → List ℕ
  row t = row_of (nodes_of all) (needs_of selection t.node)

  need-placed : (front rest : List ℕ) (u : ℕ) → places ≡ front ++ u ∷ rest → (id : List ℕ) → Contains (all_needs (line_at all u)) id
      → (v : ℕ) × Contains front v × ((line_at all v).id ≡ id)
  need-placed front rest u e id c =
      let ready = (build.each front rest u e).ready in
      let within : u < length all = subst (λ n. u < n) (length-map all row) ready.node in
      let t = get_or all u no_told in
      let here : Contains all t = Contains-get_or all u no_told within in
      let asked = asks-for selection t.node t.line (ranked.lines t here) id c in
      let node = asked.need.node in
      let other : LinedNode = record { node = node; line = asked.line } in
      let plan = needed t.node node (ranked.inside t here) (map-contains (λ (n : Need). n.node) (needs_of selection t.node) asked.need asked.among) in
      let at = at_place (nodes_of all) node (map-contains (λ (s : LinedNode). s.node) all other (ranked.whole other plan asked.has)) in
      let v = place_of (nodes_of all) node in
      let there : v < length all = subst (λ n. v < n) (length-map all (λ (s : LinedNode). s.node)) at.within in
      let s = get_or all v no_told in
      let is-node : s.node ≡ node = sym (get_or-map (λ (x : LinedNode). x.node) all v no_told no_node there) ∙ at.is in
      let is-line : s.line ≡ asked.line =
      one selection node s.line asked.line (subst (λ n. HasLine selection n s.line) is-node (ranked.lines s (Contains-get_or all v no_told there))) asked.has in
      let edge : Needs (graph_of selection all) u v =
      subst (λ r. Contains r v) (sym (get_or-map row all u no_told [] within)) (map-contains (λ (n : Need). place_of (nodes_of all) n.node) (needs_of selection t.node) asked.need asked.among) in
      (v, ready.met v edge, ap (λ (l : PlanNode). l.id) is-line ∙ asked.same)

-- ---- each line once

-- a kept line, and each line before it has an equal one in front
pub record IsFirst (seen front : List PlanNode) (line : PlanNode) : Type 0 where
  before : List PlanNode
  after : List PlanNode
  is : seen ≡ before ++ line ∷ after
  covered : (x : PlanNode) → Contains before x → Contains (map node_line front) (node_line x)

pub record Keeps (seen kept : List PlanNode) : Type 0 where
  pub covers : (x : PlanNode) → Contains seen x → Contains (map node_line kept) (node_line x)
  pub splits : (front rest : List PlanNode) (line : PlanNode) → kept ≡ front ++ line ∷ rest → IsFirst seen front line

later : (seen front : List PlanNode) (line x : PlanNode) → IsFirst seen front line → IsFirst (seen ++ x ∷ []) front line
later seen front line x f = record {
  before = f.before;
  after = f.after ++ x ∷ [];
  is = ap (λ l. l ++ x ∷ []) f.is ∙ append_assoc f.before (line ∷ f.after) (x ∷ []);
  covered = f.covered;
}

longer : (kept : List PlanNode) (x : PlanNode) (text : List ℕ) → Contains (map node_line kept) text → Contains (map node_line (kept ++ x ∷ [])) text
longer kept x text c =
    let from = contains-map node_line kept text c in
    subst (Contains (map node_line (kept ++ x ∷ []))) from.2 (map-contains node_line (kept ++ x ∷ []) from.0 (contains-left kept (x ∷ []) from.0 from.1))

step : (seen kept : List PlanNode) (x : PlanNode) → Keeps seen kept → Keeps (seen ++ x ∷ []) (insert_key same_line kept x)
step seen kept x k =
    elim (list_any (same_line x) kept) as (λ b. list_any (same_line x) kept ≡ b → Keeps (seen ++ x ∷ []) (cond b kept (kept ++ x ∷ []))) [
      | true ↦ λ e.
          let found = any-at (same_line x) kept e in
          let same : node_line found.0 ≡ node_line x = sym (same-is (node_line x) (node_line found.0) found.2) in
          record {
            covers = λ y c. ⊎_elim (λ old. k.covers y old)
                (λ new. subst (λ z. Contains (map node_line kept) (node_line z)) new (subst (Contains (map node_line kept)) same (map-contains node_line kept found.0 found.1)))
                (Contains-push_cases seen x y c);
            splits = λ front rest line is. later seen front line x (k.splits front rest line is);
          }
      | false ↦ λ e. record {
        covers = λ y c. ⊎_elim (λ old. longer kept x (node_line y) (k.covers y old))
            (λ new. subst (λ z. Contains (map node_line (kept ++ x ∷ [])) (node_line z)) new (map-contains node_line (kept ++ x ∷ []) x (Contains-push kept x)))
            (Contains-push_cases seen x y c);
        splits = λ front rest line is. ⊎_elim
            (λ last. record {
              before = seen;
              after = [];
              is = ap (λ l. seen ++ l ∷ []) (sym last.1);
              covered = λ y c. subst (λ f. Contains (map node_line f) (node_line y)) (sym last.0) (k.covers y c);
            })
            (λ inner. later seen front line x (k.splits front inner.0 line inner.1))
            (push_split front kept rest line x is);
      }
    ] refl

all-kept : (seen kept more : List PlanNode) → Keeps seen kept → Keeps (seen ++ more) (fold (insert_key same_line) kept more)
all-kept seen kept [] k = subst (λ s. Keeps s kept) (sym (append-nil seen)) k
all-kept seen kept (x ∷ more) k =
    subst (λ s. Keeps s (fold (insert_key same_line) (insert_key same_line kept x) more)) (append_assoc seen (x ∷ []) more)
    (all-kept (seen ++ x ∷ []) (insert_key same_line kept x) more (step seen kept x k))

pub once-kept : (lines : List PlanNode) → Keeps lines (each_line_once lines)
once-kept lines = all-kept [] [] lines (record {
  covers = λ x c. absurd (contains-none x c);
  splits = λ front rest line is. absurd (no-cons line rest (none-back front (line ∷ rest) (sym is)));
})
  where
    no-cons : (x : PlanNode) (xs : List PlanNode) → x ∷ xs ≡ [] → ⊥
    no-cons x xs e = cc e

-- ---- a plan

-- a split of the images splits the list
record IsSplit {X Y : Type 0} (f : X → Y) (xs : List X) (front : List Y) (y : Y) : Type 0 where
  before : List X
  after : List X
  item : X
  is : xs ≡ before ++ item ∷ after
  fronts : map f before ≡ front
  same : f item ≡ y

split-of : {X Y : Type 0} (f : X → Y) (xs : List X) (front rest : List Y) (y : Y) → map f xs ≡ front ++ y ∷ rest → IsSplit f xs front y
split-of f [] [] rest y e = absurd (cc e)
split-of f [] (z ∷ front) rest y e = absurd (cc e)
split-of f (x ∷ xs) [] rest y e = record { before = []; after = xs; item = x; is = refl; fronts = refl; same = cc e }
split-of f (x ∷ xs) (z ∷ front) rest y e =
    let s = split-of f xs front rest y (cc e) in
    let head : f x ≡ z = cc e in
    record {
      before = x ∷ s.before;
      after = s.after;
      item = s.item;
      is = ap (λ l. x ∷ l) s.is;
      fronts = ap (λ l. f x ∷ l) s.fronts ∙ ap (λ k. k ∷ front) head;
      same = s.same;
    }

pub told_before : (selection : Selection) (lines : List PlanNode) → IsPlan selection lines → NeedsPrintedBefore lines
told_before selection lines plan front rest line id is c =
    let made = map (line_at plan.all) plan.places in
    let first = (once-kept made).splits front rest line (sym plan.lines_are ∙ is) in
    let at = split-of (line_at plan.all) plan.places first.before first.after line first.is in
    let need = need-placed selection plan.all plan.ranked plan.places plan.in_order at.before at.after at.item at.is id (subst (λ l. Contains (all_needs l) id) (sym at.same) c) in
    let other = line_at plan.all need.0 in
    record {
      node = other;
      has = need.2;
      told = first.covered other (subst (λ l. Contains l other) at.fronts (map-contains (line_at plan.all) at.before need.0 need.1));
    }
