-- A node is kept unless its line was printed before.
use Rattle.std.proofs.Common.{◌≡◌, ℕ, ◌<◌, length, get_or, Bool, true, false, ◌||◌, List, [], ◌∷◌, ◌++◌, map, fold, refl, sym, ap, ◌∙◌, if◌then◌else◌}
use Rattle.std.proofs.Math.Bool.{beq}
use Rattle.std.specs.List.{list_all, list_any}
use Rattle.std.specs.Cmp.Lexicographic.{bytes_decides, pointwise, pointwise_decides}
use Rattle.std.proofs.lemmas.Bool.{false≢true, and_parts, or_parts}
use Rattle.std.proofs.lemmas.List.Folds.{list_any-append, list_any_at}
use Rattle.indexmap.specs.IndexSet.{insert_key}
use Rattle.plan_types.specs.Bytes.{same_text}
use Rattle.plan_nodes.specs.contracts.node.PlanNodePartialEq.TheImpl.{eq-value as same_node}
use Rattle.plan_nodes.specs.contracts.node.NodeKindPartialEq.TheImpl.{eq-value as same_kind}
use Rattle.plan_nodes.specs.declared.node.NodeKind.{NodeKind}
use Rattle.plan_nodes.specs.declared.node.NodeKind.TheVariants.{Installed, Local, Store}
use Rattle.plan_nodes.specs.declared.node.PlanNode.{PlanNode}
use Rattle.plan_nodes.specs.Line.{node_line}
use Rattle.plan_nodes.specs.Once.{same_line}
use Rattle.plan_nodes.specs.Seen.{is_plain, AreIds, AreLines, with_line}
use Rattle.plan_nodes.proofs.ReadId.{read_id, reads_id}

-- the line was printed before
pub stays : (node : PlanNode) (kept : List PlanNode) → list_any (same_line node) kept ≡ true → kept ≡ insert_key same_line kept node
stays node kept h = ap (λ b. if b then kept else kept ++ node ∷ []) (sym h)

-- the line is new
pub goes : (node : PlanNode) (kept : List PlanNode) → list_any (same_line node) kept ≡ false → kept ++ node ∷ [] ≡ insert_key same_line kept node
goes node kept h = ap (λ b. if b then kept else kept ++ node ∷ []) (sym h)

one_bool : (a b : Bool) → beq a b ≡ true → a ≡ b
one_bool true true h = refl
one_bool true false h = absurd (false≢true h)
one_bool false true h = absurd (false≢true h)
one_bool false false h = refl

same_texts : (xs ys : List (List ℕ)) → pointwise same_text xs ys ≡ true → xs ≡ ys
same_texts xs ys h = (pointwise_decides bytes_decides xs ys).0 h

one_kind : (a b : NodeKind) → same_kind.it a b ≡ true → a ≡ b
one_kind Installed Installed h = refl
one_kind Installed Local h = absurd (false≢true h)
one_kind Installed Store h = absurd (false≢true h)
one_kind Local Installed h = absurd (false≢true h)
one_kind Local Local h = refl
one_kind Local Store h = absurd (false≢true h)
one_kind Store Installed h = absurd (false≢true h)
one_kind Store Local h = absurd (false≢true h)
one_kind Store Store h = refl

-- nodes that the derived test finds equal have equal lines
equal_lines : (node other : PlanNode) → same_node.it node other ≡ true → node_line node ≡ node_line other
equal_lines node other h =
    let kind = and_parts _ _ h in
    let name = and_parts _ _ kind.1 in
    let version = and_parts _ _ name.1 in
    let component = and_parts _ _ version.1 in
    let id = and_parts _ _ component.1 in
    let unbuildable = and_parts _ _ id.1 in
    let libs = and_parts _ _ unbuildable.1 in
    let needs = and_parts _ _ libs.1 in
    let kinds = one_kind node.kind other.kind kind.0 in
    let names = (bytes_decides node.name other.name).0 name.0 in
    let versions = (bytes_decides node.version.parts other.version.parts).0 version.0 in
    let components = (bytes_decides node.component other.component).0 component.0 in
    let ids = (bytes_decides node.id other.id).0 id.0 in
    let all_libs = same_texts node.libs other.libs libs.0 in
    let all_tools = same_texts node.tools other.tools needs.0 in
    let all_setups = same_texts node.setups other.setups needs.1 in
    let u : node.unbuildable ≡ other.unbuildable = one_bool node.unbuildable other.unbuildable unbuildable.0 in
    cc (kinds, names, versions, components, ids, u, all_libs, all_tools, all_setups)

-- an equal node among those that are kept
pub equal_at : (node : PlanNode) (kept : List PlanNode) (place : ℕ) (d : PlanNode) → place < length kept → same_node.it (get_or kept place d) node ≡ true → list_any (same_line node) kept ≡ true
equal_at node kept place d within h =
    let other = get_or kept place d in
    list_any_at (same_line node) kept place d within ((bytes_decides (node_line node) (node_line other)).1 (sym (equal_lines other node h)))

-- plain nodes with different identifiers have different lines
other_line : (node other : PlanNode) → is_plain node ≡ true → is_plain other ≡ true → same_text node.id other.id ≡ false → same_line node other ≡ false
other_line node other p q h = by (same_line node other) refl
  where
    by : (b : Bool) → same_line node other ≡ b → b ≡ false
    by false e = refl
    by true e =
        let lines = (bytes_decides (node_line node) (node_line other)).0 e in
        let ids = sym (reads_id node p) ∙ ap read_id lines ∙ reads_id other q in
        absurd (false≢true (sym h ∙ (bytes_decides node.id other.id).1 ids))

none_by_id : (node : PlanNode) (kept : List PlanNode) → is_plain node ≡ true → list_all is_plain kept ≡ true → list_any (same_text node.id) (map (λ (k : PlanNode). k.id) kept) ≡ false → list_any (same_line node) kept ≡ false
none_by_id node [] p all h = refl
none_by_id node (k ∷ kept) p all h =
    let a = and_parts (is_plain k) (list_all is_plain kept) all in
    let o = or_parts (same_text node.id k.id) (list_any (same_text node.id) (map (λ (k : PlanNode). k.id) kept)) h in
    ap (λ b. b || list_any (same_line node) kept) (other_line node k p a.0 o.0) ∙ none_by_id node kept p a.1 o.1

-- a new identifier has a new line
pub new_id : (node : PlanNode) (ids : List (List ℕ)) (kept : List PlanNode) → AreIds ids kept → is_plain node ≡ true → list_any (same_text node.id) ids ≡ false → list_any (same_line node) kept ≡ false
new_id node ids kept are p h = none_by_id node kept p are.plain (ap (list_any (same_text node.id)) (sym are.ids_are) ∙ h)

or_nothing : (a : Bool) → (a || false) ≡ a
or_nothing false = refl
or_nothing true = refl

-- a text is among the lines with one more if it was or is that one
some_more : (text line : List ℕ) (lines : List (List ℕ)) → list_any (same_text text) (insert_key same_text lines line) ≡ (list_any (same_text text) lines || same_text text line)
some_more text line lines = by (list_any (same_text line) lines) refl
  where
    again : list_any (same_text line) lines ≡ true → (b : Bool) → same_text text line ≡ b → list_any (same_text text) lines ≡ (list_any (same_text text) lines || b)
    again there false e = sym (or_nothing (list_any (same_text text) lines))
    again there true e =
        let is = ap (λ t. list_any (same_text t) lines) ((bytes_decides text line).0 e) ∙ there in
        is ∙ sym (ap (λ a. a || true) is)

    by : (b : Bool) → list_any (same_text line) lines ≡ b → list_any (same_text text) (if b then lines else lines ++ line ∷ []) ≡ (list_any (same_text text) lines || same_text text line)
    by false there = list_any-append (same_text text) lines (line ∷ []) ∙ ap (λ b. list_any (same_text text) lines || b) (or_nothing (same_text text line))
    by true there = again there (same_text text line) refl

or_assoc : (a b c : Bool) → ((a || b) || c) ≡ (a || (b || c))
or_assoc false b c = refl
or_assoc true b c = refl

some_from : (node : PlanNode) (lines : List (List ℕ)) (kept : List PlanNode) → list_any (same_text (node_line node)) (fold with_line lines kept) ≡ (list_any (same_text (node_line node)) lines || list_any (same_line node) kept)
some_from node lines [] = sym (or_nothing (list_any (same_text (node_line node)) lines))
some_from node lines (k ∷ kept) =
    some_from node (with_line lines k) kept
    ∙ ap (λ b. b || list_any (same_line node) kept) (some_more (node_line node) (node_line k) lines)
    ∙ or_assoc (list_any (same_text (node_line node)) lines) (same_line node k) (list_any (same_line node) kept)

-- a line is among the lines of nodes iff one of them has it
pub some_line : (node : PlanNode) (lines : List (List ℕ)) (kept : List PlanNode) → AreLines lines kept → list_any (same_line node) kept ≡ list_any (same_text (node_line node)) lines
some_line node lines kept are = sym (ap (list_any (same_text (node_line node))) are ∙ some_from node [] kept)
