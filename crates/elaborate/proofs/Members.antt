-- The members of `lined_nodes`; each node is in it once.
use Rattle.std.proofs.Common.{◌≡◌, ◌≢◌, ◌<◌, ℕ, zero, suc, List, [], ◌∷◌, length, get_or, Option, Some, None, sym, ap, ◌∙◌, subst, ⊎_elim, arith}
use Rattle.std.specs.Prelude.{AllPairs, Contains}
use Rattle.std.proofs.lemmas.Option.{none-some}
use Rattle.std.proofs.lemmas.List.Elements.{Contains-get_or}
use Rattle.common_laws.specs.Lists.{contains-append, contains-cases, contains-head, contains-left, contains-map, contains-none, contains-right, once-head, once-tail, pairs-cons, pairs-nil}
use Rattle.plan_nodes.specs.declared.node.PlanNode.{PlanNode}
use Rattle.plan_components.specs.declared.node.Node.{Node}
use Rattle.plan_components.specs.Steps.{no_node, node_at}
use Rattle.elaborate.specs.declared.told.LinedNode.{LinedNode}
use Rattle.elaborate.specs.Plan.{nodes_of}
use Rattle.elaborate.specs.Telling.{lined_nodes, lined_node}

-- a node and its line have the same place
pub record IsBeside (nodes : List Node) (lines : List (Option PlanNode)) (t : LinedNode) : Type 0 where
  pub place : ℕ
  pub within : place < length nodes
  pub node : node_at nodes place ≡ t.node
  pub line : get_or lines place None ≡ Some t.line

one-told : (node : Node) (line : Option PlanNode) (t : LinedNode) → Contains (lined_node node line) t → (node ≡ t.node) × (line ≡ Some t.line)
one-told node None t c = absurd (contains-none t c)
one-told node (Some line) t c =
    ⊎_elim (λ e. (ap (λ (x : LinedNode). x.node) e, ap (λ (x : LinedNode). Some x.line) e)) (λ r. absurd (contains-none t r))
    (contains-cases (record { node = node; line = line }) [] t c)

told-one : (node : Node) (line : Option PlanNode) (t : LinedNode) → node ≡ t.node → line ≡ Some t.line → Contains (lined_node node line) t
told-one node line t is has =
    subst (λ o. Contains (lined_node node o) t) (sym has) (subst (λ n. Contains (lined_node n (Some t.line)) t) (sym is) (contains-head t []))

pub beside : (nodes : List Node) (lines : List (Option PlanNode)) (t : LinedNode) → Contains (lined_nodes nodes lines) t → IsBeside nodes lines t
beside [] lines t c = absurd (contains-none t c)
beside (node ∷ nodes) [] t c = absurd (contains-none t c)
beside (node ∷ nodes) (line ∷ lines) t c = ⊎_elim
    (λ l. let e = one-told node line t l in record { place = zero; within = omega arith; node = e.0; line = e.1 })
    (λ r. let b = beside nodes lines t r in let w = b.within in record { place = suc b.place; within = omega (arith, w); node = b.node; line = b.line })
    (contains-append (lined_node node line) (lined_nodes nodes lines) t c)

pub told_at : (nodes : List Node) (lines : List (Option PlanNode)) (t : LinedNode) (place : ℕ)
    → place < length nodes → node_at nodes place ≡ t.node → get_or lines place None ≡ Some t.line → Contains (lined_nodes nodes lines) t
told_at [] lines t place lt is has = absurd (omega (arith, lt))
told_at (node ∷ nodes) [] t place lt is has = absurd (none-some t.line has)
told_at (node ∷ nodes) (line ∷ lines) t zero lt is has = contains-left (lined_node node line) (lined_nodes nodes lines) t (told-one node line t is has)
told_at (node ∷ nodes) (line ∷ lines) t (suc place) lt is has =
    contains-right (lined_node node line) (lined_nodes nodes lines) t (told_at nodes lines t place (omega (arith, lt)) is has)

-- ---- each once

among : (nodes : List Node) (lines : List (Option PlanNode)) (node : Node) → Contains (nodes_of (lined_nodes nodes lines)) node → Contains nodes node
among nodes lines node c =
    let from = contains-map (λ (t : LinedNode). t.node) (lined_nodes nodes lines) node c in
    let b = beside nodes lines from.0 from.1 in
    subst (Contains nodes) (b.node ∙ from.2) (Contains-get_or nodes b.place no_node b.within)

pub once_told : (nodes : List Node) (lines : List (Option PlanNode)) → AllPairs (λ a b. a ≢ b) nodes → AllPairs (λ a b. a ≢ b) (nodes_of (lined_nodes nodes lines))
once_told [] lines once = pairs-nil (λ a b. a ≢ b)
once_told (node ∷ nodes) [] once = pairs-nil (λ a b. a ≢ b)
once_told (node ∷ nodes) (None ∷ lines) once = once_told nodes lines (once-tail node nodes once)
once_told (node ∷ nodes) (Some line ∷ lines) once =
    pairs-cons (λ a b. a ≢ b) node (nodes_of (lined_nodes nodes lines))
    (λ other c e. once-head node nodes once (subst (Contains nodes) (sym e) (among nodes lines other c)))
    (once_told nodes lines (once-tail node nodes once))
