-- Shared: `lined_cmp` is a total order.
use Rattle.std.proofs.Common.{◌≡◌, subst, rules, is_lt}
use Rattle.std.specs.Cmp.{IsStrictWeakOrder, IsTotalOrder}
use Rattle.std.specs.Cmp.Lexicographic.{nat_list_cmp_total}
use Rattle.std.proofs.lemmas.Cmp.{on_total, then_total}
use Rattle.std.proofs.lemmas.List.Sorted.{ranks_by}
use Rattle.plan_components.specs.declared.node.Node.{Node}
use Rattle.plan_components.specs.contracts.node.NodeOrd.TheImpl.{cmp-value}
use Rattle.plan_components.specs.contracts.node.NodeOrd.TheImpl.Laws.{total-law}
use Rattle.elaborate.specs.declared.told.LinedNode.{LinedNode}
use Rattle.elaborate.specs.declared.told.PlacedLine.{PlacedLine}
use Rattle.elaborate.specs.Told.{lined_cmp, node_cmp, placed_cmp}

-- the derived order of nodes is `node_cmp`
derived : (m n : Node) → cmp-value.it m n ≡ node_cmp m n
derived m n = search rules

node-total : IsTotalOrder node_cmp
node-total = subst IsTotalOrder (λ i m n. derived m n i) total-law

pub told-total : IsTotalOrder lined_cmp
told-total =
    then_total (then_total (then_total (then_total
    (on_total (λ (t : LinedNode). t.line.name) nat_list_cmp_total)
    (on_total (λ (t : LinedNode). t.line.version.parts) nat_list_cmp_total))
    (on_total (λ (t : LinedNode). t.line.component) nat_list_cmp_total))
    (on_total (λ (t : LinedNode). t.line.id) nat_list_cmp_total))
    (on_total (λ (t : LinedNode). t.node) node-total)

pub told-order : IsStrictWeakOrder (λ (x y : LinedNode). is_lt (lined_cmp x y))
told-order = ranks_by told-total (λ (t : LinedNode). t)

pub placed-order : IsStrictWeakOrder (λ (x y : PlacedLine). is_lt (placed_cmp x y))
placed-order = ranks_by told-total (λ (p : PlacedLine). p.lined)
