-- Shared: nodes that the derived test finds equal are equal.
use Rattle.std.proofs.Common.{◌≡◌, ◌≢◌, inl, inr, true, false, List, [], ◌∷◌, sym, ap, ◌∙◌, rules}
use Rattle.std.specs.List.{AllByRecursion, AllPairs, Contains, IsDistinct}
use Rattle.std.proofs.lemmas.Bool.{false≢true}
use Rattle.common_laws.specs.Lists.{contains-cases, contains-none, pairs-cons, pairs-nil}
use Rattle.plan_components.specs.contracts.node.NodePartialEq.TheImpl.{eq-value}
use Rattle.plan_components.specs.declared.node.Node.{Node}
use Rattle.plan_components.specs.SameNode.{node-is, node-self, same_node}

pub derived : (m n : Node) → eq-value.it m n ≡ same_node m n
derived m n = search rules

-- ---- by the derived test

pub exact : (m n : Node) → eq-value.it m n ≡ true → m ≡ n
exact m n h = node-is m n (sym (derived m n) ∙ h)

pub alike : (n : Node) → eq-value.it n n ≡ true
alike n = derived n n ∙ node-self n

apart : (n : Node) (nodes : List Node) → AllByRecursion (λ m. eq-value.it n m ≡ false) nodes → (m : Node) → Contains nodes m → n ≢ m
apart n [] h m c e = contains-none m c
apart n (k ∷ nodes) h m c e =
    elim (contains-cases k nodes m c) [
      | inl is ↦ false≢true (sym h.0 ∙ ap (eq-value.it n) (is ∙ sym e) ∙ alike n)
      | inr r ↦ apart n nodes h.1 m r e
    ]

-- nodes that the derived test distinguishes are distinct
pub differ : (nodes : List Node) → IsDistinct eq-value.it nodes → AllPairs (λ a b. a ≢ b) nodes
unfolding IsDistinct
differ [] h = pairs-nil (λ a b. a ≢ b)
differ (n ∷ nodes) h = pairs-cons (λ a b. a ≢ b) n nodes (apart n nodes h.0) (differ nodes h.1)
