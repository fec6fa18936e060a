-- Shared: the line of a node is unique.
use Rattle.std.proofs.Common.{◌≡◌, List, Some, refl, sym, ap, ◌∙◌}
use Rattle.std.specs.List.{Contains}
use Rattle.plan_nodes.specs.declared.node.PlanNode.{PlanNode}
use Rattle.plan_components.specs.declared.node.Need.{Need}
use Rattle.plan_components.specs.declared.node.Node.{Node}
use Rattle.plan_components.specs.Chosen.{Selection}
use Rattle.plan_components.specs.Needs.{needs_of}
use Rattle.plan_lines.specs.Line.{line_of}
use Rattle.node_lines.specs.Lines.{HasLine, needed_by, told}
use Rattle.node_lines.proofs.Gathering.{gathers}

some-same : {X : Type 0} (x y : X) → Some x ≡ Some y → x ≡ y
some-same x y e = cc e

-- line functions that agree on the needs give the same identifiers
same-needed : (f g : Node → PlanNode) (needs : List Need) → ((need : Need) → Contains needs need → f need.node ≡ g need.node) → needed_by f needs ≡ needed_by g needs
same-needed f g needs h =
    some-same (needed_by f needs) (needed_by g needs)
    (sym (gathers (λ node. Some (f node)) f needs (λ need c. refl)) ∙ gathers (λ node. Some (f node)) g needs (λ need c. ap Some (h need c)))

pub one : (selection : Selection) (node : Node) (a b : PlanNode) → HasLine selection node a → HasLine selection node b → a ≡ b
one selection node a b (told n l f each is) (told m k g each' is') =
    some-same a b
    (sym is ∙ ap (line_of selection node) (same-needed f g (needs_of selection node) (λ need c. one selection need.node (f need.node) (g need.node) (each need c) (each' need c))) ∙ is')
