-- Nodes in sorted order.
use Rattle.std.specs.Prelude.{◌≡◌, ℕ, false, List, [], ◌∷◌, codes, refl}
use Rattle.std.specs.declared.cmp.Ordering.TheVariants.{Less, Greater}
use Rattle.qualified_goals.specs.declared.variable.Qual.{Qual}
use Rattle.qualified_goals.specs.declared.variable.Qual.TheVariants.{Top, Setup}
use Rattle.plan_nodes.specs.declared.node.NodeKind.TheVariants.{Store}
use Rattle.plan_components.specs.declared.node.Piece.TheVariants.{Whole}
use Rattle.elaborate.specs.declared.told.LinedNode.{LinedNode}
use Rattle.elaborate.specs.Told.{lined_cmp}

abbrev node_with : List ℕ → List ℕ → List ℕ → Qual → LinedNode
node_with version component id qual = record {
  node = record { qual = qual; «package» = 0; piece = Whole };
  line = record {
    kind = Store;
    name = codes "q";
    version = record { parts = version };
    component = component;
    id = id;
    unbuildable = false;
    libs = [];
    tools = [];
    setups = [];
  };
}

-- versions as lists of numbers
by_version : lined_cmp (node_with (1 ∷ 2 ∷ []) (codes "lib") (codes "b") Top)
    (node_with (1 ∷ 10 ∷ []) (codes "lib") (codes "a") Top) ≡ Less
by_version = refl

-- the component before the identifier
by_component : lined_cmp (node_with (1 ∷ []) (codes "lib") (codes "a") Top)
    (node_with (1 ∷ []) (codes "exe:run") (codes "b") Top) ≡ Greater
by_component = refl

-- the qualifier last
by_qualifier : lined_cmp (node_with (1 ∷ []) (codes "lib") (codes "a") Top)
    (node_with (1 ∷ []) (codes "lib") (codes "a") (Setup 3)) ≡ Less
by_qualifier = refl
