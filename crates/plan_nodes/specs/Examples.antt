-- Lines of nodes.
use Rattle.std.specs.Prelude.{◌≡◌, Bool, true, false, ℕ, List, [], ◌∷◌, codes, refl}
use Rattle.std.specs.Fmt.{digits}
use Rattle.plan_nodes.specs.declared.node.NodeKind.TheVariants.{Local, Store}
use Rattle.plan_nodes.specs.declared.node.PlanNode.{PlanNode}
use Rattle.plan_nodes.specs.Once.{each_line_once}
use Rattle.plan_nodes.specs.Line.{node_line}

abbrev tool : List (List ℕ) → Bool → PlanNode
tool needs unbuildable = record {
  kind = Local;
  name = codes "tool";
  version = record { parts = 1 ∷ 20 ∷ [] };
  component = codes "exe:run";
  id = codes "tool-1.20-inplace-run";
  unbuildable = unbuildable;
  libs = needs;
  tools = codes "alex-3" ∷ [];
  setups = [];
}

-- identifiers are printed in byte order, each once
with_needs : node_line (tool (codes "base-4" ∷ codes "alex-3" ∷ []) false)
    ≡ codes "node local tool-1.20 exe:run tool-1.20-inplace-run needs alex-3 base-4\n"
unfolding digits
with_needs = refl

abbrev bare : PlanNode
bare = record {
  kind = Store;
  name = codes "q";
  version = record { parts = 1 ∷ [] };
  component = codes "lib";
  id = codes "q-1-0a";
  unbuildable = true;
  libs = [];
  tools = [];
  setups = [];
}

without_needs : node_line bare ≡ codes "node store q-1 lib q-1-0a unbuildable\n"
unfolding digits
without_needs = refl

-- an equal line is printed once, even with another one between
once : each_line_once (bare ∷ tool [] false ∷ bare ∷ []) ≡ bare ∷ tool [] false ∷ []
unfolding digits
once = refl

abbrev lib : List ℕ → List ℕ → List (List ℕ) → PlanNode
lib component id needs = record {
  kind = Store;
  name = codes "q";
  version = record { parts = 1 ∷ [] };
  component = component;
  id = id;
  unbuildable = false;
  libs = needs;
  tools = [];
  setups = [];
}

-- one identifier, two lines
two_lines : each_line_once (lib (codes "lib") (codes "x") [] ∷ lib (codes "exe:q") (codes "x") [] ∷ []) ≡ lib (codes "lib") (codes "x") [] ∷ lib (codes "exe:q") (codes "x") [] ∷ []
unfolding digits
two_lines = refl

-- two identifiers, one line, since one of them has blanks
one_line : each_line_once (lib (codes "lib") (codes "x") (codes "y" ∷ []) ∷ lib (codes "lib") (codes "x needs y") [] ∷ []) ≡ lib (codes "lib") (codes "x") (codes "y" ∷ []) ∷ []
unfolding digits
one_line = refl
