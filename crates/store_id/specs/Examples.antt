-- Texts and names, computed.
use Rattle.std.specs.Prelude.{◌≡◌, ℕ, true, false, List, [], ◌∷◌, ◌++◌, codes, refl}
use Rattle.std.specs.Fmt.{digits}
use Rattle.plan_types.specs.declared.condition.Env.{Env}
use Rattle.plan_types.specs.declared.condition.FlagSet.{FlagSet}
use Rattle.plan_types.specs.declared.description.Description.{Description}
use Rattle.plan_types.specs.declared.description.FlagDecl.{FlagDecl}
use Rattle.plan_types.specs.declared.range.Spec.TheVariants.{V2_4}
use Rattle.plan_nodes.specs.declared.node.NodeKind.TheVariants.{Store}
use Rattle.plan_nodes.specs.declared.node.PlanNode.{PlanNode}
use Rattle.store_id.specs.NodeText.{id_text, names_each_once}
use Rattle.store_id.specs.Identifier.{in_place_id, own_name}

abbrev node : PlanNode
node = record {
  kind = Store;
  name = codes "tool";
  version = record { parts = 1 ∷ 20 ∷ [] };
  component = codes "exe:run";
  id = [];
  unbuildable = false;
  libs = codes "base-4.18" ∷ codes "zlib-1" ∷ [];
  tools = codes "alex-3" ∷ [];
  setups = [];
}

abbrev declared : List ℕ → FlagDecl
declared name = record { line = 4; name = name; default = true; manual = false }

abbrev description : Description
description = record {
  spec = V2_4;
  name = codes "tool";
  version = record { parts = 1 ∷ 20 ∷ [] };
  custom = false;
  flags = declared (codes "fast") ∷ declared (codes "small") ∷ [];
  components = [];
  setup = [];
  digest = codes "0ab";
  warnings = [];
}

abbrev flags : List FlagSet
flags = record { name = codes "small"; on = true } ∷ record { name = codes "fast"; on = false } ∷ []

abbrev env : Env
env = record { os = codes "linux"; arch = codes "x86_64"; compiler = codes "ghc"; compiler_version = record { parts = 9 ∷ 4 ∷ 7 ∷ [] } }

-- each declared flag has one value
flags-are-named : names_each_once (declared (codes "fast") ∷ declared (codes "small") ∷ []) flags ≡ true
flags-are-named = refl

not-named : names_each_once (declared (codes "fast") ∷ []) [] ≡ false
not-named = refl

-- flags are printed in the order in which they are declared
a-whole-text : id_text node description flags env
    ≡ codes "store 1\npackage tool-1.20\ncomponent exe:run\ncompiler ghc-9.4.7\nos linux\narch x86_64\n"
    ++ codes "flag fast off\nflag small on\ncabal 0ab\nlib base-4.18\nlib zlib-1\ntool alex-3\n"
unfolding digits
a-whole-text = refl

-- a component with a name behind the colon
an-own-name : own_name (codes "exe:run") ≡ codes "-run"
an-own-name = refl

-- no name behind a colon: the main library, or a package that is built as a whole
no-own-name : own_name (codes "lib") ≡ []
no-own-name = refl

a-whole-package : own_name (codes "package") ≡ []
a-whole-package = refl

-- built in place
in-place : in_place_id node ≡ codes "tool-1.20-inplace-run"
unfolding digits
in-place = refl
