-- Definitions for single steps of the walk over the nodes of a plan, in `src/reached.rt`.
use Rattle.std.specs.Prelude.{◌≡◌, ◌⊎◌, ◌↔◌, ℕ, Bool, true, ◌&&◌, cond, List, ◌++◌, Contains, slice_index_or, Option, Some, None}
use Rattle.plan_types.specs.declared.dependency.LibName.TheVariants.{Main}
use Rattle.plan_types.specs.declared.description.Component.{Component}
use Rattle.flatten.specs.OwnComponents.{is_executable, is_lib}
use Rattle.qualified_goals.specs.declared.variable.Qual.TheVariants.{Top}
use Rattle.plan_components.specs.declared.node.Node.{Node}
use Rattle.plan_components.specs.declared.node.Piece.TheVariants.{Whole}
use Rattle.plan_components.specs.declared.owner.Owner.{Owner}
use Rattle.plan_components.specs.declared.wanted.Among.{Among}
use Rattle.plan_components.specs.declared.wanted.Among.TheVariants.{All, Executables, MainLibrary}
use Rattle.plan_components.specs.Chosen.{Selection}
use Rattle.plan_components.specs.Wanted.{is_wanted_under}
use Rattle.qualified_goals.specs.Variable.{same_var}
use Rattle.choice_problem.specs.declared.problem.Choice.{Choice}
use Rattle.choice_problem.specs.Assignment.{Assignment}

-- the first value if there is one, else the second
abbrev pub first_value : Option ℕ → Option ℕ → Option ℕ
first_value None other = other
first_value (Some n) other = Some n

-- an assignment, with the choice's value where its variable has none
abbrev pub value_with : Assignment → Choice → Assignment
value_with A c v = first_value (A v) (cond (same_var c.var v) (Some c.val) None)

-- whether a component of the node's package is wanted
abbrev pub wanted_of : Selection → Owner → Component → Bool
wanted_of selection owner = is_wanted_under selection owner.node.qual owner.node.«package» owner.known.now.flags

-- whether a component is one of those that are sought
abbrev pub is_among : Among → Component → Bool
is_among All component = true
is_among MainLibrary component = is_lib component Main
is_among Executables component = is_executable component.kind

-- whether a component is one of those that are sought, and wanted
abbrev pub is_wanted_among : Selection → Owner → Among → Component → Bool
is_wanted_among selection owner among component = is_among among component && wanted_of selection owner component

-- those of these nodes that are new are appended
pub record AppendsNew (others old new : List Node) : Type 0 where
  pub more : List Node
  pub grown : new ≡ old ++ more
  pub members : (node : Node) → Contains new node ↔ Contains old node ⊎ Contains others node

-- the node that is read at a place beyond the last
abbrev pub no_node : Node
no_node = record { qual = Top; «package» = 0; piece = Whole }

-- the node at a place
abbrev pub node_at : List Node → ℕ → Node
node_at nodes place = slice_index_or nodes place no_node
