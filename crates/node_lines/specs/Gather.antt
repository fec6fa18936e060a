-- The identifiers of needs, gathered one by one.
use Rattle.std.specs.Prelude.{ℕ, List, [], ◌∷◌, slice_index_or, Option, Some, None}
use Rattle.std.specs.BTreeSet.{insert_key}
use Rattle.std.specs.Cmp.Lexicographic.{slice_cmp}
use Rattle.std.specs.Ordering.{nat_cmp}
use Rattle.plan_types.specs.declared.dependency.DepKind.{DepKind}
use Rattle.plan_types.specs.declared.dependency.DepKind.TheVariants.{Library, Tool, Setup}
use Rattle.plan_nodes.specs.declared.node.PlanNode.{PlanNode}
use Rattle.plan_components.specs.declared.node.Need.{Need}
use Rattle.plan_components.specs.declared.node.Node.{Node}
use Rattle.plan_components.specs.SameNode.{place_of}
use Rattle.plan_lines.specs.declared.needed.Needed.{Needed}
use Rattle.node_lines.specs.declared.gather.Sets.{Sets}

-- the line of a node among those so far
abbrev pub line_at : List Node → List (Option PlanNode) → Node → Option PlanNode
line_at nodes lines node = slice_index_or lines (place_of nodes node) None

-- no needs
abbrev pub empty : Needed
empty = record { libs = []; tools = []; setups = [] }

-- the identifiers in the sets
abbrev pub needed_of : Sets → Needed
needed_of sets = record { libs = sets.libs.keys; tools = sets.tools.keys; setups = sets.setups.keys }

-- one more identifier, for a dependency of this kind
abbrev pub added : Needed → DepKind → List ℕ → Needed
added needed Library id = record { libs = insert_key (slice_cmp nat_cmp) needed.libs id; tools = needed.tools; setups = needed.setups }
added needed Tool id = record { libs = needed.libs; tools = insert_key (slice_cmp nat_cmp) needed.tools id; setups = needed.setups }
added needed Setup id = record { libs = needed.libs; tools = needed.tools; setups = insert_key (slice_cmp nat_cmp) needed.setups id }

-- the result with a line; none without one
abbrev pub with_line : Option PlanNode → (PlanNode → Option Needed) → Option Needed
with_line None more = None
with_line (Some line) more = more line

-- what is gathered, with the identifiers of these needs; none if one of them has no line
abbrev pub gather_from : (Node → Option PlanNode) → Needed → List Need → Option Needed
gather_from lines so_far [] = Some so_far
gather_from lines so_far (need ∷ needs) = with_line (lines need.node) (λ line. gather_from lines (added so_far need.kind line.id) needs)

-- the identifiers of all needs; none if one of them has no line
abbrev pub gathered : (Node → Option PlanNode) → List Need → Option Needed
gathered lines needs = gather_from lines empty needs
