-- Answers as values of JSON. The keys of an object are in byte order.
use Rattle.std.specs.Prelude.{ℕ, List, map, zip, codes}
use Rattle.serde_json.specs.Data.{Data, Members, array, boolean, number, object, string, unsigned, member, no_members, put}
use Rattle.serde_json.specs.View.{items_of}
use Rattle.plan_types.specs.declared.index.Index.{Index}
use Rattle.plan_types.specs.declared.index.Skipped.{Skipped}
use Rattle.plan_types.specs.declared.index.Warning.{Warning}
use Rattle.qualified_goals.specs.declared.variable.Var.{Var}
use Rattle.qualified_goals.specs.Names.{NameTable}
use Rattle.qualified_goals.specs.Printed.{var_text}
use Rattle.choice_problem.specs.declared.problem.Choice.{Choice}
use Rattle.choice_problem.specs.declared.outcome.Counts.{Counts}
use Rattle.plan_nodes.specs.declared.node.PlanNode.{PlanNode}
use Rattle.plan_nodes.specs.Line.{all_needs, kind_word, package_text}
use Rattle.plan_print.specs.Choice.{value_text}
use Rattle.plan_print.specs.Note.{skipped_note, warning_note}

-- the array of these items' values
abbrev pub list_of : {A : Type 0} → (A → Data) → List A → Data
list_of value xs = array (items_of (map value xs))

-- the note on a skipped file
abbrev pub skipped_value : Skipped → Data
skipped_value file = string (skipped_note file)

-- the note of a warning
abbrev pub warning_value : Warning → Data
warning_value warning = string (warning_note warning)

-- a printed variable
abbrev pub variable_value : NameTable → Var → Data
variable_value names v = string (var_text names v)

-- a choice: its value and its variable, as printed
abbrev pub choice_value : Index → NameTable → Choice → Data
choice_value index names choice =
    object (member (codes "value") (string (value_text index choice)) (member (codes "var") (variable_value names choice.var) no_members))

-- the identifiers that a node needs
abbrev pub ids_value : PlanNode → Data
ids_value node = list_of (λ id. string id) (all_needs node)

-- a node
abbrev pub node_value : PlanNode → Data
node_value node =
    object
    (member (codes "component") (string node.component)
    (member (codes "id") (string node.id)
    (member (codes "kind") (string (kind_word node.kind))
    (member (codes "needs") (ids_value node)
    (member (codes "package") (string (package_text node))
    (member (codes "unbuildable") (boolean node.unbuildable) no_members))))))

-- members with those that each answer has: the counts, the notes on the index, and the status
abbrev pub with_common_members : List ℕ → Index → Counts → Members → Members
with_common_members head index counts members =
    put (codes "exhausted") (number (unsigned counts.exhausted))
    (put (codes "skipped") (list_of skipped_value index.skipped)
    (put (codes "status") (string head)
    (put (codes "visited") (number (unsigned counts.visited))
    (put (codes "warnings") (list_of warning_value index.warnings) members))))

-- the members that each answer has behind the others, up to the rest: the notes on the index, the status and the
-- visited points
abbrev pub end_members : List ℕ → Index → Counts → Members → Members
end_members status index counts rest =
    member (codes "skipped") (list_of skipped_value index.skipped)
    (member (codes "status") (string status)
    (member (codes "visited") (number (unsigned counts.visited))
    (member (codes "warnings") (list_of warning_value index.warnings) rest)))

-- a plan
abbrev pub plan_value : Index → NameTable → List Choice → List PlanNode → Counts → Data
plan_value index names trail nodes counts =
    object
    (member (codes "choices") (list_of (choice_value index names) trail)
    (member (codes "exhausted") (number (unsigned counts.exhausted))
    (member (codes "nodes") (list_of node_value nodes)
    (end_members (codes "plan") index counts no_members))))

-- a conflict: its set
abbrev pub conflict_value : Index → NameTable → List Var → Counts → Data
conflict_value index names set counts =
    object
    (member (codes "conflict") (list_of (variable_value names) set)
    (member (codes "exhausted") (number (unsigned counts.exhausted))
    (end_members (codes "no plan") index counts no_members)))

-- a variable of a shrunk set, and the choices that hold without it
abbrev pub without_value : Index → NameTable → Var × List Choice → Data
without_value index names freed =
    object (member (codes "keep") (list_of (choice_value index names) freed.1) (member (codes "var") (variable_value names freed.0) no_members))

-- a conflict with a shrunk set, and for each of its variables the choices that hold without it
abbrev pub shrunk_value : Index → NameTable → List Var → List (List Choice) → Counts → Data
shrunk_value index names set maps counts =
    object
    (member (codes "conflict") (list_of (variable_value names) set)
    (member (codes "exhausted") (number (unsigned counts.exhausted))
    (end_members (codes "no plan") index counts (member (codes "without") (list_of (without_value index names) (zip set maps)) no_members))))

-- a conflict whose shrinking stopped after so many exhausted points
abbrev pub not_shrunk_value : Index → NameTable → List Var → ℕ → Counts → Data
not_shrunk_value index names set spent counts =
    object
    (member (codes "conflict") (list_of (variable_value names) set)
    (member (codes "exhausted") (number (unsigned counts.exhausted))
    (member (codes "not_minimised") (number (unsigned spent))
    (end_members (codes "no plan") index counts no_members))))

-- a search that reached its limit
abbrev pub gave_up_value : Index → Counts → Data
gave_up_value index counts =
    object
    (member (codes "exhausted") (number (unsigned counts.exhausted))
    (end_members (codes "gave up") index counts no_members))
