-- The lines of answers as JSON. A quoted text has its quotes, backslashes and control bytes escaped.
use Rattle.std.specs.Prelude.{ℕ, Bool, true, false, List, [], ◌∷◌, ◌++◌, flat_map, zip, codes}
use Rattle.std.specs.List.{concat}
use Rattle.std.specs.Fmt.{decimal}
use Rattle.json.specs.Print.{quoted}
use Rattle.plan_types.specs.declared.index.Index.{Index}
use Rattle.plan_types.specs.declared.index.Skipped.{Skipped}
use Rattle.plan_types.specs.declared.index.Warning.{Warning}
use Rattle.qualified_goals.specs.declared.variable.Var.{Var}
use Rattle.qualified_goals.specs.Names.{NameTable}
use Rattle.qualified_goals.specs.Printed.{var_text}
use Rattle.choice_problem.specs.declared.problem.Choice.{Choice}
use Rattle.choice_problem.specs.declared.outcome.Counts.{Counts}
use Rattle.plan_nodes.specs.declared.node.PlanNode.{PlanNode}
use Rattle.plan_nodes.specs.Line.{all_needs, kind_word, package_text}
use Rattle.plan_print.specs.Choice.{value_text}
use Rattle.plan_print.specs.Note.{skipped_note, warning_note}

-- a text with a line feed
abbrev pub line : List ℕ → List ℕ
line text = text ++ 10 ∷ []

-- an item after a comma
abbrev pub behind_comma : {A : Type 0} → (A → List ℕ) → A → List ℕ
behind_comma text x = codes "," ++ text x

-- the text of a list
abbrev pub list_text : {A : Type 0} → (A → List ℕ) → List A → List ℕ
list_text text [] = codes "[]"
list_text text (x ∷ xs) = concat (codes "[" ∷ text x ∷ flat_map (behind_comma text) xs ∷ codes "]" ∷ [])

-- the text of a Boolean
abbrev pub truth_text : Bool → List ℕ
truth_text true = codes "true"
truth_text false = codes "false"

-- the note on a skipped file, quoted
abbrev pub skipped_json : Skipped → List ℕ
skipped_json file = quoted (skipped_note file)

-- the note of a warning, quoted
abbrev pub warning_json : Warning → List ℕ
warning_json warning = quoted (warning_note warning)

-- a printed variable, quoted
abbrev pub variable_json : NameTable → Var → List ℕ
variable_json names v = quoted (var_text names v)

-- a choice: its value and its variable
abbrev pub choice_json : Index → NameTable → Choice → List ℕ
choice_json index names choice =
    concat
    (codes "{\"value\":" ∷ quoted (value_text index choice)
    ∷ codes ",\"var\":" ∷ variable_json names choice.var
    ∷ codes "}" ∷ [])

-- a node
abbrev pub node_json : PlanNode → List ℕ
node_json node =
    concat
    (codes "{\"component\":" ∷ quoted node.component
    ∷ codes ",\"id\":" ∷ quoted node.id
    ∷ codes ",\"kind\":" ∷ quoted (kind_word node.kind)
    ∷ codes ",\"needs\":" ∷ list_text (λ id. quoted id) (all_needs node)
    ∷ codes ",\"package\":" ∷ quoted (package_text node)
    ∷ codes ",\"unbuildable\":" ∷ truth_text node.unbuildable
    ∷ codes "}" ∷ [])

-- the members that each answer has behind the others, up to the rest: the notes on the index, the status and the
-- visited points
abbrev pub end_json : List ℕ → Index → Counts → List (List ℕ) → List (List ℕ)
end_json status index counts rest =
    codes ",\"skipped\":" ∷ list_text skipped_json index.skipped
    ∷ codes ",\"status\":\"" ∷ status
    ∷ codes "\",\"visited\":" ∷ decimal counts.visited
    ∷ codes ",\"warnings\":" ∷ list_text warning_json index.warnings
    ∷ rest

-- a plan: its choices and nodes in their order
abbrev pub plan_json : Index → NameTable → List Choice → List PlanNode → Counts → List ℕ
plan_json index names trail nodes counts =
    line
    (concat
    (codes "{\"choices\":" ∷ list_text (choice_json index names) trail
    ∷ codes ",\"exhausted\":" ∷ decimal counts.exhausted
    ∷ codes ",\"nodes\":" ∷ list_text node_json nodes
    ∷ end_json (codes "plan") index counts (codes "}" ∷ [])))

-- a conflict: its set
abbrev pub conflict_json : Index → NameTable → List Var → Counts → List ℕ
conflict_json index names set counts =
    line
    (concat
    (codes "{\"conflict\":" ∷ list_text (variable_json names) set
    ∷ codes ",\"exhausted\":" ∷ decimal counts.exhausted
    ∷ end_json (codes "no plan") index counts (codes "}" ∷ [])))

-- a variable of a shrunk set, and the choices that hold without it
abbrev pub without_json : Index → NameTable → Var × List Choice → List ℕ
without_json index names freed =
    concat
    (codes "{\"keep\":" ∷ list_text (choice_json index names) freed.1
    ∷ codes ",\"var\":" ∷ variable_json names freed.0
    ∷ codes "}" ∷ [])

-- a conflict with a shrunk set, and for each of its variables the choices that hold without it
abbrev pub shrunk_json : Index → NameTable → List Var → List (List Choice) → Counts → List ℕ
shrunk_json index names set maps counts =
    line
    (concat
    (codes "{\"conflict\":" ∷ list_text (variable_json names) set
    ∷ codes ",\"exhausted\":" ∷ decimal counts.exhausted
    ∷ end_json (codes "no plan") index counts (codes ",\"without\":" ∷ list_text (without_json index names) (zip set maps) ∷ codes "}" ∷ [])))

-- a conflict whose shrinking stopped after so many exhausted points
abbrev pub not_shrunk_json : Index → NameTable → List Var → ℕ → Counts → List ℕ
not_shrunk_json index names set spent counts =
    line
    (concat
    (codes "{\"conflict\":" ∷ list_text (variable_json names) set
    ∷ codes ",\"exhausted\":" ∷ decimal counts.exhausted
    ∷ codes ",\"not_minimised\":" ∷ decimal spent
    ∷ end_json (codes "no plan") index counts (codes "}" ∷ [])))

-- a search that reached its limit
abbrev pub gave_up_json : Index → Counts → List ℕ
gave_up_json index counts =
    line
    (concat
    (codes "{\"exhausted\":" ∷ decimal counts.exhausted
    ∷ end_json (codes "gave up") index counts (codes "}" ∷ [])))
