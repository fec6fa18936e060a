-- The texts of answers; each line ends with a line feed.
use Rattle.std.specs.Prelude.{ℕ, ◌==◌, List, [], ◌∷◌, ◌++◌, length, flat_map, zip, codes, if◌then◌else◌}
use Rattle.std.specs.Fmt.{decimal}
use Rattle.plan_types.specs.declared.index.Index.{Index}
use Rattle.plan_types.specs.declared.refusal.Refusal.{Refusal}
use Rattle.qualified_goals.specs.declared.variable.Var.{Var}
use Rattle.qualified_goals.specs.Names.{NameTable}
use Rattle.qualified_goals.specs.Printed.{var_text}
use Rattle.choice_problem.specs.declared.problem.Choice.{Choice}
use Rattle.choice_problem.specs.declared.outcome.Counts.{Counts}
use Rattle.plan_nodes.specs.declared.node.PlanNode.{PlanNode}
use Rattle.plan_nodes.specs.Line.{node_line}
use Rattle.plan_print.specs.Cause.{cause_name}
use Rattle.plan_print.specs.Place.{place_text}
use Rattle.plan_print.specs.Note.{notes_text}
use Rattle.plan_print.specs.Choice.{choice_line, keep_line}

-- the line of the counts
abbrev pub counts_line : Counts → List ℕ
counts_line counts = codes "visited " ++ decimal counts.visited ++ codes " exhausted " ++ decimal counts.exhausted ++ 10 ∷ []

-- a plan: the notes, the choices of its trail, its nodes and the counts
abbrev pub plan_text : Index → NameTable → List Choice → List PlanNode → Counts → List ℕ
plan_text index names trail nodes counts =
    codes "plan" ++ 10 ∷ notes_text index ++ flat_map (choice_line index names) trail ++ flat_map node_line nodes ++ counts_line counts

-- a variable of a set, after a space
abbrev pub named_var : NameTable → Var → List ℕ
named_var names v = 32 ∷ var_text names v

-- the line of a conflict set
abbrev pub conflict_line : NameTable → List Var → List ℕ
conflict_line names set = codes "conflict" ++ flat_map (named_var names) set ++ 10 ∷ []

-- a conflict: the notes, the conflict set and the counts
abbrev pub conflict_text : Index → NameTable → List Var → Counts → List ℕ
conflict_text index names set counts =
    codes "no plan" ++ 10 ∷ notes_text index ++ conflict_line names set ++ counts_line counts

-- the lines of a variable of a shrunk set: the variable, and the choices that hold without it
abbrev pub without_lines : Index → NameTable → Var × List Choice → List ℕ
without_lines index names freed = codes "without" ++ named_var names freed.0 ++ 10 ∷ flat_map (keep_line index names) freed.1

-- a conflict with a shrunk set, and for each of its variables the choices that hold without it
abbrev pub shrunk_text : Index → NameTable → List Var → List (List Choice) → Counts → List ℕ
shrunk_text index names set maps counts =
    codes "no plan" ++ 10 ∷ notes_text index ++ conflict_line names set ++ flat_map (without_lines index names) (zip set maps) ++ counts_line counts

-- the number of exhausted points after which shrinking stopped
abbrev pub spent_line : ℕ → List ℕ
spent_line spent = codes "not minimised " ++ decimal spent ++ 10 ∷ []

-- a conflict whose shrinking stopped after so many exhausted points
abbrev pub not_shrunk_text : Index → NameTable → List Var → ℕ → Counts → List ℕ
not_shrunk_text index names set spent counts =
    codes "no plan" ++ 10 ∷ notes_text index ++ conflict_line names set ++ spent_line spent ++ counts_line counts

-- a search that reached its limit: the notes and the counts
abbrev pub gave_up_text : Index → Counts → List ℕ
gave_up_text index counts = codes "gave up" ++ 10 ∷ notes_text index ++ counts_line counts

-- the detail of a refusal after a space, or nothing if it is empty
abbrev pub detail_text : List ℕ → List ℕ
detail_text detail = if length detail == 0 then [] else codes " " ++ detail

-- the line of a refusal
abbrev pub refusal_text : Refusal → List ℕ
refusal_text refusal =
    codes "refused " ++ place_text refusal.path refusal.line ++ codes " " ++ cause_name refusal.cause ++ detail_text refusal.detail ++ 10 ∷ []
