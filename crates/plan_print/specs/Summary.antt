-- The summary of a plan of a generated folder.
use Rattle.std.specs.Prelude.{ℕ, List, [], ◌∷◌, ◌++◌, codes}
use Rattle.std.specs.Fmt.{decimal}
use Rattle.choice_problem.specs.declared.outcome.Counts.{Counts}
use Rattle.plan_print.specs.Texts.{counts_line}

-- One line each: the folder's number, the number of choices, that of nodes, the counts, the digest of the plan's text.
abbrev pub summary_text : ℕ → ℕ → ℕ → Counts → List ℕ → List ℕ
summary_text number choices nodes counts digest =
    (codes "generated " ++ decimal number ++ codes "\nchosen " ++ decimal choices ++ codes "\nnodes " ++ decimal nodes ++ codes "\n")
    ++ counts_line counts ++ codes "plan " ++ digest ++ codes "\n"
