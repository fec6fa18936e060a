-- The set of an exhausted point.
use Rattle.std.proofs.Common.{◌≡◌, List, [], ◌∷◌, ap, ◌∙◌}
use Rattle.qualified_goals.specs.declared.variable.Var.{Var}
use Rattle.choice_problem.specs.ConflictSet.{with_var, set_of, union}
use Rattle.choice_problem.proofs.VariableSets.{rising-set_of, set_of-rising}

-- the union of a variable and a set of variables
pub with-reason : (v : Var) (vars : List Var) → union (set_of (v ∷ [])) (set_of vars) ≡ set_of (v ∷ vars)
with-reason v vars = ap (with_var v) (set_of-rising (set_of vars) (rising-set_of vars))

pub blamed-is : (failed : List Var) (v : Var) (reason vars : List Var) → reason ≡ set_of vars
    → union failed (union (set_of (v ∷ [])) reason) ≡ union failed (set_of (v ∷ vars))
blamed-is failed v reason vars e = ap (λ set. union failed (union (set_of (v ∷ [])) set)) e ∙ ap (union failed) (with-reason v vars)
