-- Sets of variables, as lists in goal order with each variable once.
use Rattle.std.specs.Prelude.{ℕ, ◌+◌, Bool, true, not, cond, ◌&&◌, List, [], ◌∷◌, ◌++◌, Option, Some, None, find}
use Rattle.std.specs.List.{list_any, filter}
use Rattle.qualified_goals.specs.declared.variable.Var.{Var}
use Rattle.qualified_goals.specs.Variable.{same_var, is_before}

-- each variable stands before the next
abbrev pub is_rising : List Var → Bool
is_rising [] = true
is_rising (v ∷ []) = true
is_rising (v ∷ w ∷ vars) = is_before v w && is_rising (w ∷ vars)

-- whether the variable is one of these
abbrev pub has : List Var → Var → Bool
has vars v = list_any (λ w. same_var w v) vars

-- the set with one more variable
abbrev pub with_var : Var → List Var → List Var
with_var v [] = v ∷ []
with_var v (w ∷ vars) = cond (is_before v w) (v ∷ w ∷ vars) (cond (same_var v w) (w ∷ vars) (w ∷ with_var v vars))

-- the variables without one
abbrev pub without : Var → List Var → List Var
without v vars = filter (λ w. not (same_var v w)) vars

-- the first of some variables
abbrev pub first_of : List Var → Option Var
first_of [] = None
first_of (v ∷ vars) = Some v

-- the first of them behind a variable, where one is given
abbrev pub first_behind : Option Var → List Var → Option Var
first_behind None vars = first_of vars
first_behind (Some v) vars = find (is_before v) vars

-- the set of some variables
abbrev pub set_of : List Var → List Var
set_of [] = []
set_of (v ∷ vars) = with_var v (set_of vars)

-- the union of two sets
abbrev pub union : List Var → List Var → List Var
union xs ys = set_of (xs ++ ys)

-- how many of the first variables are before this one
abbrev pub place_of : Var → List Var → ℕ
place_of v [] = 0
place_of v (w ∷ vars) = cond (is_before w v) (place_of v vars + 1) 0

-- the lesser of the fronts of two lists, where either has one
abbrev pub front_of : List Var → List Var → Option Var
front_of [] [] = None
front_of [] (w ∷ ws) = Some w
front_of (v ∷ vs) [] = Some v
front_of (v ∷ vs) (w ∷ ws) = Some (cond (is_before w v) w v)

-- the list without its first variable, where that is v
abbrev pub behind : Var → List Var → List Var
behind v [] = []
behind v (w ∷ ws) = cond (same_var w v) ws (w ∷ ws)
