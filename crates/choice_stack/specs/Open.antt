-- Open variables, linked in goal order, and the neighbours that unlinked entries keep.
use Rattle.std.specs.Prelude.{◌≡◌, ℕ, Bool, true, not, ◌&&◌, List, Option, Some, None, IsTrue, is_some, slice_get}
use Rattle.qualified_goals.specs.declared.variable.Var.{Var}
use Rattle.qualified_goals.specs.Variable.{is_before, same_var}
use Rattle.choice_problem.specs.declared.problem.Choice.{Choice}
use Rattle.choice_problem.specs.ConflictSet.{is_rising, has}
use Rattle.choice_problem.specs.Trail.{value_in}
use Rattle.goal_links.specs.Beside.{beside}
use Rattle.goal_links.specs.Links.{Entries, var_at}

-- linked variables are in goal order, and have entries
pub record AreInOrder (s : Entries) : Type 0 where
  pub rising : IsTrue (is_rising s.linked)
  pub known : (v : Var) → has s.linked v ≡ true → has s.vars v ≡ true

-- the entry of a variable keeps these neighbours
pub record Keeps (s : Entries) (entry : ℕ) (v : Var) (sides : Option Var × Option Var) : Type 0 where
  pub owned : slice_get s.vars entry ≡ Some v
  pub held : slice_get s.kept entry ≡ Some (Some sides)

-- the entry of an unlinked variable keeps its neighbours among those that were linked
abbrev pub KeepsNeighbours : Entries → Entries → ℕ → Type 0
KeepsNeighbours old new entry = Keeps new entry (var_at old.vars entry) (beside (same_var (var_at old.vars entry)) old.linked)

-- the entries of variables that pass a test keep the same neighbours
abbrev pub StayKept : (Var → Bool) → Entries → Entries → Type 0
StayKept test old new = (entry : ℕ) (v : Var) (sides : Option Var × Option Var) → test v ≡ true → Keeps old entry v sides → Keeps new entry v sides

-- any variable
abbrev pub any_var : Var → Bool
any_var v = true

-- any other variable
abbrev pub is_other : Var → Var → Bool
is_other v w = not (same_var v w)

-- a variable that is chosen
abbrev pub is_chosen_in : List Choice → Var → Bool
is_chosen_in trail v = is_some (value_in trail v)

-- an entry may be relinked: it keeps its neighbours among those open before, and the others of these are open now
pub record MayComeBack (s : Entries) (entry : ℕ) : Type 0 where
  pub var : Var
  pub before : List Var
  pub rising : is_rising before ≡ true
  pub there : has before var ≡ true
  pub kept : Keeps s entry var (beside (same_var var) before)
  pub others : (v : Var) → has s.linked v ≡ (is_other var v && has before v)

-- whether a variable is behind another one, or none is given
abbrev pub is_behind : Option Var → Var → Bool
is_behind None w = true
is_behind (Some v) w = is_before v w
