-- Entries of variables, each with a chain of cells. Some entries are linked in goal order.
use Rattle.std.specs.Prelude.{◌≡◌, ℕ, ◌<◌, Bool, true, false, cond, IsTrue, List, [], ◌∷◌, ◌++◌, length, map, Option, Some, None, IfSome, slice_get, slice_index_or, slice_set}
use Rattle.std.specs.Option.{option_map}
use Rattle.qualified_goals.specs.declared.variable.Var.{Var}
use Rattle.qualified_goals.specs.declared.variable.Qual.TheVariants.{Top}
use Rattle.qualified_goals.specs.declared.variable.Part.TheVariants.{Package}
use Rattle.qualified_goals.specs.Variable.{is_before, same_var}
use Rattle.choice_problem.specs.ConflictSet.{is_rising, has, with_var, without}
use Rattle.goal_links.specs.declared.chains.Cell.{Cell}
use Rattle.goal_links.specs.Beside.{beside, behind_first, AreBeside}
use Rattle.goal_links.specs.Row.{Line, AreBelow, StandsIn}
use Rattle.goal_links.specs.Chains.{Chained, cell_at, chain_at, without_last}

-- links as contracts see them
pub record Entries : Type 0 where
  -- the variable of each entry
  pub vars : List Var
  -- the variables of the entries that are linked, in goal order
  pub linked : List Var
  -- for each entry that isn't linked, the neighbours that it keeps
  pub kept : List (Option (Option Var × Option Var))
  pub cells : List Cell
  -- for each entry the cells of its chain, in order
  pub chains : List (List ℕ)

-- the variable for a number that no entry has
abbrev pub no_var : Var
no_var = record { qual = Top; «package» = 0; part = Package }

-- the variable of an entry
abbrev pub var_at : List Var → ℕ → Var
var_at vars entry = slice_index_or vars entry no_var

-- whether the place is an entry whose variable is before v
abbrev pub is_entry_before : List Var → Var → Option ℕ → Bool
is_entry_before vars v None = false
is_entry_before vars v (Some n) = is_before (var_at vars n) v

-- each variable has one entry
abbrev pub HaveOneEntry : List Var → Type 0
HaveOneEntry vars = (m n : ℕ) → m < length vars → n < length vars → var_at vars m ≡ var_at vars n → m ≡ n

-- the chain of a cell's entry
abbrev pub chain_with : Entries → ℕ → List ℕ
chain_with s cell = chain_at s.chains (cell_at s.cells cell).entry

-- an entry isn't linked, and the neighbours that it keeps are adjacent
abbrev pub MayReturn : Entries → ℕ → Type 0
MayReturn s entry = (sides : Option Var × Option Var) × (slice_get s.kept entry ≡ Some (Some sides)) × AreBeside sides s.linked

-- one more entry for the variable, unless it has one
abbrev pub registered : Entries → Var → Entries
registered s v = cond (has s.vars v) s (record s {
  vars = s.vars ++ v ∷ [];
  kept = s.kept ++ Some (None, None) ∷ [];
  chains = s.chains ++ [] ∷ [];
})

-- one more cell
abbrev pub with_cell : Entries → Cell → Entries
with_cell s cell = record s { cells = s.cells ++ cell ∷ [] }

-- a cell replaced by another one
abbrev pub with_cell_at : Entries → ℕ → Cell → Entries
with_cell_at s n cell = record s { cells = slice_set s.cells n cell }

-- the variables behind that of an entry
abbrev pub vars_behind : Entries → ℕ → List Var
vars_behind s entry = behind_first (same_var (var_at s.vars entry)) s.linked

-- an entry is linked, and the linked variables are in goal order
pub record WasLinked (s : Entries) (entry : ℕ) : Type 0 where
  pub linked : IsTrue (has s.linked (var_at s.vars entry))
  pub kept : slice_get s.kept entry ≡ Some None
  pub rising : IsTrue (is_rising s.linked)

-- an entry linked
abbrev pub linked : Entries → ℕ → Entries
linked s entry = record s {
  linked = with_var (var_at s.vars entry) s.linked;
  kept = slice_set s.kept entry None;
}

-- an entry unlinked, with its neighbours kept
abbrev pub unlinked : Entries → ℕ → Entries
unlinked s entry = record s {
  linked = without (var_at s.vars entry) s.linked;
  kept = slice_set s.kept entry (Some (beside (same_var (var_at s.vars entry)) s.linked));
}

-- a cell appended to its chain
abbrev pub lengthened : Entries → ℕ → Entries
lengthened s cell = record s { chains = slice_set s.chains (cell_at s.cells cell).entry (chain_with s cell ++ cell ∷ []) }

-- the last cell of a chain removed
abbrev pub shortened : Entries → ℕ → Entries
shortened s cell = record s { chains = slice_set s.chains (cell_at s.cells cell).entry (without_last (chain_with s cell)) }

-- neighbours by their variables
abbrev pub sides_in : List Var → Option ℕ × Option ℕ → Option Var × Option Var
sides_in vars sides = (option_map (var_at vars) sides.0, option_map (var_at vars) sides.1)

-- variables, a row of their numbers and chains as entries
abbrev pub entries_of : List Var → Line → Chained → Entries
entries_of vars row chains = record {
  vars = vars;
  linked = map (var_at vars) row.linked;
  kept = map (option_map (sides_in vars)) row.kept;
  cells = chains.cells;
  chains = chains.chains;
}

-- the left neighbour is before the variable, the right one behind it
pub record AreAround (vars : List Var) (v : Var) (sides : Option ℕ × Option ℕ) : Type 0 where
  pub left : IfSome sides.0 (λ n. (n < length vars) × (is_before (var_at vars n) v ≡ true))
  pub right : IfSome sides.1 (λ n. (n < length vars) × (is_before v (var_at vars n) ≡ true))

-- the invariant of variables, a row and chains
pub record AreLinks (vars : List Var) (row : Line) (hint : Option ℕ) (chains : Chained) : Type 0 where
  pub counted : length row.kept ≡ length vars
  pub chained : length chains.chains ≡ length vars
  pub once : HaveOneEntry vars
  pub below : AreBelow (length vars) row.linked
  pub rising : is_rising (map (var_at vars) row.linked) ≡ true
  pub around : (n : ℕ) (sides : Option ℕ × Option ℕ) → slice_get row.kept n ≡ Some (Some sides) → AreAround vars (var_at vars n) sides
  pub recent : StandsIn row.linked hint
