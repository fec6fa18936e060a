-- Mentions as cells of their variables' entries. An entry's chain has the cells of its mentions in use, in order.
use Rattle.std.specs.Prelude.{◌≡◌, ℕ, suc, ◌<◌, ◌≤◌, true, eqb, cond, List, [], ◌∷◌, length, map, filter, take, drop, Option, Some, slice_get}
use Rattle.qualified_goals.specs.declared.variable.Var.{Var}
use Rattle.qualified_goals.specs.Variable.{same_var}
use Rattle.choice_problem.specs.ConflictSet.{has}
use Rattle.goal_links.specs.declared.chains.Cell.{Cell}
use Rattle.goal_links.specs.Chains.{cell_at, chain_at}
use Rattle.goal_links.specs.Links.{Entries, var_at}
use Rattle.goal_links.specs.declared.mentions.Mention.{Mention}

-- mentions as contracts see them
pub record Mentioned : Type 0 where
  pub said : List Mention
  -- the ready mentions, which have cells already
  pub spare : List Mention
  -- the entries of their variables
  pub row : Entries

-- the mention of a cell
abbrev pub mention_in : List Var → Cell → Mention
mention_in vars cell = record { var = var_at vars cell.entry; place = cell.place }

-- the mentions of all cells, in the order of their numbers
abbrev pub mentions : Entries → List Mention
mentions s = map (mention_in s.vars) s.cells

-- the first cells alone
abbrev pub used : ℕ → Entries → Entries
used n s = record s { cells = take n s.cells }

-- the mentions of the first n cells, which are in use, and those of the others, which are ready
abbrev pub mentioned : Entries → ℕ → Mentioned
mentioned s n = record {
  said = mentions (used n s);
  spare = map (mention_in s.vars) (drop n s.cells);
  row = s;
}

-- the numbers of an entry's cells, where the cells are numbered from n
abbrev pub numbers_from : ℕ → ℕ → List Cell → List ℕ
numbers_from n entry [] = []
numbers_from n entry (cell ∷ cells) = cond (eqb entry cell.entry) (n ∷ numbers_from (suc n) entry cells) (numbers_from (suc n) entry cells)

-- the place of the cell with a number
abbrev pub place_at : List Cell → ℕ → ℕ
place_at cells k = (cell_at cells k).place

-- the places of the demands that mention a variable, in order
abbrev pub places_on : Var → List Mention → List ℕ
places_on v ms = map (λ m. m.place) (filter (λ m. same_var m.var v) ms)

-- the indices of the mentions of a variable, where mentions are numbered from n
abbrev pub indices_from : ℕ → Var → List Mention → List ℕ
indices_from n v [] = []
indices_from n v (m ∷ ms) = cond (same_var m.var v) (n ∷ indices_from (suc n) v ms) (indices_from (suc n) v ms)

-- the indices of the mentions of a variable, in order
abbrev pub indices_on : Var → List Mention → List ℕ
indices_on v ms = indices_from 0 v ms

-- the chain of each entry has the numbers of its cells
pub record AreMentions (s : Entries) : Type 0 where
  pub counted : length s.chains ≡ length s.vars
  pub within : (k : ℕ) → k < length s.cells → (cell_at s.cells k).entry < length s.vars
  pub chains : (entry : ℕ) → entry < length s.vars → chain_at s.chains entry ≡ numbers_from 0 entry s.cells

-- the first n cells are in chains, and the others in none
pub record AreSaid (s : Entries) (n : ℕ) : Type 0 where
  pub said : AreMentions (used n s)
  pub within : (k : ℕ) → k < length s.cells → (cell_at s.cells k).entry < length s.vars
  pub count : n ≤ length s.cells

-- entries, their kept neighbours and the linked variables are unchanged; there may be more entries
pub record KeepRow (old new : Entries) : Type 0 where
  pub linked : new.linked ≡ old.linked
  pub vars : (n : ℕ) (v : Var) → slice_get old.vars n ≡ Some v → slice_get new.vars n ≡ Some v
  pub known : (v : Var) → has old.vars v ≡ true → has new.vars v ≡ true
  pub kept : (n : ℕ) (sides : Option (Option Var × Option Var)) → slice_get old.kept n ≡ Some sides → slice_get new.kept n ≡ Some sides

-- the places of the demands that are mentioned
abbrev pub places_of : List Mention → List ℕ
places_of ms = map (λ m. m.place) ms

-- the variables that are mentioned
abbrev pub vars_at : List Mention → List Var
vars_at ms = map (λ m. m.var) ms

-- a variable, mentioned by the demand at a place
abbrev pub mention_of : Var → ℕ → Mention
mention_of v n = record { var = v; place = n }
