-- Sets of numbers that freezing builds.
use Rattle.std.specs.Prelude.{◌≡◌, ℕ, Bool, ◌||◌, ◌&&◌, nat_eq, List, Option, unwrap_or}
use Rattle.std.specs.List.{list_any}
use Rattle.std.specs.HashSet.{HashSet}
use Rattle.plan_types.specs.declared.description.FlagDecl.{FlagDecl}
use Rattle.plan_types.specs.declared.index.Entry.{Entry}
use Rattle.qualified_goals.specs.declared.variable.Qual.{Qual}
use Rattle.qualified_goals.specs.Names.{NameTable}
use Rattle.choice_problem.specs.declared.problem.Choice.{Choice}
use Rattle.solver_index.specs.Defaults.{has_number}
use Rattle.solver_index.specs.Places.{no_entry}
use Rattle.frozen_choices.specs.Frozen.{is_setup_of}

-- whether a number is in a set
abbrev pub has : {S : Type 0} → HashSet ℕ S → ℕ → Bool
has set n = list_any (nat_eq n) set.keys

-- a set with one number added
abbrev pub AddsNumber : {S : Type 0} → HashSet ℕ S → HashSet ℕ S → ℕ → Type 0
AddsNumber old new m = (n : ℕ) → has new n ≡ has old n || nat_eq m n

-- the numbers of a set are those that pass the test
abbrev pub AreThose : {S : Type 0} → (ℕ → Bool) → HashSet ℕ S → Type 0
AreThose test set = (n : ℕ) → has set n ≡ test n

-- whether one of these choices is in the setup of a package
abbrev pub is_setup_in : List Choice → ℕ → Bool
is_setup_in choices s = list_any (λ c. is_setup_of s c.var.qual) choices

-- whether one of these flags is manual and has this number
abbrev pub is_manual_in : NameTable → List FlagDecl → ℕ → Bool
is_manual_in names flags f = list_any (λ decl. decl.manual && has_number names f decl) flags

-- a set with the numbers of the manual flags among these added
abbrev pub AddsManual : {S : Type 0} → NameTable → List FlagDecl → HashSet ℕ S → HashSet ℕ S → Type 0
AddsManual names flags old new = (n : ℕ) → has new n ≡ has old n || is_manual_in names flags n

-- an entry, or the empty one
abbrev pub or_none : Option Entry → Entry
or_none e = unwrap_or e no_entry

-- a set with the package of a setup's qualifier added
abbrev pub AddsOwner : {S : Type 0} → HashSet ℕ S → HashSet ℕ S → Qual → Type 0
AddsOwner old new q = (n : ℕ) → has new n ≡ has old n || is_setup_of n q
