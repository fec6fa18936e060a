-- Ranks of variables: ordered by falling score, equal ones by variable.
use Rattle.std.specs.Prelude.{◌≡◌, ◌⊎◌, ℕ, ◌+◌, ◌-◌, min, nat_lt, nat_eq, Bool, true, false, cond, ◌&&◌, ◌||◌, List, [], ◌∷◌, ◌++◌, Option, Some, None, is_none, is_some, option_to_list, IfSome}
use Rattle.std.specs.Option.{option_map, unwrap_or}
use Rattle.std.specs.List.{list_any}
use Rattle.std.specs.Ordering.{nat_cmp, ordering_then, is_eq, is_lt}
use Rattle.std.specs.declared.cmp.Ordering.{Ordering}
use Rattle.std.specs.declared.cmp.Ordering.TheVariants.{Less}
use Rattle.qualified_goals.specs.declared.variable.Var.{Var}
use Rattle.qualified_goals.specs.Variable.{var_cmp, same_var}
use Rattle.choice_problem.specs.declared.problem.Choice.{Choice}
use Rattle.choice_problem.specs.Trail.{value_in}
use Rattle.choice_problem.specs.Guide.{cap}
use Rattle.count_search.specs.declared.ranks.Rank.{Rank}
use Rattle.count_search.specs.declared.records.Met.{Met}
use Rattle.count_search.specs.Records.{record_in}

-- the order of ranks
abbrev pub rank_cmp : Rank → Rank → Ordering
rank_cmp r q = ordering_then (nat_cmp r.rest q.rest) (var_cmp r.var q.var)

-- whether two ranks are equal
abbrev pub same_rank : Rank → Rank → Bool
same_rank r q = is_eq (rank_cmp r q)

-- whether a rank is in the list
abbrev pub has_rank : List Rank → Rank → Bool
has_rank ranks r = list_any (λ q. is_eq (rank_cmp r q)) ranks

-- the rank of a variable with this score
abbrev pub rank_of : ℕ → Var → Rank
rank_of score v = record { rest = cap - score; var = v }

-- the two ranks outside of a tree aren't in it, and they differ
pub record AreApart (last second : Option Rank) (tree : List Rank) : Type 0 where
  pub last_apart : IfSome last (λ r. has_rank (option_to_list second ++ tree) r ≡ false)
  pub second_apart : IfSome second (λ r. has_rank tree r ≡ false)

-- a rank of the set whose variable passes the test, before all others that pass
pub record IsFirstRank (test : Var → Bool) (has : Rank → Bool) (rank : Rank) : Type 0 where
  pub member : has rank ≡ true
  pub passes : test rank.var ≡ true
  pub first : (q : Rank) → has q ≡ true → test q.var ≡ true → (rank ≡ q) ⊎ (rank_cmp rank q ≡ Less)

-- the first rank that passes, or none passes
abbrev pub IsFirst : (Var → Bool) → (Rank → Bool) → Option Rank → Type 0
IsFirst test has None = (q : Rank) → has q ≡ true → test q.var ≡ false
IsFirst test has (Some rank) = IsFirstRank test has rank

-- the rank, if its variable passes the test
abbrev pub passing : (Var → Bool) → Option Rank → Option Rank
passing test None = None
passing test (Some r) = cond (test r.var) (Some r) None

-- the lesser of at most two ranks
abbrev pub lesser : Option Rank → Option Rank → Option Rank
lesser None second = second
lesser (Some r) None = Some r
lesser (Some r) (Some q) = Some (cond (is_lt (rank_cmp q r)) q r)

-- whether the rank is that of a variable with a score above 0 that isn't chosen
abbrev pub is_ranked : (Var → ℕ) → List Choice → Rank → Bool
is_ranked scores trail r = nat_lt 0 (scores r.var) && (nat_eq r.rest (cap - scores r.var) && is_none (value_in trail r.var))

-- the score of a variable by the records, 0 without a record
abbrev pub met_by : List (Var × Met) → Var → ℕ
met_by records v = unwrap_or (option_map (λ met. met.sets) (record_in records v)) 0

-- the records say which variables are chosen
abbrev pub AreNoted : List (Var × Met) → List Choice → Type 0
AreNoted records trail = (v : Var) (met : Met) → record_in records v ≡ Some met → met.chosen ≡ is_some (value_in trail v)

-- the records have the scores, and the ranks are those of scored variables that aren't chosen
pub record AreScored (records : List (Var × Met)) (ranks : List Rank) (scores : Var → ℕ) (trail : List Choice) : Type 0 where
  pub counted : (v : Var) → met_by records v ≡ scores v
  pub noted : AreNoted records trail
  pub ranked : (r : Rank) → has_rank ranks r ≡ is_ranked scores trail r

-- between old scores and the next: the records have the old ones, the ranks are those of both, and each variable whose
-- score is to rise has a record
pub record AreBetween (records : List (Var × Met)) (ranks : List Rank) (scores next : Var → ℕ) (trail : List Choice) : Type 0 where
  pub counted : (v : Var) → met_by records v ≡ scores v
  pub noted : AreNoted records trail
  pub ranked : (r : Rank) → has_rank ranks r ≡ is_ranked scores trail r || is_ranked next trail r
  pub ready : (v : Var) → record_in records v ≡ None → next v ≡ scores v

-- the scores with one more for a variable, up to cap
abbrev pub raised : Var → (Var → ℕ) → Var → ℕ
raised v scores u = cond (same_var v u) (min (scores u + 1) cap) (scores u)

-- the same for several variables, one after another
abbrev pub raised_all : List Var → (Var → ℕ) → Var → ℕ
raised_all [] scores = scores
raised_all (v ∷ vars) scores = raised_all vars (raised v scores)
