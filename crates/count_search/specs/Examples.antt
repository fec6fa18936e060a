-- Ranks of variables, computed.
use Rattle.std.specs.Prelude.{◌≡◌, ℕ, true, false, [], ◌∷◌, refl}
use Rattle.qualified_goals.specs.declared.variable.Qual.TheVariants.{Top}
use Rattle.qualified_goals.specs.declared.variable.Part.TheVariants.{Package}
use Rattle.qualified_goals.specs.declared.variable.Var.{Var}
use Rattle.choice_problem.specs.Trail.{choice_of}
use Rattle.choice_problem.specs.Guide.{score}
use Rattle.count_search.specs.Ranks.{rank_of, is_ranked, raised_all}

abbrev var : ℕ → Var
var n = record { qual = Top; «package» = n; part = Package }

-- the scores after the set of 1 and 2, and then that of 2
abbrev scores : Var → ℕ
scores = score ((var 2 ∷ []) ∷ (var 1 ∷ var 2 ∷ []) ∷ [])

pub twice_met : is_ranked scores [] (rank_of 2 (var 2)) ≡ true
twice_met = refl

pub not_met : is_ranked scores [] (rank_of 0 (var 0)) ≡ false
not_met = refl

pub chosen_now : is_ranked scores (choice_of (var 2) 0 ∷ []) (rank_of 2 (var 2)) ≡ false
chosen_now = refl

pub raised_once_each : raised_all (var 0 ∷ var 2 ∷ []) scores (var 2) ≡ 3
raised_once_each = refl
