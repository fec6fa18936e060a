-- The outlooks of conditions, before their paths are built.
use Rattle.std.specs.Prelude.{◌≡◌, ℕ, List, [], ◌∷◌, Some, IsFalse, slice_get}
use Rattle.plan_types.specs.declared.condition.Cond.{Cond}
use Rattle.plan_types.specs.declared.condition.Env.{Env}
use Rattle.conditionals.specs.Count.{numbers_of}
use Rattle.conditionals.specs.Value.{Flags, value}
use Rattle.conditionals.specs.declared.value.Tri.TheVariants.{Yes}
use Rattle.impossible_conditions.specs.declared.outlook.Outlook.{Outlook}

-- an outlook is right: it has the number of paths, and a condition that is Yes under some flags has no `known_impossible`
pub record IsOutlook (env : Env) (cond : Cond) (outlook : Outlook) : Type 0 where
  pub number : outlook.number ≡ (numbers_of env cond).yes
  pub known_impossible : (flags : Flags) → value env flags cond ≡ Yes → IsFalse outlook.known_impossible

abbrev pub AreOutlooks : Env → List Cond → List Outlook → Type 0
AreOutlooks env [] [] = Unit {0}
AreOutlooks env [] (outlook ∷ outlooks) = ⊥
AreOutlooks env (cond ∷ conds) [] = ⊥
AreOutlooks env (cond ∷ conds) (outlook ∷ outlooks) = IsOutlook env cond outlook × AreOutlooks env conds outlooks

-- the outlook of a condition is at this place
abbrev pub IsOutlookAt : Env → Cond → List Outlook → ℕ → Type 0
IsOutlookAt env cond outlooks place = (outlook : Outlook) × (slice_get outlooks place ≡ Some outlook) × IsOutlook env cond outlook
