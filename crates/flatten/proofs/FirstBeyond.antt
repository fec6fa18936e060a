-- The first dependency with too many paths, among those of several components.
use Rattle.std.proofs.Common.{◌≡◌, ℕ, Bool, true, false, cond, Some, None, List, [], ◌∷◌, ◌++◌, refl}
use Rattle.std.specs.Prelude.{find}
use Rattle.std.specs.Option.{option_map}
use Rattle.plan_types.specs.declared.condition.Env.{Env}
use Rattle.flatten.specs.Demands.{ExternalDep, has_too_many_paths, first_among}

abbrev line_of : ExternalDep → ℕ
line_of at = at.guarded.dep.line

-- if none of the front has too many, the rest decides
pub none_among : (env : Env) (front rest : List ExternalDep) → first_among env front ≡ None → first_among env (front ++ rest) ≡ first_among env rest
none_among env [] rest none = refl
none_among env (at ∷ front) rest none = by (has_too_many_paths env at) none (λ e. none_among env front rest e)
  where
    by : (b : Bool) → option_map line_of (cond b (Some at) (find (has_too_many_paths env) front)) ≡ None → (first_among env front ≡ None → first_among env (front ++ rest) ≡ first_among env rest) → option_map line_of (cond b (Some at) (find (has_too_many_paths env) (front ++ rest))) ≡ first_among env rest
    by true e more = absurd (cc e)
    by false e more = more e

pub some_among : (env : Env) (front rest : List ExternalDep) (line : ℕ) → first_among env front ≡ Some line → first_among env (front ++ rest) ≡ Some line
some_among env [] rest line some = absurd (cc some)
some_among env (at ∷ front) rest line some = by (has_too_many_paths env at) some (λ e. some_among env front rest line e)
  where
    by : (b : Bool) → option_map line_of (cond b (Some at) (find (has_too_many_paths env) front)) ≡ Some line → (first_among env front ≡ Some line → first_among env (front ++ rest) ≡ Some line) → option_map line_of (cond b (Some at) (find (has_too_many_paths env) (front ++ rest))) ≡ Some line
    by true e more = e
    by false e more = more e
