-- Shared: tables of conditions that grow.
use Rattle.std.proofs.Common.{◌≡◌, ℕ, zero, suc, List, [], ◌∷◌, ◌++◌, Some, length, slice_get, refl}
use Rattle.plan_types.specs.Conditions.{cond_of, conds_behind}
use Rattle.plan_types.specs.declared.condition.Cond.{Cond}
use Rattle.plan_types.specs.declared.conditions.Row.{Row}

pub pushed-row : (before : List Cond) (rows : List Row) (row : Row) → conds_behind before (rows ++ row ∷ []) ≡ conds_behind before rows ++ cond_of (conds_behind before rows) row ∷ []
pushed-row before [] row = refl
pushed-row before (first ∷ rows) row = pushed-row (before ++ cond_of before first ∷ []) rows row

-- an entry of a table is still there after the table grows
pub get-front : {X : Type 0} (xs ys : List X) (i : ℕ) (x : X) → slice_get xs i ≡ Some x → slice_get (xs ++ ys) i ≡ Some x
get-front [] ys i x e = absurd (cc e)
get-front (y ∷ xs) ys zero x e = e
get-front (y ∷ xs) ys (suc i) x e = get-front xs ys i x e

pub get-new : {X : Type 0} (xs : List X) (x : X) → slice_get (xs ++ x ∷ []) (length xs) ≡ Some x
get-new [] x = refl
get-new (y ∷ xs) x = get-new xs x
