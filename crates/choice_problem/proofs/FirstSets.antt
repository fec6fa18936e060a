-- Shared: the first set that isn't missing.
use Rattle.std.proofs.Common.{◌≡◌, List, [], ◌∷◌, ◌++◌, Option, Some, None, refl, sym, subst, inl, inr}
use Rattle.std.specs.List.{Contains}
use Rattle.qualified_goals.specs.declared.variable.Var.{Var}
use Rattle.choice_problem.specs.Conflict.{first_set}
use Rattle.common_laws.specs.Lists.{contains-head, contains-tail, contains-none, contains-cases}

pub first-member : (sets : List (Option (List Var))) (set : List Var) → first_set sets ≡ Some set → Contains sets (Some set)
first-member [] set h = absurd (cc h)
first-member (None ∷ sets) set h = contains-tail None sets (Some set) (first-member sets set h)
first-member (Some s ∷ sets) set h = subst (λ o. Contains (Some s ∷ sets) o) h (contains-head (Some s) sets)

pub each-none : (sets : List (Option (List Var))) (o : Option (List Var)) → first_set sets ≡ None → Contains sets o → o ≡ None
each-none [] o h k = absurd (contains-none o k)
each-none (None ∷ sets) o h k = elim (contains-cases None sets o k) [ inl e ↦ sym e | inr r ↦ each-none sets o h r ]
each-none (Some s ∷ sets) o h k = absurd (cc h)

-- a set in the front is the first of all
pub front-some : (sets more : List (Option (List Var))) (set : List Var) → first_set sets ≡ Some set → first_set (sets ++ more) ≡ Some set
front-some [] more set h = absurd (cc h)
front-some (None ∷ sets) more set h = front-some sets more set h
front-some (Some s ∷ sets) more set h = h

-- where the front has none, the first is that of the rest
pub front-none : (sets more : List (Option (List Var))) → first_set sets ≡ None → first_set (sets ++ more) ≡ first_set more
front-none [] more h = refl
front-none (None ∷ sets) more h = front-none sets more h
front-none (Some s ∷ sets) more h = absurd (cc h)

-- where none is there, the rest has none
pub rest-none : (sets more : List (Option (List Var))) → first_set (sets ++ more) ≡ None → first_set more ≡ None
rest-none [] more h = h
rest-none (None ∷ sets) more h = rest-none sets more h
rest-none (Some s ∷ sets) more h = absurd (cc h)
