-- Shared: facts about conditions, by their places.
use Rattle.std.proofs.Common.{◌≡◌, ℕ, zero, suc, Some, List, [], ◌∷◌, ◌++◌, refl, subst}
use Rattle.std.specs.Prelude.{slice_get}
use Rattle.std.proofs.lemmas.Option.{same_Some}
use Rattle.plan_types.specs.declared.condition.Cond.{Cond}
use Rattle.plan_types.specs.declared.condition.Env.{Env}
use Rattle.impossible_conditions.specs.Outlook.{AreOutlooks, IsOutlook, IsOutlookAt}
use Rattle.impossible_conditions.specs.declared.outlook.Outlook.{Outlook}

pub outlook-push : (env : Env) (conds : List Cond) (items : List Outlook) (cond : Cond) (outlook : Outlook) → AreOutlooks env conds items → IsOutlook env cond outlook → AreOutlooks env (conds ++ cond ∷ []) (items ++ outlook ∷ [])
outlook-push env [] [] cond outlook all is = (is, tt)
outlook-push env [] (first ∷ items) cond outlook all is = absurd all
outlook-push env (c ∷ conds) [] cond outlook all is = absurd all
outlook-push env (c ∷ conds) (first ∷ items) cond outlook all is = (all.0, outlook-push env conds items cond outlook all.1 is)

pub outlook-at : (env : Env) (conds : List Cond) (items : List Outlook) (place : ℕ) (cond : Cond) → AreOutlooks env conds items → slice_get conds place ≡ Some cond → IsOutlookAt env cond items place
outlook-at env [] items place cond all at = absurd (cc at)
outlook-at env (c ∷ conds) [] place cond all at = absurd all
outlook-at env (c ∷ conds) (first ∷ items) zero cond all at = (first, refl, subst (λ asked. IsOutlook env asked first) (same_Some c cond at) all.0)
outlook-at env (c ∷ conds) (first ∷ items) (suc place) cond all at = outlook-at env conds items place cond all.1 at
