-- Shared: keys of a set of variables: the derived equality is the goal order's.
use Rattle.std.proofs.Common.{◌≡◌, ℕ, false, ◌||◌, List, [], ◌∷◌, ◌++◌, get_or, Option, Some, None, MatchOption, refl, sym, ap, ◌∙◌}
use Rattle.std.specs.List.{list_any, position, slice_get}
use Rattle.std.specs.Option.{is_some}
use Rattle.std.specs.Prelude.{if◌then◌else◌}
use Rattle.std.specs.Ordering.{is_eq}
use Rattle.std.proofs.lemmas.List.Quantifiers.{position-Some}
use Rattle.std.proofs.lemmas.Option.{slice_get-get_or}
use Rattle.indexmap.specs.IndexSet.{insert_key}
use Rattle.qualified_goals.specs.contracts.variable.VarPartialEq.TheImpl.{eq-value}
use Rattle.qualified_goals.specs.contracts.variable.VarOrd.TheImpl.{cmp-value}
use Rattle.qualified_goals.specs.contracts.variable.VarOrd.TheImpl.Laws.{matches_eq-law}
use Rattle.qualified_goals.specs.declared.variable.Var.{Var}
use Rattle.qualified_goals.specs.Variable.{same_var}
use Rattle.qualified_goals.specs.SameVariable.{same_var-is}
use Rattle.choice_problem.specs.ConflictSet.{has}
use Rattle.choice_problem.proofs.VariableSets.{same-back}
use Rattle.choice_problem.proofs.PartialMaps.{derived}
use Rattle.goal_links.specs.Links.{no_var}

eq-same : (v w : Var) → eq-value.it v w ≡ same_var w v
eq-same v w =
    let by_order : eq-value.it v w ≡ is_eq (cmp-value.it v w) = matches_eq-law v w in
    by_order ∙ ap is_eq (derived v w) ∙ same-back v w

pub found-has : (keys : List Var) (v : Var) → list_any (eq-value.it v) keys ≡ has keys v
found-has [] v = refl
found-has (w ∷ keys) v = ap (λ b. b || list_any (eq-value.it v) keys) (eq-same v w) ∙ ap (λ b. same_var w v || b) (found-has keys v)

pub added : (keys new : List Var) (v : Var) → has keys v ≡ false → new ≡ insert_key eq-value.it keys v → new ≡ keys ++ v ∷ []
added keys new v h e = e ∙ ap (λ b. if b then keys else keys ++ v ∷ []) (found-has keys v ∙ h)

pub found : (keys : List Var) (v : Var) (o : Option ℕ) → o ≡ position (eq-value.it v) keys → is_some o ≡ list_any (eq-value.it v) keys
    → MatchOption o (has keys v ≡ false) (λ n. slice_get keys n ≡ Some v)
found keys v None e h = sym (h ∙ found-has keys v)
found keys v (Some n) e h =
    let at = position-Some (eq-value.it v) keys n no_var (sym e) in
    slice_get-get_or keys n no_var at.0 ∙ ap Some (same_var-is (get_or keys n no_var) v (sym (eq-same v (get_or keys n no_var)) ∙ at.1))
