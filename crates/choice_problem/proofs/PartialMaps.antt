-- Shared: partial maps: look-ups by the derived equality and by the goal order agree.
use Rattle.std.proofs.Common.{◌≡◌, ℕ, List, [], ◌∷◌, cond, Option, Some, ◌∙◌, sym, ap, refl, rules}
use Rattle.std.specs.Map.{lookup}
use Rattle.std.specs.Ordering.{is_eq}
use Rattle.qualified_goals.specs.declared.variable.Var.{Var}
use Rattle.qualified_goals.specs.Variable.{var_cmp, same_var}
use Rattle.qualified_goals.specs.contracts.variable.VarOrd.TheImpl.{cmp-value}
use Rattle.qualified_goals.specs.contracts.variable.VarOrd.TheImpl.Laws.{matches_eq-law}
use Rattle.qualified_goals.specs.contracts.variable.VarPartialEq.TheImpl.{eq-value}
use Rattle.choice_problem.specs.Table.{entry}

pub derived : (v w : Var) → cmp-value.it v w ≡ var_cmp v w
derived v w = search rules

pub eq-same : (v w : Var) → eq-value.it v w ≡ same_var v w
eq-same v w = matches_eq-law v w ∙ ap is_eq (derived v w)

pub stored : (entries : List (Var × ℕ)) (v : Var) → lookup (eq-value.it v) entries ≡ entry entries v
stored [] v = refl
stored (e ∷ es) v =
    ap (λ b. cond b (Some e.1) (lookup (eq-value.it v) es)) (eq-same v e.0)
    ∙ ap (λ r. cond (same_var v e.0) (Some e.1) r) (stored es v)

pub updated : (old new seen : List (Var × ℕ)) (v w : Var) (o : Option ℕ) → old ≡ seen
    → lookup (eq-value.it w) new ≡ cond (eq-value.it v w) o (lookup (eq-value.it w) old)
    → entry new w ≡ cond (same_var v w) o (entry seen w)
updated old new seen v w o e h =
    sym (stored new w) ∙ h ∙ ap (λ b. cond b o (lookup (eq-value.it w) old)) (eq-same v w)
    ∙ ap (λ r. cond (same_var v w) o r) (stored old w ∙ ap (λ es. entry es w) e)
