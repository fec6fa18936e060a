-- A choice before others that name each variable once, and not its own.
use Rattle.std.proofs.Common.{◌≡◌, ℕ, ◌+◌, ◌<◌, ◌||◌, true, false, not, List, [], ◌∷◌, ◌++◌, length, drop, get_or, sym, ap, ◌∙◌, add-one, drop-cons}
use Rattle.std.proofs.Math.Bool.{or_comm, or-false}
use Rattle.std.proofs.lemmas.Bool.{and_from}
use Rattle.qualified_goals.specs.declared.variable.Var.{Var}
use Rattle.qualified_goals.specs.Variable.{same_var}
use Rattle.choice_problem.specs.declared.problem.Choice.{Choice}
use Rattle.choice_problem.specs.ConflictSet.{has}
use Rattle.choice_problem.proofs.VariableSets.{has-append}
use Rattle.choice_stack.specs.Stack.{are_naming, are_once}

-- the set has the variables of these choices
abbrev pub HasVars : List Var → List Choice → Type 0
HasVars keys choices = (v : Var) → has keys v ≡ are_naming v choices

module _ (when : List Choice) (place : ℕ) (d : Choice) (within : place < length when) where
  abbrev c : Choice
  c = get_or when place d

  abbrev rest : List Choice
  rest = drop (place + 1) when

  split : drop place when ≡ c ∷ rest
  split = drop-cons when place d within ∙ ap (λ n. c ∷ drop n when) (sym (add-one place))

  pub once-more : (keys : List Var) → HasVars keys rest → are_once rest ≡ true → has keys c.var ≡ false → are_once (drop place when) ≡ true
  once-more keys vars once new =
      ap are_once split ∙ and_from (not (are_naming c.var rest)) (are_once rest) (ap not (sym (vars c.var) ∙ new)) once

  pub vars-more : (keys more : List Var) → HasVars keys rest → more ≡ keys ++ c.var ∷ [] → HasVars more (drop place when)
  vars-more keys more vars is v =
      ap (λ l. has l v) is ∙ has-append keys (c.var ∷ []) v ∙ ap (λ b. has keys v || b) (or-false (same_var c.var v))
      ∙ ap (λ b. b || same_var c.var v) (vars v) ∙ or_comm (are_naming v rest) (same_var c.var v) ∙ sym (ap (are_naming v) split)
