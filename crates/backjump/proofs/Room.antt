-- While a variable is open, more choices may follow: the variables of a trail are different and known.
use Rattle.std.proofs.Common.{◌≡◌, ℕ, zero, suc, ◌+◌, ◌≤◌, true, false, cond, List, [], ◌∷◌, ◌++◌, length, Some, None, refl, sym, ap, ◌∙◌, subst, arith, length-append}
use Rattle.std.specs.Prelude.{IsTrue}
use Rattle.std.specs.List.{Contains, All}
use Rattle.std.proofs.lemmas.Bool.{false≢true}
use Rattle.std.proofs.lemmas.List.Elements.{All-contains}
use Rattle.qualified_goals.specs.declared.variable.Var.{Var}
use Rattle.choice_problem.specs.declared.problem.Choice.{Choice}
use Rattle.qualified_goals.specs.Variable.{same_var}
use Rattle.choice_problem.specs.Problem.{Problem, IsChoice, Lawful}
use Rattle.choice_problem.specs.Trail.{value_in, AreNew, before_any, one_more}
use Rattle.choice_problem.specs.Active.{is_open}
use Rattle.common_laws.specs.Lists.{contains-head, contains-left, contains-right, without}
use Rattle.qualified_goals.specs.SameVariable.{same_var-refl}
use Rattle.validation.proofs.NextViews.{known-open}
use Rattle.choice_tree.specs.Tree.{choice_at}
use Rattle.backjump.specs.Walk.{Point, IsChain}

-- each of these choices is one of the problem
abbrev AreChoices : Problem → List Choice → Type 0
AreChoices p trail = (c : Choice) → Contains trail c → IsChoice p c

-- a variable without a value had none before the last choice, which is of another variable
none-before : (before : List Choice) (c : Choice) (w : Var) → value_in (before ++ c ∷ []) w ≡ None → (value_in before w ≡ None) × (same_var c.var w ≡ false)
none-before [] c w h =
    elim (same_var c.var w) as (λ b. same_var c.var w ≡ b → cond b (Some c.val) None ≡ None → (value_in [] w ≡ None) × (b ≡ false)) [
      | true ↦ λ e k. absurd (cc k)
      | false ↦ λ e k. (refl, refl)
    ] refl h
none-before (d ∷ before) c w h =
    elim (same_var d.var w) as (λ b. cond b (Some d.val) (value_in (before ++ c ∷ []) w) ≡ None → (cond b (Some d.val) (value_in before w) ≡ None) × (same_var c.var w ≡ false)) [
      | true ↦ λ k. absurd (cc k)
      | false ↦ λ k. none-before before c w k
    ] h

module _ (p : Problem) (lawful : Lawful p) where
  -- the known variables without a choice
  record Room (trail : List Choice) : Type 0 where
    rest : List Var
    count : length rest + length trail ≤ p.bound
    each : (v : Var) → IsTrue (p.known v) → value_in trail v ≡ None → Contains rest v

  room-next : (before : List Choice) (c : Choice) → Room before → IsTrue (p.known c.var) → value_in before c.var ≡ None → Room (before ++ c ∷ [])
  room-next before c room known unchosen =
      let found = without room.rest c.var (room.each c.var known unchosen) in
      record {
        rest = found.0;
        count = omega (arith, found.1, room.count, length-append before (c ∷ []));
        each = λ w k none_now.
            let both = none-before before c w none_now in
            found.2 w (room.each w k both.0) (λ same. false≢true (sym both.1 ∙ ap (same_var c.var) (sym same) ∙ same_var-refl c.var));
      }

  room : {trail : List Choice} → AreNew trail → AreChoices p trail → Room trail
  room before_any choices = record { rest = lawful.bounded.variables; count = omega (arith, lawful.bounded.count); each = λ v k e. lawful.bounded.each v k }
  room (one_more {before = before} new c unchosen e) choices =
      let all = subst (AreChoices p) e choices in
      subst Room (sym e)
      (room-next before c (room new (λ x k. all x (contains-left before (c ∷ []) x k))) (all c (contains-right before (c ∷ []) c (contains-head c []))).variable unchosen)

  chain-fuel : (points : List Point) (prefix : List Choice) (fuel : ℕ) → IsChain p points prefix fuel → fuel + length prefix ≡ p.bound
  chain-fuel [] prefix fuel h = omega (arith, h.1, ap length h.0)
  chain-fuel (point ∷ outer) prefix fuel h =
      let rest = chain-fuel outer point.prefix (suc point.fuel) h.1 in
      omega (arith, rest, h.0.fuel_is, ap length h.0.prefix_is, length-append point.prefix (choice_at point.node ∷ []))

  choices-of : (trail : List Choice) → All (IsChoice p) trail → AreChoices p trail
  choices-of trail h c k = All-contains (IsChoice p) trail c h k

  -- where a variable is open, one more choice may follow
  pub fuel-left : (points : List Point) (trail : List Choice) (fuel : ℕ) (v : Var) → AreNew trail → All (IsChoice p) trail → IsChain p points trail fuel → is_open p trail v ≡ true
      → (less : ℕ) × (fuel ≡ suc less)
  fuel-left points trail fuel v new choices chain h =
      let opened = known-open p trail v lawful choices h in
      let place = room new (choices-of trail choices) in
      let found = without place.rest v (place.each v opened.known opened.free) in
      let total = chain-fuel points trail fuel chain in
      elim fuel as (λ n. n + length trail ≡ p.bound → (less : ℕ) × (n ≡ suc less)) [
        | zero ↦ λ e. absurd (omega (arith, e, place.count, found.1))
        | suc less ↦ λ e. (less, refl)
      ] total
