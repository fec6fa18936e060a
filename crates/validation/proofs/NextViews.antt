-- Shared: the view of a trail with one more choice.
use Rattle.std.proofs.Common.{◌≡◌, ℕ, length, true, false, not, cond, ◌&&◌, ◌||◌, IsTrue, List, [], ◌∷◌, ◌++◌, Some, None, map, filter, refl, sym, ap, ◌∙◌, subst, inl, inr, append_assoc, append-nil}
use Rattle.std.specs.List.{Contains, All, flat_map, list_all}
use Rattle.std.proofs.lemmas.Bool.{and_parts}
use Rattle.std.proofs.lemmas.Grind.{flat_map-append}
use Rattle.std.proofs.lemmas.List.Elements.{All-contains}
use Rattle.qualified_goals.specs.declared.variable.Var.{Var}
use Rattle.choice_problem.specs.declared.problem.Choice.{Choice}
use Rattle.choice_problem.specs.declared.problem.Demand.{Demand}
use Rattle.qualified_goals.specs.Variable.{same_var}
use Rattle.qualified_goals.specs.SameVariable.{same_var-is}
use Rattle.choice_problem.specs.Problem.{Problem, IsChoice, IsDemand, IsRoot, IsOwned, Lawful}
use Rattle.choice_problem.specs.Assignment.{is_one_of, is_made, is_yes}
use Rattle.choice_problem.specs.Trail.{value_in, demands_after}
use Rattle.choice_problem.specs.Active.{turns_yes, made_active, active, is_open, least_open}
use Rattle.choice_problem.specs.ConflictSet.{has}
use Rattle.common_laws.specs.Lists.{map-contains, filter-alike}
use Rattle.choice_problem.specs.General.{general}
use Rattle.choice_problem.proofs.ActiveDemands.{active-demand, open-plain}
use Rattle.choice_problem.proofs.TrailLemmas.{next-open}
use Rattle.choice_problem.proofs.VariableSets.{same-back, contains-has}
use Rattle.validation.specs.View.{counts_along, listed_counts, counts_before}
use Rattle.choice_stack.specs.Stack.{are_naming, names, turned}
use Rattle.choice_problem.proofs.TrailEnds.{value-push}

-- demands that a choice makes active name its variable

value-free : (trail : List Choice) (c : Choice) (v : Var) → value_in trail c.var ≡ None → same_var v c.var ≡ true → value_in trail v ≡ None
value-free trail c v h e = ap (value_in trail) (same_var-is v c.var e) ∙ h

turns-naming : (trail : List Choice) (c : Choice) → value_in trail c.var ≡ None → (when : List Choice) → list_all (is_made (value_in (trail ++ c ∷ []))) when ≡ true
    → not (list_all (is_made (value_in trail)) when) ≡ are_naming c.var when
turns-naming trail c free [] h = refl
turns-naming trail c free (d ∷ rest) h =
    let after = value_in (trail ++ c ∷ []) in
    let first : is_made after d ≡ true = (and_parts (is_made after d) (list_all (is_made after) rest) h).0 in
    let more = turns-naming trail c free rest ((and_parts (is_made after d) (list_all (is_made after) rest) h).1) in
    elim (same_var d.var c.var) as (λ b. same_var d.var c.var ≡ b → not (is_made (value_in trail) d && list_all (is_made (value_in trail)) rest) ≡ b || are_naming c.var rest) [
      | true ↦ λ e. ap (λ o. not (is_one_of o (d.val ∷ []) && list_all (is_made (value_in trail)) rest)) (value-free trail c d.var free e)
      | false ↦ λ e.
          let other : same_var c.var d.var ≡ false = same-back c.var d.var ∙ e in
          let same : after d.var ≡ value_in trail d.var = value-push trail c d.var free ∙ ap (λ b. cond b (Some c.val) (value_in trail d.var)) other in
          let made : is_made (value_in trail) d ≡ true = ap (λ o. is_one_of o (d.val ∷ [])) (sym same) ∙ first in
          ap (λ b. not (b && list_all (is_made (value_in trail)) rest)) made ∙ more
    ] refl

turns-is : (trail : List Choice) (c : Choice) → value_in trail c.var ≡ None → (d : Demand) → turns_yes trail c d ≡ names c.var d && is_yes (value_in (trail ++ c ∷ [])) d
turns-is trail c free d =
    elim (is_yes (value_in (trail ++ c ∷ [])) d) as (λ b. is_yes (value_in (trail ++ c ∷ [])) d ≡ b → b && not (is_yes (value_in trail) d) ≡ names c.var d && b) [
      | true ↦ λ e. turns-naming trail c free d.when e ∙ elim (names c.var d) as (λ b. b ≡ b && true) [ true ↦ refl | false ↦ refl ]
      | false ↦ λ e. elim (names c.var d) as (λ b. false ≡ b && false) [ true ↦ refl | false ↦ refl ]
    ] refl

-- the counts before each choice, where one more choice is made
along-push : (count : List Choice → ℕ) (before trail : List Choice) (c : Choice) → counts_along count before (trail ++ c ∷ []) ≡ counts_along count before trail ++ count (before ++ trail) ∷ []
along-push count before [] c = ap (λ t. count t ∷ []) (sym (append-nil before))
along-push count before (d ∷ trail) c =
    ap (λ l. count before ∷ l)
    (along-push count (before ++ d ∷ []) trail c ∙ ap (λ t. counts_along count (before ++ d ∷ []) trail ++ count t ∷ []) (append_assoc before (d ∷ []) trail))

module _ (p : Problem) where
  pub after-push : (trail : List Choice) (c : Choice) → demands_after p (trail ++ c ∷ []) ≡ demands_after p trail ++ p.demands c
  after-push trail c =
      ap (λ l. p.roots ++ l) (flat_map-append p.demands trail (c ∷ []) ∙ ap (λ l. flat_map p.demands trail ++ l) (append-nil (p.demands c)))
      ∙ sym (append_assoc p.roots (flat_map p.demands trail) (p.demands c))

  pub made-turned : (trail : List Choice) (c : Choice) → value_in trail c.var ≡ None → made_active p trail c ≡ turned (trail ++ c ∷ []) c.var (demands_after p trail ++ p.demands c)
  unfolding made_active
  made-turned trail c free =
      filter-alike (turns_yes trail c) (λ d. names c.var d && is_yes (value_in (trail ++ c ∷ [])) d) (turns-is trail c free) (demands_after p (trail ++ c ∷ []))
      ∙ ap (filter (λ d. names c.var d && is_yes (value_in (trail ++ c ∷ [])) d)) (after-push trail c)

  pub counts-push : (trail : List Choice) (c : Choice) → counts_before p [] (trail ++ c ∷ []) ≡ counts_before p [] trail ++ length (active p trail) ∷ []
  counts-push trail c = along-push (λ t. length (active p t)) [] trail c

  pub listed-push : (trail : List Choice) (c : Choice) → listed_counts p [] (trail ++ c ∷ []) ≡ listed_counts p [] trail ++ length (demands_after p trail) ∷ []
  listed-push trail c = along-push (λ t. length (demands_after p t)) [] trail c

  -- the targets of demands are known

  demand-known : (d : Demand) → Lawful p → IsDemand p d → IsTrue (p.known d.target)
  demand-known d lawful (inl root) = (All-contains (IsRoot p) p.roots d lawful.roots root).target
  demand-known d lawful (inr (owner, is, owns)) = (All-contains (IsOwned p owner) (p.demands owner) d (lawful.demands owner is) owns).target

  -- an open variable is known, has no value, and is the target of an active demand
  pub record IsOpen (trail : List Choice) (v : Var) : Type 0 where
    pub known : IsTrue (p.known v)
    pub free : value_in trail v ≡ None
    pub asked : has (map (λ d. d.target) (active p trail)) v ≡ true

  pub known-open : (trail : List Choice) (v : Var) → Lawful p → All (IsChoice p) trail → is_open p trail v ≡ true → IsOpen trail v
  known-open trail v lawful choices h =
      let found = open-plain p lawful trail v choices h in
      record {
        known = subst (λ w. IsTrue (p.known w)) found.target (demand-known found.demand lawful (active-demand p lawful trail found.demand choices found.member));
        free = found.unchosen;
        asked = contains-has (map (λ (d : Demand). d.target) (active p trail)) v
            (subst (λ w. Contains (map (λ (d : Demand). d.target) (active p trail)) w) found.target
            (map-contains (λ (d : Demand). d.target) (active p trail) found.demand found.member));
      }

  pub least-known : (trail : List Choice) (v : Var) → Lawful p → All (IsChoice p) trail → least_open p trail ≡ Some v → IsOpen trail v
  least-known trail v lawful choices h = known-open trail v lawful choices (next-open (general p) trail v h)
