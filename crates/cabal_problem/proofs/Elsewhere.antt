-- Numbers, each once, with one more appended.
use Rattle.std.proofs.Common.{◌≡◌, ℕ, true, false, cond, not, ◌||◌, List, [], ◌∷◌, ◌++◌, Some, refl, sym, ap, ◌∙◌}
use Rattle.std.specs.Prelude.{nat_eq}
use Rattle.std.specs.List.{filter}
use Rattle.std.proofs.lemmas.Bool.{false≢true, eqb-true, eq-eqb, false_from_ne_true}
use Rattle.std.proofs.lemmas.List.Elements.{filter-append}
use Rattle.choice_problem.specs.Assignment.{is_one_of}
use Rattle.cabal_problem.specs.Values.{each_once}

-- taking out one number keeps the others
one-kept : (x y : ℕ) → nat_eq x y ≡ false → (rest : List ℕ) → is_one_of (Some y) (filter (λ m. not (nat_eq x m)) rest) ≡ is_one_of (Some y) rest
one-kept x y other [] = refl
one-kept x y other (z ∷ rest) =
    let more = one-kept x y other rest in
    elim (nat_eq x z) as (λ b. nat_eq x z ≡ b → is_one_of (Some y) (cond (not b) (z ∷ filter (λ m. not (nat_eq x m)) rest) (filter (λ m. not (nat_eq x m)) rest)) ≡ nat_eq y z || is_one_of (Some y) rest) [
      | true ↦ λ e.
          let apart : nat_eq y z ≡ false = false_from_ne_true (nat_eq y z) (λ k. false≢true (sym other ∙ eq-eqb x y (eqb-true x z e ∙ sym (eqb-true y z k)))) in
          more ∙ ap (λ b. b || is_one_of (Some y) rest) (sym apart)
      | false ↦ λ e. ap (λ b. nat_eq y z || b) more
    ] refl

-- the appended number, after the first one is taken out
last-one : (x y : ℕ) (rest : List ℕ) → filter (λ m. not (nat_eq x m)) (cond (is_one_of (Some y) rest) [] (y ∷ []))
    ≡ cond (is_one_of (Some y) (x ∷ filter (λ m. not (nat_eq x m)) rest)) [] (y ∷ [])
last-one x y rest =
    elim (nat_eq y x) as (λ b. nat_eq y x ≡ b → filter (λ m. not (nat_eq x m)) (cond (is_one_of (Some y) rest) [] (y ∷ []))
    ≡ cond (b || is_one_of (Some y) (filter (λ m. not (nat_eq x m)) rest)) [] (y ∷ [])) [
      | true ↦ λ e.
          let same : nat_eq x y ≡ true = eq-eqb x y (sym (eqb-true y x e)) in
          elim (is_one_of (Some y) rest) as (λ b. filter (λ m. not (nat_eq x m)) (cond b [] (y ∷ [])) ≡ []) [
            | true ↦ refl
            | false ↦ ap (λ b. cond (not b) (y ∷ []) []) same
          ]
      | false ↦ λ e.
          let other : nat_eq x y ≡ false = false_from_ne_true (nat_eq x y) (λ k. false≢true (sym e ∙ eq-eqb y x (sym (eqb-true x y k)))) in
          ap (λ b. filter (λ m. not (nat_eq x m)) (cond b [] (y ∷ []))) (sym (one-kept x y other rest))
          ∙ elim (is_one_of (Some y) (filter (λ m. not (nat_eq x m)) rest)) as (λ b. filter (λ m. not (nat_eq x m)) (cond b [] (y ∷ [])) ≡ cond b [] (y ∷ [])) [
            | true ↦ refl
            | false ↦ ap (λ b. cond (not b) (y ∷ []) []) other
          ]
    ] refl

-- an appended number is kept if it is new
pub each_once-push : (xs : List ℕ) (y : ℕ) → each_once (xs ++ y ∷ []) ≡ each_once xs ++ cond (is_one_of (Some y) (each_once xs)) [] (y ∷ [])
each_once-push [] y = refl
each_once-push (x ∷ xs) y =
    let test = λ (m : ℕ). not (nat_eq x m) in
    let rest = each_once xs in
    ap (λ l. x ∷ filter test l) (each_once-push xs y)
    ∙ ap (λ l. x ∷ l) (filter-append test rest (cond (is_one_of (Some y) rest) [] (y ∷ [])))
    ∙ ap (λ l. x ∷ filter test rest ++ l) (last-one x y rest)
