-- Shared: sets without a variable, and trails cut to a set.
use Rattle.std.proofs.Common.{◌≡◌, ℕ, Bool, true, false, cond, not, List, [], ◌∷◌, ◌++◌, map, Option, Some, None, refl, sym, ap, ◌∙◌, subst}
use Rattle.std.specs.List.{Contains, AllZip}
use Rattle.std.proofs.lemmas.Bool.{false≢true, not-true}
use Rattle.std.proofs.lemmas.List.{append-nil}
use Rattle.std.proofs.lemmas.List.Elements.{filter-append}
use Rattle.qualified_goals.specs.declared.variable.Var.{Var}
use Rattle.qualified_goals.specs.Variable.{same_var}
use Rattle.qualified_goals.specs.SameVariable.{same_var-is, same_var-refl}
use Rattle.choice_problem.specs.declared.problem.Choice.{Choice}
use Rattle.choice_problem.specs.ConflictSet.{has, without}
use Rattle.choice_problem.specs.Trail.{value_in, AreNew, before_any, one_more}
use Rattle.choice_problem.proofs.VariableSets.{has-contains, contains-has}
use Rattle.common_laws.specs.Lists.{contains-head, contains-tail, contains-filter, filter-contains, filter-all}
use Rattle.conflict_shrink.specs.Shrinking.{cut}

-- without a variable

pub without-has : (v : Var) (set : List Var) (u : Var) → has (without v set) u ≡ true → (has set u ≡ true) × (same_var v u ≡ false)
without-has v set u h =
    let found = contains-filter (λ (w : Var). not (same_var v w)) set u (has-contains (without v set) u h) in
    (contains-has set u found.0, not-true (same_var v u) found.1)

pub has-without : (v : Var) (set : List Var) (u : Var) → has set u ≡ true → same_var v u ≡ false → has (without v set) u ≡ true
has-without v set u h other =
    contains-has (without v set) u (filter-contains (λ (w : Var). not (same_var v w)) set u (has-contains set u h) (ap not other))

-- the variable itself isn't in the set
pub without-itself : (v : Var) (set : List Var) → has (without v set) v ≡ false
without-itself v set =
    elim (has (without v set) v) as (λ b. has (without v set) v ≡ b → b ≡ false) [
      | true ↦ λ h. absurd (false≢true (sym (without-has v set v h).1 ∙ same_var-refl v))
      | false ↦ λ h. refl
    ] refl

-- a subset stays one when both lose a variable
pub without-part : (v : Var) (small large : List Var) → ((u : Var) → has small u ≡ true → has large u ≡ true)
    → (u : Var) → has (without v small) u ≡ true → has (without v large) u ≡ true
without-part v small large sub u h = let parts = without-has v small u h in has-without v large u (sub u parts.0) parts.1

-- a list that has it once loses only it
pub without-middle : (v : Var) (front rest : List Var) → ((u : Var) → Contains front u → same_var v u ≡ false) → ((u : Var) → Contains rest u → same_var v u ≡ false)
    → without v (front ++ v ∷ rest) ≡ front ++ rest
without-middle v [] rest before after =
    ap (λ b. cond (not b) (v ∷ without v rest) (without v rest)) (same_var-refl v) ∙ filter-all (λ (w : Var). not (same_var v w)) rest (λ u k. ap not (after u k))
without-middle v (w ∷ front) rest before after =
    ap (λ b. cond (not b) (w ∷ without v (front ++ v ∷ rest)) (without v (front ++ v ∷ rest))) (before w (contains-head w front))
    ∙ ap (λ l. w ∷ l) (without-middle v front rest (λ u k. before u (contains-tail w front u k)) after)

-- cut trails

none-either : (b : Bool) → cond {A = Option ℕ} b None None ≡ None
none-either true = refl
none-either false = refl

-- the values of a cut trail are those of the set's variables
pub value_in-cut : (set : List Var) (trail : List Choice) (u : Var) → value_in (cut set trail) u ≡ cond (has set u) (value_in trail u) None
value_in-cut set [] u = sym (none-either (has set u))
value_in-cut set (c ∷ trail) u =
    elim (has set c.var) as (λ b. has set c.var ≡ b → value_in (cond b (c ∷ cut set trail) (cut set trail)) u ≡ cond (has set u) (value_in (c ∷ trail) u) None) [
      | true ↦ λ is. elim (same_var c.var u) as (λ b. same_var c.var u ≡ b → cond b (Some c.val) (value_in (cut set trail) u) ≡ cond (has set u) (cond b (Some c.val) (value_in trail u)) None) [
        | true ↦ λ same. sym (ap (λ b. cond b (Some c.val) None) (sym (ap (has set) (same_var-is c.var u same)) ∙ is))
        | false ↦ λ other. value_in-cut set trail u
      ] refl
      | false ↦ λ out. elim (same_var c.var u) as (λ b. same_var c.var u ≡ b → value_in (cut set trail) u ≡ cond (has set u) (cond b (Some c.val) (value_in trail u)) None) [
        | true ↦ λ same.
            let gone = sym (ap (has set) (same_var-is c.var u same)) ∙ out in
            value_in-cut set trail u ∙ ap (λ b. cond b (value_in trail u) None) gone ∙ sym (ap (λ b. cond b (Some c.val) None) gone)
        | false ↦ λ other. value_in-cut set trail u
      ] refl
    ] refl

-- a variable without a value on the trail has none on the cut one
cut-unchosen : (set : List Var) (trail : List Choice) (u : Var) → value_in trail u ≡ None → value_in (cut set trail) u ≡ None
cut-unchosen set trail u h =
    value_in-cut set trail u ∙ ap (λ o. cond (has set u) o None) h ∙ none-either (has set u)

-- no two choices of a cut trail are of one variable
pub cut-new : (set : List Var) (trail : List Choice) → AreNew trail → AreNew (cut set trail)
cut-new set trail before_any = before_any
cut-new set trail (one_more {before} new c fresh is) =
    subst AreNew (sym (ap (cut set) is ∙ filter-append (λ (d : Choice). has set d.var) before (c ∷ [])))
    (elim (has set c.var) as (λ b. AreNew (cut set before ++ cond b (c ∷ []) [])) [
      | true ↦ one_more (cut-new set before new) c (cut-unchosen set before c.var fresh) refl
      | false ↦ subst AreNew (sym (append-nil (cut set before))) (cut-new set before new)
    ])

-- place by place

pub zip-push : {X Y : Type 0} (R : X → Y → Type 0) (xs : List X) (ys : List Y) (x : X) (y : Y) → AllZip R xs ys → R x y → AllZip R (xs ++ x ∷ []) (ys ++ y ∷ [])
zip-push R [] [] x y h r = (r, tt)
zip-push R [] (z ∷ ys) x y h r = absurd h
zip-push R (z ∷ xs) [] x y h r = absurd h
zip-push R (z ∷ xs) (w ∷ ys) x y h r = (h.0, zip-push R xs ys x y h.1 r)

pub zip-more : {X Y : Type 0} (R S : X → Y → Type 0) → ((x : X) (y : Y) → R x y → S x y) → (xs : List X) (ys : List Y) → AllZip R xs ys → AllZip S xs ys
zip-more R S more [] [] h = tt
zip-more R S more [] (y ∷ ys) h = absurd h
zip-more R S more (x ∷ xs) [] h = absurd h
zip-more R S more (x ∷ xs) (y ∷ ys) h = (more x y h.0, zip-more R S more xs ys h.1)

pub zip-mapped : {X Y Z : Type 0} (R : X → Y → Type 0) (S : X → Z → Type 0) (f : Y → Z) → ((x : X) (y : Y) → R x y → S x (f y))
    → (xs : List X) (ys : List Y) → AllZip R xs ys → AllZip S xs (map f ys)
zip-mapped R S f more [] [] h = tt
zip-mapped R S f more [] (y ∷ ys) h = absurd h
zip-mapped R S f more (x ∷ xs) [] h = absurd h
zip-mapped R S f more (x ∷ xs) (y ∷ ys) h = (more x y h.0, zip-mapped R S f more xs ys h.1)
