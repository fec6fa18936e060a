-- The union of two rising lists begins with the lesser of their fronts.
use Rattle.std.proofs.Common.{◌≡◌, ◌+◌, ◌<◌, ◌≤◌, suc, arith, length, Bool, true, false, cond, ◌||◌, List, [], ◌∷◌, ◌++◌, Some, None, refl, sym, ap, ◌∙◌, subst, inl, inr}
use Rattle.std.specs.List.{Contains}
use Rattle.std.proofs.lemmas.Bool.{false≢true, or_cases, or_right, and_from}
use Rattle.qualified_goals.specs.declared.variable.Var.{Var}
use Rattle.qualified_goals.specs.Variable.{same_var, is_before}
use Rattle.qualified_goals.specs.SameVariable.{same_var-is, same_var-refl}
use Rattle.choice_problem.specs.ConflictSet.{is_rising, has, union, front_of, behind}
use Rattle.common_laws.specs.Lists.{contains-head, contains-none, contains-cases}
use Rattle.qualified_goals.proofs.GoalOrder.{before-itself, before-back, before-neither, not-before-trans}
use Rattle.choice_problem.proofs.VariableSets.{has-contains, has-union, rising-tail, rising-below, rising-set_of, rising-same, contains-has, or-same}

pub behind-rising : (v : Var) (vars : List Var) → is_rising vars ≡ true → is_rising (behind v vars) ≡ true
behind-rising v [] h = refl
behind-rising v (w ∷ ws) h = elim (same_var w v) as (λ b. is_rising (cond b ws (w ∷ ws)) ≡ true) [ true ↦ rising-tail w ws h | false ↦ h ]

pub behind-le : (v : Var) (vars : List Var) → length (behind v vars) ≤ length vars
behind-le v [] = omega arith
behind-le v (w ∷ ws) = elim (same_var w v) as (λ b. length (cond b ws (w ∷ ws)) ≤ suc (length ws)) [ true ↦ omega arith | false ↦ omega arith ]

behind-lt : (v : Var) (ws : List Var) → length (behind v (v ∷ ws)) < suc (length ws)
behind-lt v ws = subst (λ b. length (cond b ws (v ∷ ws)) < suc (length ws)) (sym (same_var-refl v)) (omega arith)

some-is : (u v : Var) → Some u ≡ Some v → u ≡ v
some-is u v h = cc h

-- the front of one of the lists is taken off
pub behind-shorter : (left right : List Var) (v : Var) → front_of left right ≡ Some v → length (behind v left) + length (behind v right) < length left + length right
behind-shorter [] [] v h = absurd (cc h)
behind-shorter [] (w ∷ ws) v h = let less = subst (λ u. length (behind u (w ∷ ws)) < suc (length ws)) (some-is w v h) (behind-lt w ws) in omega (arith, less)
behind-shorter (u ∷ us) [] v h = let less = subst (λ x. length (behind x (u ∷ us)) < suc (length us)) (some-is u v h) (behind-lt u us) in omega (arith, less)
behind-shorter (u ∷ us) (w ∷ ws) v h =
    elim (is_before w u) as (λ b. Some (cond b w u) ≡ Some v → length (behind v (u ∷ us)) + length (behind v (w ∷ ws)) < suc (length us) + suc (length ws)) [
      | true ↦ λ k.
          let less = subst (λ x. length (behind x (w ∷ ws)) < suc (length ws)) (some-is w v k) (behind-lt w ws) in
          omega (arith, less, behind-le v (u ∷ us))
      | false ↦ λ k.
          let less = subst (λ x. length (behind x (u ∷ us)) < suc (length us)) (some-is u v k) (behind-lt u us) in
          omega (arith, less, behind-le v (w ∷ ws))
    ] h

-- v is in no list before whose variables it stands
abbrev IsAhead : Var → List Var → Type 0
IsAhead v vars = (u : Var) → Contains vars u → is_before v u ≡ true

-- a rising list that v isn't behind goes on behind v
ahead-behind : (v : Var) (vars : List Var) → is_rising vars ≡ true → ((u : Var) → Contains vars u → is_before u v ≡ false) → IsAhead v (behind v vars)
ahead-behind v [] rising least = λ u h. absurd (contains-none u h)
ahead-behind v (w ∷ ws) rising least =
    elim (same_var w v) as (λ b. same_var w v ≡ b → IsAhead v (cond b ws (w ∷ ws))) [
      | true ↦ λ e u h. subst (λ x. is_before x u ≡ true) (same_var-is w v e) (rising-below w ws u rising h)
      | false ↦ λ e u h.
          elim (is_before v u) as (λ b. is_before v u ≡ b → b ≡ true) [
            | true ↦ λ f. refl
            | false ↦ λ f.
                let one : u ≡ v = before-neither u v (least u h) f in
                elim (contains-cases w ws v (subst (λ x. Contains (w ∷ ws) x) one h)) [
                  | inl g ↦ sym e ∙ ap (λ x. same_var x v) g ∙ same_var-refl v
                  | inr g ↦ absurd (false≢true (sym (least w (contains-head w ws)) ∙ rising-below w ws v rising g))
                ]
          ] refl
    ] refl

least-front : (v : Var) (vs : List Var) → is_rising (v ∷ vs) ≡ true → (u : Var) → Contains (v ∷ vs) u → is_before u v ≡ false
least-front v vs rising u h =
    elim (contains-cases v vs u h) [
      | inl e ↦ subst (λ x. is_before x v ≡ false) e (before-itself v)
      | inr r ↦ before-back v u (rising-below v vs u rising r)
    ]

-- the front is before all that it isn't
front-least : (left right : List Var) (v : Var) → is_rising left ≡ true → is_rising right ≡ true → front_of left right ≡ Some v
    → ((u : Var) → Contains left u → is_before u v ≡ false) × ((u : Var) → Contains right u → is_before u v ≡ false)
front-least [] [] v hl hr h = absurd (cc h)
front-least [] (w ∷ ws) v hl hr h = (λ u k. absurd (contains-none u k), subst (λ x. (u : Var) → Contains (w ∷ ws) u → is_before u x ≡ false) (some-is w v h) (least-front w ws hr))
front-least (u ∷ us) [] v hl hr h = (subst (λ x. (y : Var) → Contains (u ∷ us) y → is_before y x ≡ false) (some-is u v h) (least-front u us hl), λ y k. absurd (contains-none y k))
front-least (u ∷ us) (w ∷ ws) v hl hr h =
    elim (is_before w u) as (λ b. is_before w u ≡ b → Some (cond b w u) ≡ Some v
    → ((y : Var) → Contains (u ∷ us) y → is_before y v ≡ false) × ((y : Var) → Contains (w ∷ ws) y → is_before y v ≡ false)) [
      | true ↦ λ e k. let one = some-is w v k in (
        subst (λ x. (y : Var) → Contains (u ∷ us) y → is_before y x ≡ false) one (λ y m. not-before-trans w u y (before-back w u e) (least-front u us hl y m)),
        subst (λ x. (y : Var) → Contains (w ∷ ws) y → is_before y x ≡ false) one (least-front w ws hr),
      )
      | false ↦ λ e k. let one = some-is u v k in (
        subst (λ x. (y : Var) → Contains (u ∷ us) y → is_before y x ≡ false) one (least-front u us hl),
        subst (λ x. (y : Var) → Contains (w ∷ ws) y → is_before y x ≡ false) one (λ y m. not-before-trans u w y e (least-front w ws hr y m)),
      )
    ] refl h

-- a list has what its front is, and what is behind it
has-behind : (v : Var) (vars : List Var) (u : Var) → same_var v u || has (behind v vars) u ≡ same_var v u || has vars u
has-behind v [] u = refl
has-behind v (w ∷ ws) u =
    elim (same_var w v) as (λ b. same_var w v ≡ b → same_var v u || has (cond b ws (w ∷ ws)) u ≡ same_var v u || (same_var w u || has ws u)) [
      | true ↦ λ e. sym (ap (λ x. same_var v u || (same_var x u || has ws u)) (same_var-is w v e) ∙ or-same (same_var v u) (has ws u))
      | false ↦ λ e. refl
    ] refl

or-both : (a b c d e : Bool) → a || b ≡ a || d → a || c ≡ a || e → a || (b || c) ≡ a || (d || e)
or-both true b c d e h k = refl
or-both false b c d e h k = ap (λ x. x || c) h ∙ ap (λ x. d || x) k

front-in : (left right : List Var) (v : Var) → front_of left right ≡ Some v → has left v || has right v ≡ true
front-in [] [] v h = absurd (cc h)
front-in [] (w ∷ ws) v h = ap (λ x. same_var x v || has ws v) (some-is w v h) ∙ ap (λ b. b || has ws v) (same_var-refl v)
front-in (u ∷ us) right v h =
    elim right as (λ r. front_of (u ∷ us) r ≡ Some v → has (u ∷ us) v || has r v ≡ true) [
      | [] ↦ λ k. ap (λ x. (same_var x v || has us v) || false) (some-is u v k) ∙ ap (λ b. (b || has us v) || false) (same_var-refl v)
      | w ∷ ws ↦ λ k. elim (is_before w u) as (λ b. Some (cond b w u) ≡ Some v → (same_var u v || has us v) || (same_var w v || has ws v) ≡ true) [
        | true ↦ λ l. ap (λ x. (same_var u v || has us v) || (same_var x v || has ws v)) (some-is w v l) ∙ ap (λ b. (same_var u v || has us v) || (b || has ws v)) (same_var-refl v) ∙ or_right (same_var u v || has us v) true refl
        | false ↦ λ l. ap (λ x. (same_var x v || has us v) || (same_var w v || has ws v)) (some-is u v l) ∙ ap (λ b. (b || has us v) || (same_var w v || has ws v)) (same_var-refl v)
      ] k
    ] h

or-absorbs : (a b : Bool) → (a ≡ true → b ≡ true) → a || b ≡ b
or-absorbs true b h = sym (h refl)
or-absorbs false b h = refl

rising-cons : (v : Var) (vars : List Var) → is_rising vars ≡ true → IsAhead v vars → is_rising (v ∷ vars) ≡ true
rising-cons v [] rising ahead = refl
rising-cons v (w ∷ ws) rising ahead = and_from (is_before v w) (is_rising (w ∷ ws)) (ahead w (contains-head w ws)) rising

ahead-union : (v : Var) (xs ys : List Var) → IsAhead v xs → IsAhead v ys → IsAhead v (union xs ys)
ahead-union v xs ys hx hy u h =
    elim (or_cases (has xs u) (has ys u) (sym (has-union xs ys u) ∙ contains-has (union xs ys) u h)) [
      | inl l ↦ hx u (has-contains xs u l)
      | inr r ↦ hy u (has-contains ys u r)
    ]

pub union-front : (left right : List Var) (v : Var) → is_rising left ≡ true → is_rising right ≡ true → front_of left right ≡ Some v
    → union left right ≡ v ∷ union (behind v left) (behind v right)
union-front left right v hl hr h =
    let least = front-least left right v hl hr h in
    let ahead = ahead-union v (behind v left) (behind v right) (ahead-behind v left hl least.0) (ahead-behind v right hr least.1) in
    rising-same (union left right) (v ∷ union (behind v left) (behind v right)) (rising-set_of (left ++ right))
    (rising-cons v (union (behind v left) (behind v right)) (rising-set_of (behind v left ++ behind v right)) ahead)
    (λ u.
    has-union left right u
    ∙ sym (or-absorbs (same_var v u) (has left u || has right u) (λ e. subst (λ x. has left x || has right x ≡ true) (same_var-is v u e) (front-in left right v h)))
    ∙ or-both (same_var v u) (has left u) (has right u) (has (behind v left) u) (has (behind v right) u) (sym (has-behind v left u)) (sym (has-behind v right u))
    ∙ ap (λ b. same_var v u || b) (sym (has-union (behind v left) (behind v right) u)))

pub union-none : (left right : List Var) → front_of left right ≡ None → union left right ≡ []
union-none [] [] h = refl
union-none [] (w ∷ ws) h = absurd (cc h)
union-none (u ∷ us) [] h = absurd (cc h)
union-none (u ∷ us) (w ∷ ws) h = absurd (cc h)
