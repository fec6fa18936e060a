-- Shared: open variables by their entries: registered, linked, unlinked and relinked, and a walk over linked ones.
use Rattle.std.proofs.Common.{◌≡◌, ℕ, zero, suc, ◌+◌, ◌<◌, arith, length, MatchOption, IsSome, IfSome, true, false, not, cond, ◌&&◌, ◌||◌, List, [], ◌∷◌, ◌++◌, Option, Some, None, refl, sym, ap, ◌∙◌, subst}
use Rattle.std.specs.List.{Contains, slice_get, find}
use Rattle.std.specs.Option.{option_map}
use Rattle.std.proofs.Math.ListN.{set}
use Rattle.std.proofs.lemmas.Bool.{false≢true}
use Rattle.std.proofs.lemmas.Option.{slice_get_within}
use Rattle.common_laws.specs.Lists.{contains-head, contains-tail}
use Rattle.qualified_goals.specs.declared.variable.Var.{Var}
use Rattle.qualified_goals.specs.Variable.{is_before, same_var}
use Rattle.qualified_goals.specs.SameVariable.{same_var-is, same_var-refl}
use Rattle.qualified_goals.proofs.GoalOrder.{before-itself, before-back}
use Rattle.choice_problem.specs.ConflictSet.{is_rising, has, without, first_behind}
use Rattle.choice_problem.proofs.VariableSets.{same-back, before-not-same, has-contains, has-with_var, rising-with_var, rising-tail, rising-below, rising-same}
use Rattle.choice_problem.proofs.RisingVariables.{rising-without, has-without}
use Rattle.goal_links.specs.Beside.{beside, behind_first, first_of, AreBeside}
use Rattle.goal_links.specs.Links.{Entries, var_at, vars_behind, linked, unlinked, MayReturn}
use Rattle.goal_links.specs.Mentions.{KeepRow}
use Rattle.goal_links.proofs.EntryLemmas.{may-return, slice_get-set}
use Rattle.goal_links.proofs.ChainWalks.{at-entry, entry-known, get-at}
use Rattle.choice_stack.specs.Open.{AreInOrder, Keeps, StayKept, MayComeBack, any_var, is_other, is_behind}
pub use Rattle.demand_agreement.proofs.Disagreements.{get-front}

-- an item of the second of two lists
pub get-right : {X : Type 0} (xs ys : List X) (n : ℕ) → slice_get (xs ++ ys) (length xs + n) ≡ slice_get ys n
get-right [] ys n = let none : 0 + n ≡ n = omega arith in ap (slice_get ys) none
get-right (x ∷ xs) ys n = let on : suc (length xs) + n ≡ suc (length xs + n) = omega arith in ap (slice_get (x ∷ xs ++ ys)) on ∙ get-right xs ys n

-- items that keep their places

get-other : {X : Type 0} (xs : List X) (i n : ℕ) (y x : X) → (n ≡ i → ⊥) → slice_get xs n ≡ Some x → slice_get (set xs i y) n ≡ Some x
get-other [] i n y x other h = absurd (cc h)
get-other (z ∷ xs) zero zero y x other h = absurd (other refl)
get-other (z ∷ xs) zero (suc n) y x other h = h
get-other (z ∷ xs) (suc i) zero y x other h = h
get-other (z ∷ xs) (suc i) (suc n) y x other h = get-other xs i n y x (λ e. other (ap suc e)) h

-- entries that are unchanged

pub row-order : (s t : Entries) → KeepRow s t → AreInOrder s → AreInOrder t
row-order s t keep h = record {
  rising = ap is_rising keep.linked ∙ h.rising;
  known = λ v k. keep.known v (h.known v (ap (λ (l : List Var). has l v) (sym keep.linked) ∙ k));
}

pub row-kept : (s t u : Entries) → s ≡ u → KeepRow s t → StayKept any_var u t
row-kept s t u is keep = subst (λ (x : Entries). StayKept any_var x t) is (λ n v sides test k. record { owned = keep.vars n v k.owned; held = keep.kept n (Some sides) k.held })

-- linked

module _ (s t : Entries) (n : ℕ) (within : n < length s.vars) (is : t ≡ linked s n) where
  pub linked-has : (u : Var) → has t.linked u ≡ (same_var (var_at s.vars n) u || has s.linked u)
  linked-has u = ap (λ (x : Entries). has x.linked u) is ∙ has-with_var (var_at s.vars n) s.linked u

  pub linked-kept : StayKept (is_other (var_at s.vars n)) s t
  linked-kept = subst (λ (x : Entries). StayKept (is_other (var_at s.vars n)) s x) (sym is) (λ m w sides other k. record {
    owned = k.owned;
    held = get-other s.kept n m None (Some sides) (λ e.
        let same : var_at s.vars n ≡ w = at-entry s.vars n w (subst (λ i. slice_get s.vars i ≡ Some w) e k.owned) in
        false≢true (sym (ap not (ap (same_var (var_at s.vars n)) (sym same) ∙ same_var-refl (var_at s.vars n))) ∙ other)) k.held;
  })

  pub linked-order : AreInOrder s → AreInOrder t
  linked-order h = subst AreInOrder (sym is) (record {
    rising = rising-with_var (var_at s.vars n) s.linked h.rising;
    known = λ u k.
        elim (same_var (var_at s.vars n) u) as (λ b. same_var (var_at s.vars n) u ≡ b → b || has s.linked u ≡ true → has s.vars u ≡ true) [
          | true ↦ λ e j. ap (has s.vars) (sym (same_var-is (var_at s.vars n) u e)) ∙ entry-known s.vars n (var_at s.vars n) (get-at s.vars n within)
          | false ↦ λ e j. h.known u j
        ] refl (sym (has-with_var (var_at s.vars n) s.linked u) ∙ k);
  })

-- unlinked

module _ (s t : Entries) (n : ℕ) (within : n < length s.vars) (is : t ≡ unlinked s n) where
  pub taken-has : (u : Var) → has t.linked u ≡ (is_other (var_at s.vars n) u && has s.linked u)
  taken-has u = ap (λ (x : Entries). has x.linked u) is ∙ has-without (var_at s.vars n) s.linked u

  pub taken-keeps : slice_get s.kept n ≡ Some None → Keeps t n (var_at s.vars n) (beside (same_var (var_at s.vars n)) s.linked)
  taken-keeps h = subst (λ (x : Entries). Keeps x n (var_at s.vars n) (beside (same_var (var_at s.vars n)) s.linked)) (sym is) (record {
    owned = get-at s.vars n within;
    held = slice_get-set s.kept n (Some (beside (same_var (var_at s.vars n)) s.linked)) None h;
  })

  pub taken-kept : slice_get s.kept n ≡ Some None → StayKept any_var s t
  taken-kept h = subst (λ (x : Entries). StayKept any_var s x) (sym is) (λ m w sides test k. record {
    owned = k.owned;
    held = get-other s.kept n m (Some (beside (same_var (var_at s.vars n)) s.linked)) (Some sides) (λ e.
        let at : slice_get s.kept n ≡ Some (Some sides) = subst (λ i. slice_get s.kept i ≡ Some (Some sides)) e k.held in
        let no : Some None ≡ Some (Some sides) = sym h ∙ at in
        cc no) k.held;
  })

  pub taken-order : AreInOrder s → AreInOrder t
  taken-order h = subst AreInOrder (sym is) (record {
    rising = rising-without (var_at s.vars n) s.linked h.rising;
    known = λ u k. h.known u (elim (is_other (var_at s.vars n) u) as (λ b. b && has s.linked u ≡ true → has s.linked u ≡ true) [
      | true ↦ λ j. j
      | false ↦ λ j. absurd (false≢true j)
    ] (sym (has-without (var_at s.vars n) s.linked u) ∙ k));
  })

-- relinked

beside-left : (v : Var) (before : List Var) → is_rising before ≡ true → has before v ≡ true → AreBeside (beside (same_var v) before) (without v before)
beside-left v before rising there =
    let was : Entries = record { vars = v ∷ []; linked = before; kept = None ∷ []; cells = []; chains = [] } in
    let may = may-return was 0 (record { linked = there; kept = refl; rising = rising }) in
    let same : beside (same_var v) before ≡ may.0 = let e : Some (Some (beside (same_var v) before)) ≡ Some (Some may.0) = may.1 in cc e in
    subst (λ (sides : Option Var × Option Var). AreBeside sides (without v before)) (sym same) may.2

pub may-come-back : (s : Entries) (n : ℕ) → AreInOrder s → MayComeBack s n → MayReturn s n
may-come-back s n h back =
    let v = back.var in
    let left : s.linked ≡ without v back.before =
    rising-same s.linked (without v back.before) h.rising (rising-without v back.before back.rising) (λ u. back.others u ∙ sym (has-without v back.before u)) in (
      beside (same_var v) back.before,
      back.kept.held,
      subst (λ (l : List Var). AreBeside (beside (same_var v) back.before) l) (sym left) (beside-left v back.before back.rising back.there),
    )

pub back-within : (s : Entries) (n : ℕ) → MayComeBack s n → n < length s.vars
back-within s n back = slice_get_within s.vars n back.var back.kept.owned

-- a walk over the linked entries

-- the rest of a walk
abbrev pub vars_from : Entries → Option ℕ → List Var
vars_from s None = []
vars_from s (Some n) = var_at s.vars n ∷ vars_behind s n

-- the linked entry that a walk is at, if it hasn't ended
abbrev pub StandsAt : Entries → Option ℕ → Type 0
StandsAt s None = Unit {0}
StandsAt s (Some n) = (n < length s.vars) × (has s.linked (var_at s.vars n) ≡ true)

pub stands-at : (s : Entries) (o : Option ℕ) → IfSome o (λ n. n < length s.vars) → IfSome o (λ n. has s.linked (var_at s.vars n) ≡ true) → StandsAt s o
stands-at s None h k = tt
stands-at s (Some n) h k = (h, k)

pub from-first : (s : Entries) (o : Option ℕ) → option_map (var_at s.vars) o ≡ first_of s.linked → vars_from s o ≡ s.linked
from-first s o e = first s.linked refl o e
  where
    first : (xs : List Var) → s.linked ≡ xs → (o : Option ℕ) → option_map (var_at s.vars) o ≡ first_of xs → vars_from s o ≡ xs
    first [] is None e = refl
    first [] is (Some n) e = absurd (cc e)
    first (x ∷ xs) is None e = absurd (cc e)
    first (x ∷ xs) is (Some n) e =
        let at : var_at s.vars n ≡ x = cc e in
        ap (λ l. var_at s.vars n ∷ behind_first (same_var (var_at s.vars n)) l) is
        ∙ ap (λ v. v ∷ behind_first (same_var v) (x ∷ xs)) at
        ∙ ap (λ b. x ∷ cond b xs (behind_first (same_var x) xs)) (same_var-refl x)

behind-contains : (v : Var) (xs : List Var) (y : Var) (ys : List Var) → behind_first (same_var v) xs ≡ y ∷ ys → Contains xs y
behind-contains v [] y ys h = absurd (cc h)
behind-contains v (x ∷ xs) y ys h =
    elim (same_var v x) as (λ b. cond b xs (behind_first (same_var v) xs) ≡ y ∷ ys → Contains (x ∷ xs) y) [
      | true ↦ λ e. subst (λ (l : List Var). Contains (x ∷ l) y) (sym e) (contains-tail x (y ∷ ys) y (contains-head y ys))
      | false ↦ λ e. contains-tail x xs y (behind-contains v xs y ys e)
    ] h

-- in a rising list the first variable differs from those behind it
not-first : (x : Var) (xs : List Var) (y : Var) → is_rising (x ∷ xs) ≡ true → Contains xs y → same_var y x ≡ false
not-first x xs y rising c = same-back y x ∙ before-not-same x y (rising-below x xs y rising c)

behind-twice : (v : Var) (xs : List Var) (y : Var) (ys : List Var) → is_rising xs ≡ true → behind_first (same_var v) xs ≡ y ∷ ys → behind_first (same_var y) xs ≡ ys
behind-twice v [] y ys rising h = absurd (cc h)
behind-twice v (x ∷ xs) y ys rising h =
    elim (same_var v x) as (λ b. cond b xs (behind_first (same_var v) xs) ≡ y ∷ ys → behind_first (same_var y) (x ∷ xs) ≡ ys) [
      | true ↦ λ e.
          let c : Contains xs y = subst (λ (l : List Var). Contains l y) (sym e) (contains-head y ys) in
          ap (λ b. cond b xs (behind_first (same_var y) xs)) (not-first x xs y rising c)
          ∙ ap (behind_first (same_var y)) e
          ∙ ap (λ b. cond b ys (behind_first (same_var y) ys)) (same_var-refl y)
      | false ↦ λ e.
          ap (λ b. cond b xs (behind_first (same_var y) xs)) (not-first x xs y rising (behind-contains v xs y ys e))
          ∙ behind-twice v xs y ys (rising-tail x xs rising) e
    ] h

pub from-next : (s : Entries) (n : ℕ) (o : Option ℕ) → is_rising s.linked ≡ true → option_map (var_at s.vars) o ≡ first_of (vars_behind s n) → vars_from s o ≡ vars_behind s n
from-next s n o rising e = next (vars_behind s n) refl o e
  where
    next : (xs : List Var) → vars_behind s n ≡ xs → (o : Option ℕ) → option_map (var_at s.vars) o ≡ first_of xs → vars_from s o ≡ xs
    next [] is None e = refl
    next [] is (Some m) e = absurd (cc e)
    next (x ∷ xs) is None e = absurd (cc e)
    next (x ∷ xs) is (Some m) e =
        let at : var_at s.vars m ≡ x = cc e in
        ap (λ v. v ∷ behind_first (same_var v) s.linked) at ∙ ap (λ l. x ∷ l) (behind-twice (var_at s.vars n) s.linked x xs rising is)

-- the first behind a variable, if one is given
pub behind-is : (v : Option Var) (vars : List Var) → find (is_behind v) vars ≡ first_behind v vars
behind-is None [] = refl
behind-is None (w ∷ vars) = refl
behind-is (Some v) vars = refl

-- the next variable is the first behind it
pub next-behind : (v : Var) (vars : List Var) → is_rising vars ≡ true → has vars v ≡ true → first_of (behind_first (same_var v) vars) ≡ find (is_before v) vars
next-behind v [] rising there = absurd (false≢true there)
next-behind v (w ∷ vars) rising there =
    elim (same_var w v) as (λ b. same_var w v ≡ b → b || has vars v ≡ true
    → first_of (cond (same_var v w) vars (behind_first (same_var v) vars)) ≡ cond (is_before v w) (Some w) (find (is_before v) vars)) [
      | true ↦ λ e k.
          let is : w ≡ v = same_var-is w v e in
          ap (λ b. first_of (cond b vars (behind_first (same_var v) vars))) (same-back v w ∙ e)
          ∙ next-first v vars (subst (λ x. is_rising (x ∷ vars) ≡ true) is rising)
          ∙ sym (ap (λ b. cond b (Some w) (find (is_before v) vars)) (ap (is_before v) is ∙ before-itself v))
      | false ↦ λ e k.
          ap (λ b. first_of (cond b vars (behind_first (same_var v) vars))) (same-back v w ∙ e)
          ∙ next-behind v vars (rising-tail w vars rising) k
          ∙ sym (ap (λ b. cond b (Some w) (find (is_before v) vars)) (before-back w v (rising-below w vars v rising (has-contains vars v k))))
    ] refl there
  where
    next-first : (v : Var) (vars : List Var) → is_rising (v ∷ vars) ≡ true → first_of vars ≡ find (is_before v) vars
    next-first v [] rising = refl
    next-first v (w ∷ vars) rising = sym (ap (λ b. cond b (Some w) (find (is_before v) vars)) (rising-below v (w ∷ vars) w rising (contains-head w vars)))

-- the entry of a linked variable is found

pub found-some : (s : Entries) (v : Var) → AreInOrder s → has s.linked v ≡ true → (o : Option ℕ) → MatchOption o (has s.vars v ≡ false) (λ n. slice_get s.vars n ≡ Some v) → IsSome o
found-some s v h there None none = absurd (false≢true (sym none ∙ h.known v there))
found-some s v h there (Some n) at = refl

pub found-at : (vars : List Var) (v : Var) (o : Option ℕ) (n : ℕ) → MatchOption o (has vars v ≡ false) (λ k. slice_get vars k ≡ Some v) → o ≡ Some n → slice_get vars n ≡ Some v
found-at vars v o n h e = subst (λ (p : Option ℕ). MatchOption p (has vars v ≡ false) (λ k. slice_get vars k ≡ Some v)) e h
