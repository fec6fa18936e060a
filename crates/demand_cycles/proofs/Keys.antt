-- Keys without repetition.
use Rattle.std.proofs.Common.{◌≡◌, ℕ, ◌+◌, ◌<◌, ◌≤◌, Bool, true, false, cond, not, ◌||◌, List, [], ◌∷◌, ◌++◌, length, drop, get_or, refl, sym, ap, ◌∙◌, arith, append_assoc, append-nil, add-one, drop-cons}
use Rattle.std.specs.List.{Contains, list_any}
use Rattle.std.specs.Prelude.{if◌then◌else◌}
use Rattle.std.proofs.lemmas.Bool.{false≢true, or_left, or_right, and_parts, and_from}
use Rattle.indexmap.specs.IndexSet.{insert_key}
use Rattle.qualified_goals.specs.contracts.variable.VarPartialEq.TheImpl.{eq-value}
use Rattle.qualified_goals.specs.declared.variable.Var.{Var}
use Rattle.qualified_goals.specs.Variable.{same_var}
use Rattle.choice_problem.specs.ConflictSet.{has}
use Rattle.qualified_goals.specs.SameVariable.{same_var-is, same_var-refl}
use Rattle.common_laws.specs.Lists.{without}
use Rattle.choice_problem.proofs.VariableSets.{has-append, same-back}
use Rattle.demand_cycles.specs.Side.{are_once}
use Rattle.demand_cycles.specs.VarSet.{IsIndexOf, with_key, with_keys}
use Rattle.std.proofs.Math.Bool.{or-false}
use Rattle.std.proofs.Math.Bool.{or_assoc}
use Rattle.goal_links.proofs.VariableKeys.{found-has}

one-more : (keys : List Var) (v : Var) → are_once keys ≡ true → has keys v ≡ false → are_once (keys ++ v ∷ []) ≡ true
one-more [] v h k = refl
one-more (w ∷ keys) v h k =
    let rest = (and_parts (not (has keys w)) (are_once keys) h).1 in
    let apart : same_var w v ≡ false = elim (same_var w v) as (λ b. b || has keys v ≡ false → b ≡ false) [ true ↦ λ e. e | false ↦ λ e. refl ] k in
    let left : has keys v ≡ false = elim (same_var w v) as (λ b. b || has keys v ≡ false → has keys v ≡ false) [ true ↦ λ e. absurd (false≢true (sym e)) | false ↦ λ e. e ] k in
    let none : same_var v w ≡ false = elim (same_var v w) as (λ b. same_var v w ≡ b → b ≡ false) [
      | true ↦ λ e. absurd (false≢true (sym apart ∙ ap (λ x. same_var w x) (same_var-is v w e) ∙ same_var-refl w))
      | false ↦ λ e. refl
    ] refl in
    let one : has (v ∷ []) w ≡ false = ap (λ b. b || false) none in
    let early : not (has keys w) ≡ true = (and_parts (not (has keys w)) (are_once keys) h).0 in
    let both : not (has (keys ++ v ∷ []) w) ≡ true = ap not (has-append keys (v ∷ []) w ∙ ap (λ b. has keys w || b) one) ∙ elim (has keys w) as (λ b. not b ≡ true → not (b || false) ≡ true) [ true ↦ λ e. e | false ↦ λ e. e ] early in
    and_from (not (has (keys ++ v ∷ []) w)) (are_once (keys ++ v ∷ [])) both (one-more keys v rest left)

with_key-once : (keys : List Var) (v : Var) → are_once keys ≡ true → are_once (with_key keys v) ≡ true
with_key-once keys v h = elim (has keys v) as (λ b. has keys v ≡ b → are_once (cond b keys (keys ++ v ∷ [])) ≡ true) [ true ↦ λ e. h | false ↦ λ e. one-more keys v h e ] refl

pub with_keys-once : (keys vars : List Var) → are_once keys ≡ true → are_once (with_keys keys vars) ≡ true
with_keys-once keys [] h = h
with_keys-once keys (v ∷ vars) h = with_keys-once (with_key keys v) vars (with_key-once keys v h)

or-again : (a b : Bool) → (b ≡ true → a ≡ true) → a ≡ a || b
or-again true b h = refl
or-again false true h = h refl
or-again false false h = refl

has-with_key : (keys : List Var) (v u : Var) → has (with_key keys v) u ≡ has keys u || same_var v u
has-with_key keys v u =
    elim (has keys v) as (λ b. has keys v ≡ b → has (cond b keys (keys ++ v ∷ [])) u ≡ has keys u || same_var v u) [
      | true ↦ λ e. or-again (has keys u) (same_var v u) (λ k. ap (has keys) (sym (same_var-is v u k)) ∙ e)
      | false ↦ λ e. has-append keys (v ∷ []) u ∙ ap (λ b. has keys u || b) (or-false (same_var v u))
    ] refl

pub has-with_keys : (keys vars : List Var) (u : Var) → has (with_keys keys vars) u ≡ has keys u || has vars u
has-with_keys keys [] u = sym (or-false (has keys u))
has-with_keys keys (v ∷ vars) u =
    has-with_keys (with_key keys v) vars u ∙ ap (λ b. b || has vars u) (has-with_key keys v u) ∙ or_assoc (has keys u) (same_var v u) (has vars u)

-- the keys stay a prefix
with_key-front : (keys : List Var) (v : Var) → (more : List Var) × (with_key keys v ≡ keys ++ more)
with_key-front keys v =
    elim (has keys v) as (λ b. (more : List Var) × (cond b keys (keys ++ v ∷ []) ≡ keys ++ more)) [ true ↦ ([], sym (append-nil keys)) | false ↦ (v ∷ [], refl) ]

pub with_keys-front : (keys vars : List Var) → (more : List Var) × (with_keys keys vars ≡ keys ++ more)
with_keys-front keys [] = ([], sym (append-nil keys))
with_keys-front keys (v ∷ vars) =
    let one = with_key-front keys v in
    let rest = with_keys-front (with_key keys v) vars in
    (one.0 ++ rest.0, rest.1 ∙ ap (λ l. l ++ rest.0) one.1 ∙ append_assoc keys one.0 rest.0)

-- a list without repetition is no longer than one that has its members
pub once-within : (keys vars : List Var) → are_once keys ≡ true → ((v : Var) → has keys v ≡ true → Contains vars v) → length keys ≤ length vars
once-within [] vars h all = omega arith
once-within (v ∷ keys) vars h all =
    let rest = without vars v (all v (or_left (same_var v v) (has keys v) (same_var-refl v))) in
    let apart : not (has keys v) ≡ true = (and_parts (not (has keys v)) (are_once keys) h).0 in
    let less = once-within keys rest.0 ((and_parts (not (has keys v)) (are_once keys) h).1) (λ u k.
    rest.2 u (all u (or_right (same_var v u) (has keys u) k)) (λ e. false≢true (sym (ap not (ap (has keys) e ∙ k)) ∙ apart))) in
    omega (arith, less, rest.1)

pub inserted : (keys : List Var) (v : Var) → insert_key eq-value.it keys v ≡ with_key keys v
inserted keys v = ap (λ b. if b then keys else keys ++ v ∷ []) (found-has keys v)

pub one-added : (keys vars new : List Var) (place : ℕ) (d : Var) → place < length vars → new ≡ with_key keys (get_or vars place d)
    → with_keys new (drop (place + 1) vars) ≡ with_keys keys (drop place vars)
one-added keys vars new place d within e =
    ap (λ l. with_keys l (drop (place + 1) vars)) e
    ∙ ap (λ n. with_keys (with_key keys (get_or vars place d)) (drop n vars)) (add-one place)
    ∙ sym (ap (with_keys keys) (drop-cons vars place d within))

-- a list of variables and its index

pub eq-same : (v w : Var) → eq-value.it v w ≡ same_var w v
eq-same v w = sym (or-false (eq-value.it v w)) ∙ found-has (w ∷ []) v ∙ or-false (same_var w v)

pub scanned : (vars : List Var) (v : Var) → list_any (λ (w : Var). eq-value.it w v) vars ≡ has vars v
scanned [] v = refl
scanned (w ∷ vars) v = ap (λ b. b || list_any (λ (x : Var). eq-value.it x v) vars) (eq-same w v ∙ same-back v w) ∙ ap (λ b. same_var w v || b) (scanned vars v)

pub index-whole : (vars : List Var) → IsIndexOf vars (with_keys [] vars)
index-whole vars v = has-with_keys [] vars v

pub index-more : (vars keys : List Var) (v : Var) → IsIndexOf vars keys → IsIndexOf (vars ++ v ∷ []) (with_key keys v)
index-more vars keys v is u =
    has-with_key keys v u ∙ ap (λ b. b || same_var v u) (is u) ∙ sym (has-append vars (v ∷ []) u ∙ ap (λ b. has vars u || b) (or-false (same_var v u)))
