-- Reused instances and the others together are all values, each once.
use Rattle.std.specs.Prelude.{◌≡◌, ◌≢◌, ℕ, ◌<◌, Bool, true, false, cond, not, nat_eq, List, [], ◌∷◌, ◌++◌, map, filter, Some, AllPairs, Contains, refl}
use Rattle.std.proofs.Common.{sym, ap, ◌∙◌, subst, inl, inr}
use Rattle.std.proofs.lemmas.Bool.{false≢true, eqb-true, eq-eqb, not-true, not_from_false}
use Rattle.std.proofs.lemmas.List.Elements.{All-contains}
use Rattle.qualified_goals.specs.declared.variable.Var.{Var}
use Rattle.qualified_goals.specs.Variable.{same_var}
use Rattle.choice_problem.specs.declared.problem.Choice.{Choice}
use Rattle.choice_problem.specs.Assignment.{is_one_of}
use Rattle.choice_problem.specs.Problem.{IsOrderBelow}
use Rattle.choice_problem.specs.Twins.{is_of_package}
use Rattle.common_laws.specs.Lists.{contains-head, contains-tail, contains-cases, contains-append, contains-left, contains-right, contains-map, contains-filter, filter-contains, all-where, any-from, any-at, pairs-nil, pairs-cons, pairs-head, pairs-tail}
use Rattle.cabal_problem.specs.Values.{each_once, elsewhere, reused, with_others}

abbrev Differ : ℕ → ℕ → Type 0
Differ x y = x ≢ y

-- a member of the list is one of its numbers
pub one-of : (ns : List ℕ) (n : ℕ) → Contains ns n → is_one_of (Some n) ns ≡ true
one-of ns n h = any-from (λ m. nat_eq n m) ns n h (eq-eqb n n refl)

pub of-one : (ns : List ℕ) (n : ℕ) → is_one_of (Some n) ns ≡ true → Contains ns n
of-one ns n h = let (m, among, same) = any-at (λ m. nat_eq n m) ns h in subst (λ x. Contains ns x) (sym (eqb-true n m same)) among

-- filtering keeps numbers distinct
filter-once : (test : ℕ → Bool) (ns : List ℕ) → AllPairs Differ ns → AllPairs Differ (filter test ns)
filter-once test [] h = pairs-nil Differ
filter-once test (n ∷ ns) h =
    let rest = filter-once test ns (pairs-tail Differ n ns h) in
    elim (test n) as (λ b. AllPairs Differ (cond b (n ∷ filter test ns) (filter test ns))) [
      | true ↦ pairs-cons Differ n (filter test ns) (λ m k. pairs-head Differ n ns m h (contains-filter test ns m k).0) rest
      | false ↦ rest
    ]

append-once : (xs ys : List ℕ) → AllPairs Differ xs → AllPairs Differ ys → ((x y : ℕ) → Contains xs x → Contains ys y → x ≢ y) → AllPairs Differ (xs ++ ys)
append-once [] ys h k apart = k
append-once (x ∷ xs) ys h k apart =
    pairs-cons Differ x (xs ++ ys) (λ y i. elim (contains-append xs ys y i) [
      | inl l ↦ pairs-head Differ x xs y h l
      | inr r ↦ apart x y (contains-head x xs) r
    ])
    (append-once xs ys (pairs-tail Differ x xs h) k (λ a b i j. apart a b (contains-tail x xs a i) j))

-- ---- each once: the same members, all distinct

once-of : (ns : List ℕ) (n : ℕ) → Contains (each_once ns) n → Contains ns n
once-of [] n h = h
once-of (x ∷ ns) n h =
    elim (contains-cases x (filter (λ m. not (nat_eq x m)) (each_once ns)) n h) [
      | inl same ↦ subst (λ y. Contains (x ∷ ns) y) same (contains-head x ns)
      | inr later ↦ contains-tail x ns n (once-of ns n (contains-filter (λ m. not (nat_eq x m)) (each_once ns) n later).0)
    ]

pub once-has : (ns : List ℕ) (n : ℕ) → Contains ns n → Contains (each_once ns) n
once-has [] n h = h
once-has (x ∷ ns) n h =
    let rest = filter (λ m. not (nat_eq x m)) (each_once ns) in
    elim (nat_eq x n) as (λ b. nat_eq x n ≡ b → Contains (x ∷ rest) n) [
      | true ↦ λ e. subst (λ y. Contains (x ∷ rest) y) (eqb-true x n e) (contains-head x rest)
      | false ↦ λ e. elim (contains-cases x ns n h) [
        | inl same ↦ absurd (false≢true (sym e ∙ eq-eqb x n same))
        | inr later ↦ contains-tail x rest n (filter-contains (λ m. not (nat_eq x m)) (each_once ns) n (once-has ns n later) (not_from_false (nat_eq x n) e))
      ]
    ] refl

once-once : (ns : List ℕ) → AllPairs Differ (each_once ns)
once-once [] = pairs-nil Differ
once-once (x ∷ ns) =
    let test = λ (m : ℕ). not (nat_eq x m) in
    pairs-cons Differ x (filter test (each_once ns))
    (λ m k same. false≢true (sym (not-true (nat_eq x m) (contains-filter test (each_once ns) m k).1) ∙ eq-eqb x m same))
    (filter-once test (each_once ns) (once-once ns))

-- ---- some values, then the others of an order

pub others-ordered : (first policy : List ℕ) (n : ℕ) → AllPairs Differ first → ((x : ℕ) → Contains first x → x < n) → IsOrderBelow n policy → IsOrderBelow n (with_others first policy)
others-ordered first policy n once below order =
    let test = λ (x : ℕ). not (is_one_of (Some x) first) in
    let rest = filter test policy in
    record {
      below = all-where (λ x. x < n) (first ++ rest) (λ x k. elim (contains-append first rest x k) [
        | inl l ↦ below x l
        | inr r ↦ All-contains (λ y. y < n) policy x order.below (contains-filter test policy x r).0
      ]);
      each = λ x within. elim (is_one_of (Some x) first) as (λ b. is_one_of (Some x) first ≡ b → Contains (first ++ rest) x) [
        | true ↦ λ e. contains-left first rest x (of-one first x e)
        | false ↦ λ e. contains-right first rest x (filter-contains test policy x (order.each x within) (not_from_false (is_one_of (Some x) first) e))
      ] refl;
      once = append-once first rest once (filter-once test policy order.once) (λ x y i j same.
          false≢true (sym (not-true (is_one_of (Some y) first) (contains-filter test policy y j).1) ∙ ap (λ z. is_one_of (Some z) first) (sym same) ∙ one-of first x i));
    }

-- a reused instance was chosen for the package
pub reused-of : (trail : List Choice) (v : Var) (n : ℕ) → Contains (reused trail v) n → (c : Choice) × Contains trail c × (is_of_package v.«package» c ≡ true) × (c.val ≡ n)
reused-of trail v n h =
    let choices = filter (is_of_package v.«package») trail in
    let (c, among, is) = contains-map (λ (c : Choice). c.val) (elsewhere v choices) n (once-of (map (λ c. c.val) (elsewhere v choices)) n h) in
    let kept = contains-filter (is_of_package v.«package») trail c (contains-filter (λ (d : Choice). not (same_var d.var v)) choices c among).0 in
    (c, kept.0, kept.1, is)

pub reused-once : (trail : List Choice) (v : Var) → AllPairs Differ (reused trail v)
reused-once trail v = once-once (map (λ c. c.val) (elsewhere v (filter (is_of_package v.«package») trail)))
