-- Lists that pass the tests keep the laws, and those that keep them pass.
use Rattle.std.specs.Prelude.{◌≡◌, ◌≢◌, ℕ, zero, suc, ◌<◌, Bool, true, false, cond, not, ◌&&◌, ◌||◌, nat_eq, nat_lt, IsTrue, List, [], ◌∷◌, length, map, filter, All, AllPairs, Contains, refl}
use Rattle.std.specs.Ordering.{is_eq}
use Rattle.std.specs.List.{list_all}
use Rattle.std.proofs.Common.{sym, ap, ◌∙◌, subst, inl, inr, arith}
use Rattle.std.proofs.lemmas.Bool.{false≢true, eqb-true, eq-eqb, cases_lt, ltb-true, lt-ltb, and_parts, and_from}
use Rattle.std.proofs.lemmas.List.{length-map}
use Rattle.std.proofs.lemmas.List.Elements.{All-contains}
use Rattle.qualified_goals.specs.declared.variable.Var.{Var}
use Rattle.choice_problem.specs.declared.problem.Choice.{Choice}
use Rattle.choice_problem.specs.declared.problem.Demand.{Demand}
use Rattle.choice_problem.specs.declared.written.WrittenVar.{WrittenVar}
use Rattle.qualified_goals.specs.Variable.{qual_cmp, same_var}
use Rattle.choice_problem.specs.Problem.{Problem, IsOrderBelow, IsBeside, IsRoot, IsOwned, Lawful}
use Rattle.choice_problem.specs.Trail.{choice_of}
use Rattle.choice_problem.specs.Written.{is_among, is_listed, order_of, begins_with, problem_of, AreLawful, has_each_below, is_once, is_order, are_listed_once, is_beside, is_empty, is_condition, are_lawful}
use Rattle.common_laws.specs.Lists.{contains-head, contains-tail, contains-filter, map-contains, all-at, all-from, any-at, any-from, all-where, pairs-cons, pairs-head, pairs-tail, pairs-nil}
use Rattle.qualified_goals.specs.SameVariable.{qual-is, qual-refl, same_var-is, same_var-refl}
use Rattle.common_laws.specs.Small.{is-equal, not-from, not-to}

-- orders

among-at : (values : List ℕ) (n : ℕ) → is_among values n ≡ true → Contains values n
among-at values n h = let found = any-at (λ m. nat_eq m n) values h in subst (λ m. Contains values m) (eqb-true found.0 n found.2) found.1

among-from : (values : List ℕ) (n : ℕ) → Contains values n → is_among values n ≡ true
among-from values n h = any-from (λ m. nat_eq m n) values n h (eq-eqb n n refl)

each-at : (n : ℕ) (values : List ℕ) → has_each_below n values ≡ true → (x : ℕ) → x < n → Contains values x
each-at zero values h x below = absurd (omega (arith, below))
each-at (suc n) values h x below =
    elim (cases_lt x n) [
      | inl less ↦ each-at n values ((and_parts (is_among values n) (has_each_below n values) h).1) x less
      | inr last ↦ let same : n ≡ x = omega arith in subst (λ m. Contains values m) same (among-at values n ((and_parts (is_among values n) (has_each_below n values) h).0))
    ]

-- a list that contains each number below a bound passes the test
pub each-from : (n : ℕ) (values : List ℕ) → ((x : ℕ) → x < n → Contains values x) → has_each_below n values ≡ true
each-from zero values h = refl
each-from (suc n) values h = and_from (is_among values n) (has_each_below n values) (among-from values n (h n (omega arith))) (each-from n values (λ x less. h x (omega (arith, less))))

once-at : (values : List ℕ) → is_once values ≡ true → AllPairs (λ x y. x ≢ y) values
once-at [] h = pairs-nil (λ (x y : ℕ). x ≢ y)
once-at (n ∷ values) h =
    pairs-cons (λ (x y : ℕ). x ≢ y) n values
    (λ y k e. not-to (is_among values n) ((and_parts (not (is_among values n)) (is_once values) h).0) (among-from values n (subst (λ m. Contains values m) (sym e) k)))
    (once-at values ((and_parts (not (is_among values n)) (is_once values) h).1))

once-from : (values : List ℕ) → AllPairs (λ x y. x ≢ y) values → is_once values ≡ true
once-from [] h = refl
once-from (n ∷ values) h =
    and_from (not (is_among values n)) (is_once values)
    (not-from (is_among values n) (λ k. pairs-head (λ (x y : ℕ). x ≢ y) n values n h (among-at values n k) refl))
    (once-from values (pairs-tail (λ (x y : ℕ). x ≢ y) n values h))

abbrev pub IsOrder : List ℕ → Type 0
IsOrder values = IsOrderBelow (length values) values

-- what passes the test of an order is one
pub order-at : (values : List ℕ) → is_order values ≡ true → IsOrder values
order-at values h =
    let below = list_all (λ n. nat_lt n (length values)) values in
    let rest = (and_parts below (has_each_below (length values) values && is_once values) h).1 in
    record {
      below = all-where (λ x. x < length values) values (λ x k. ltb-true x (length values) (all-at (λ n. nat_lt n (length values)) values x ((and_parts below (has_each_below (length values) values && is_once values) h).0) k));
      each = each-at (length values) values ((and_parts (has_each_below (length values) values) (is_once values) rest).0);
      once = once-at values ((and_parts (has_each_below (length values) values) (is_once values) rest).1);
    }

order-from : (values : List ℕ) → IsOrder values → is_order values ≡ true
order-from values h =
    and_from (list_all (λ n. nat_lt n (length values)) values) (has_each_below (length values) values && is_once values)
    (all-from (λ n. nat_lt n (length values)) values (λ x k. lt-ltb x (length values) (All-contains (λ y. y < length values) values x h.below k)))
    (and_from (has_each_below (length values) values) (is_once values) (each-from (length values) values h.each) (once-from values h.once))

-- variables

abbrev Differ : WrittenVar → WrittenVar → Type 0
Differ v w = v.var ≢ w.var

listed-from : (variables : List WrittenVar) (w : WrittenVar) → Contains variables w → is_listed variables w.var ≡ true
listed-from variables w h = any-from (λ (u : WrittenVar). same_var u.var w.var) variables w h (same_var-refl w.var)

variables-at : (variables : List WrittenVar) → are_listed_once variables ≡ true → AllPairs Differ variables
variables-at [] h = pairs-nil Differ
variables-at (w ∷ variables) h =
    pairs-cons Differ w variables
    (λ u k e. not-to (is_listed variables w.var) ((and_parts (not (is_listed variables w.var)) (are_listed_once variables) h).0)
    (subst (λ v. is_listed variables v ≡ true) (sym e) (listed-from variables u k)))
    (variables-at variables ((and_parts (not (is_listed variables w.var)) (are_listed_once variables) h).1))

variables-from : (variables : List WrittenVar) → AllPairs Differ variables → are_listed_once variables ≡ true
variables-from [] h = refl
variables-from (w ∷ variables) h =
    and_from (not (is_listed variables w.var)) (are_listed_once variables)
    (not-from (is_listed variables w.var) (λ k.
    let found = any-at (λ (u : WrittenVar). same_var u.var w.var) variables k in
    pairs-head Differ w variables found.0 h found.1 (sym (same_var-is found.0.var w.var found.2))))
    (variables-from variables (pairs-tail Differ w variables h))

-- the order of a listed variable is one of the orders
order-listed : (P : List ℕ → Type 0) (variables : List WrittenVar) (v : Var) → ((w : WrittenVar) → Contains variables w → P w.order) → is_listed variables v ≡ true → P (order_of variables v)
order-listed P [] v h k = absurd (false≢true k)
order-listed P (w ∷ variables) v h k =
    elim (same_var w.var v) as (λ b. b || is_listed variables v ≡ true → P (cond b w.order (order_of variables v))) [
      | true ↦ λ e. h w (contains-head w variables)
      | false ↦ λ e. order-listed P variables v (λ u j. h u (contains-tail w variables u j)) e
    ] k

-- demands

beside-at : (owner c : Choice) → is_beside owner c ≡ true → IsBeside owner c
beside-at owner c h =
    let quals = is_eq (qual_cmp c.var.qual owner.var.qual) in
    let names = nat_eq c.var.«package» owner.var.«package» in
    record {
      same_qualifier = qual-is c.var.qual owner.var.qual (is-equal (qual_cmp c.var.qual owner.var.qual) ((and_parts quals names h).0));
      same_package = eqb-true c.var.«package» owner.var.«package» ((and_parts quals names h).1);
    }

beside-from : (owner c : Choice) → IsBeside owner c → is_beside owner c ≡ true
beside-from owner c h =
    and_from (is_eq (qual_cmp c.var.qual owner.var.qual)) (nat_eq c.var.«package» owner.var.«package»)
    (ap is_eq (ap (λ q. qual_cmp q owner.var.qual) h.same_qualifier ∙ qual-refl owner.var.qual))
    (eq-eqb c.var.«package» owner.var.«package» h.same_package)

empty-at : (when : List Choice) → is_empty when ≡ true → when ≡ []
empty-at [] h = refl
empty-at (c ∷ when) h = absurd (false≢true h)

record HasOwner (when : List Choice) : Type 0 where
  owner : Choice
  others : List Choice
  is : when ≡ owner ∷ others
  beside : All (IsBeside owner) others

condition-at : (when : List Choice) → is_condition when ≡ true → HasOwner when
condition-at [] h = absurd (false≢true h)
condition-at (owner ∷ others) h =
    record { owner = owner; others = others; is = refl; beside = all-where (IsBeside owner) others (λ c k. beside-at owner c (all-at (is_beside owner) others c h k)) }

condition-from : (when : List Choice) (owner : Choice) (others : List Choice) → when ≡ owner ∷ others → All (IsBeside owner) others → is_condition when ≡ true
condition-from when owner others e h = ap is_condition e ∙ all-from (is_beside owner) others (λ c k. beside-from owner c (All-contains (IsBeside owner) others c h k))

module _ (variables : List WrittenVar) (roots demands : List Demand) where
  abbrev written : Problem
  written = problem_of variables roots demands

  abbrev root_test : Demand → Bool
  root_test d = is_empty d.when && is_listed variables d.target

  abbrev demand_test : Demand → Bool
  demand_test d = is_condition d.when && is_listed variables d.target

  abbrev IsOwnedByOne : Demand → Type 0
  IsOwnedByOne d = (owner : Choice) × IsOwned written owner d

  root-at : (d : Demand) → root_test d ≡ true → IsRoot written d
  root-at d h = record { condition = empty-at d.when ((and_parts (is_empty d.when) (is_listed variables d.target) h).0); target = (and_parts (is_empty d.when) (is_listed variables d.target) h).1 }

  root-from : (d : Demand) → IsRoot written d → root_test d ≡ true
  root-from d h = and_from (is_empty d.when) (is_listed variables d.target) (ap is_empty h.condition) h.target

  demand-at : (d : Demand) → demand_test d ≡ true → IsOwnedByOne d
  demand-at d h =
      let has = condition-at d.when ((and_parts (is_condition d.when) (is_listed variables d.target) h).0) in
      (has.owner, record { others = has.others; condition = has.is; beside = has.beside; target = (and_parts (is_condition d.when) (is_listed variables d.target) h).1 })

  demand-from : (d : Demand) → IsOwnedByOne d → demand_test d ≡ true
  demand-from d h =
      and_from (is_condition d.when) (is_listed variables d.target) (condition-from d.when h.0 h.1.others h.1.condition h.1.beside) h.1.target

  abbrev front_test : Bool
  front_test = are_listed_once variables && list_all (λ w. is_order w.order) variables

  abbrev back_test : Bool
  back_test = list_all root_test roots && list_all demand_test demands

  pub tests-lawful : are_lawful variables roots demands ≡ true → AreLawful variables roots demands
  tests-lawful h =
      let front = (and_parts front_test back_test h).0 in
      let back = (and_parts front_test back_test h).1 in
      record {
        once = variables-at variables ((and_parts (are_listed_once variables) (list_all (λ w. is_order w.order) variables) front).0);
        orders = all-where (λ (w : WrittenVar). IsOrder w.order) variables
            (λ w k. order-at w.order (all-at (λ (u : WrittenVar). is_order u.order) variables w ((and_parts (are_listed_once variables) (list_all (λ u. is_order u.order) variables) front).1) k));
        roots_are = all-where (IsRoot written) roots (λ d k. root-at d (all-at root_test roots d ((and_parts (list_all root_test roots) (list_all demand_test demands) back).0) k));
        demands_are = all-where IsOwnedByOne demands (λ d k. demand-at d (all-at demand_test demands d ((and_parts (list_all root_test roots) (list_all demand_test demands) back).1) k));
      }

  pub lawful-tests : AreLawful variables roots demands → are_lawful variables roots demands ≡ true
  lawful-tests h =
      and_from front_test back_test
      (and_from (are_listed_once variables) (list_all (λ w. is_order w.order) variables) (variables-from variables h.once)
      (all-from (λ (w : WrittenVar). is_order w.order) variables (λ w k. order-from w.order (All-contains (λ (u : WrittenVar). IsOrder u.order) variables w h.orders k))))
      (and_from (list_all root_test roots) (list_all demand_test demands)
      (all-from root_test roots (λ d k. root-from d (All-contains (IsRoot written) roots d h.roots_are k)))
      (all-from demand_test demands (λ d k. demand-from d (All-contains IsOwnedByOne demands d h.demands_are k))))

  begins-same : (owner first : Choice) (others when : List Choice) → when ≡ first ∷ others → begins_with owner when ≡ true → first ≡ owner
  begins-same owner first others when e h =
      let both = sym (ap (begins_with owner) e) ∙ h in
      let vars = same_var-is first.var owner.var ((and_parts (same_var first.var owner.var) (nat_eq first.val owner.val) both).0) in
      let vals = eqb-true first.val owner.val ((and_parts (same_var first.var owner.var) (nat_eq first.val owner.val) both).1) in
      ap (λ v. choice_of v first.val) vars ∙ ap (choice_of owner.var) vals

  owned-at : (owner : Choice) → All IsOwnedByOne demands → All (IsOwned written owner) (filter (λ d. begins_with owner d.when) demands)
  owned-at owner h =
      all-where (IsOwned written owner) (filter (λ d. begins_with owner d.when) demands) (λ d k.
      let found = contains-filter (λ (e : Demand). begins_with owner e.when) demands d k in
      let one = All-contains IsOwnedByOne demands d h found.0 in
      subst (λ c. IsOwned written c d) (begins-same owner one.0 one.1.others d.when one.1.condition found.1) one.1)

  pub written_lawful : IsTrue (are_lawful variables roots demands) → Lawful (problem_of variables roots demands)
  written_lawful h =
      let laws = tests-lawful h in
      record {
        bounded = record {
          variables = map (λ (w : WrittenVar). w.var) variables;
          count = omega (arith, length-map variables (λ (w : WrittenVar). w.var));
          each = λ v known.
              let found = any-at (λ (w : WrittenVar). same_var w.var v) variables known in
              subst (λ u. Contains (map (λ (w : WrittenVar). w.var) variables) u) (same_var-is found.0.var v found.2) (map-contains (λ (w : WrittenVar). w.var) variables found.0 found.1);
        };
        order = λ v known trail choices. order-listed IsOrder variables v (λ w k. All-contains (λ (u : WrittenVar). IsOrder u.order) variables w laws.orders k) known;
        roots = laws.roots_are;
        demands = λ owner is. owned-at owner laws.demands_are;
      }
