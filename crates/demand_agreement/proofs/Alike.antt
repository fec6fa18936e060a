-- Where all instances of a package have one value, none of them differs.
use Rattle.std.proofs.Common.{◌≡◌, ℕ, true, false, not, cond, List, [], ◌∷◌, ◌++◌, Some, None, refl, sym, ap, ◌∙◌, subst}
use Rattle.std.specs.Prelude.{nat_eq}
use Rattle.std.specs.List.{filter, flat_map, list_all}
use Rattle.std.proofs.lemmas.Bool.{eqb-true, eq-eqb, and_from}
use Rattle.qualified_goals.specs.declared.variable.Var.{Var}
use Rattle.qualified_goals.specs.Variable.{same_var}
use Rattle.choice_problem.specs.declared.problem.Choice.{Choice}
use Rattle.choice_problem.specs.declared.problem.Demand.{Demand}
use Rattle.choice_problem.specs.Trail.{choice_of, value_in}
use Rattle.choice_problem.specs.Twins.{are_twins, differ, is_of_package, is_whole, under}
use Rattle.choice_problem.proofs.TrailLemmas.{value_in-made}
use Rattle.common_laws.specs.Lists.{all-append, all-at, filter-contains}
use Rattle.demand_agreement.specs.Alike.{IsAlike, has_value}
use Rattle.demand_agreement.specs.Clashes.{apart_by, apart_from, is_first}
use Rattle.demand_agreement.specs.Places.{demand_at, places_on}

-- a variable of the package has this value or none
pub value-same : (trail : List Choice) (w : Var) (n m : ℕ) → is_whole w.part ≡ true → list_all (has_value n) (filter (is_of_package w.«package») trail) ≡ true
    → value_in trail w ≡ Some m → m ≡ n
value-same trail w n m whole all is =
    let test = is_of_package w.«package» in
    let own = and_from (is_whole w.part) (nat_eq w.«package» w.«package») whole (eq-eqb w.«package» w.«package» refl) in
    eqb-true m n (all-at (has_value n) (filter test trail) (choice_of w m) all (filter-contains test trail (choice_of w m) (value_in-made trail w m is) own))

pub alike-from : (trail : List Choice) (v : Var) (n : ℕ) → is_whole v.part ≡ true → list_all (has_value n) (filter (is_of_package v.«package») trail) ≡ true
    → value_in trail v ≡ Some n → IsAlike trail v
alike-from trail v n whole all is c =
    elim (value_in trail (under c v)) as (λ o. value_in trail (under c v) ≡ o → differ (value_in trail v) o ≡ false) [
      | None ↦ λ e. ap (λ o. differ o None) is
      | Some m ↦ λ e. ap (λ o. differ o (Some m)) is
          ∙ ap (λ b. not b) (eq-eqb n m (sym (value-same trail (under c v) n m whole all e)))
    ] refl

-- both parts of the instances have the value
pub all-parts : (n : ℕ) (instances kept : List Choice) (last : List Choice) → instances ≡ kept ++ last → list_all (has_value n) kept ≡ true → list_all (has_value n) last ≡ true
    → list_all (has_value n) instances ≡ true
all-parts n instances kept last e k l =
    ap (list_all (has_value n)) e ∙ all-append (has_value n) kept last ∙ and_from (list_all (has_value n) kept) (list_all (has_value n) last) k l

-- no demand of a twin disagrees
none-by : (trail : List Choice) (demands : List Demand) (target : Var) (twins : List Choice) → IsAlike trail target → flat_map (apart_by trail demands target) twins ≡ []
none-by trail demands target [] alike = refl
none-by trail demands target (twin ∷ twins) alike =
    subst (λ b. cond b (filter (λ k. is_first twin (demand_at demands k).when) (places_on (under twin target) demands)) [] ++ flat_map (apart_by trail demands target) twins ≡ [])
    (sym (alike twin)) (none-by trail demands target twins alike)

pub none-apart : (trail : List Choice) (demands : List Demand) (owner : Choice) (target : Var) → IsAlike trail target → apart_from trail demands owner target ≡ []
none-apart trail demands owner target alike =
    elim (same_var (under owner target) target) as (λ b. cond b (flat_map (apart_by trail demands target) (filter (are_twins owner) trail)) [] ≡ []) [
      | true ↦ none-by trail demands target (filter (are_twins owner) trail) alike
      | false ↦ refl
    ]
