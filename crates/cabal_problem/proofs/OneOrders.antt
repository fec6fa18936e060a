-- The table of the orders of an index is unique.
use Rattle.std.proofs.Common.{◌≡◌, ℕ, ◌<◌, List, [], length, sym, ◌∙◌, arith}
use Rattle.std.proofs.lemmas.List.{get_or_default, same_lists}
use Rattle.plan_types.specs.declared.index.Instance.{Instance}
use Rattle.plan_types.specs.declared.index.Package.{Package}
use Rattle.plan_types.specs.declared.project.Project.{Project}
use Rattle.plan_types.specs.declared.range.Range.{Range}
use Rattle.preferences.specs.declared.policy.Policy.{Policy}
use Rattle.preferences.specs.Places.{IsOrder}
use Rattle.solver_index.specs.Orders.{AreOrders, IsOrderOf, IsTable, instances_of, policy_of, preferred_of}
use Rattle.plan_types.specs.Packages.{package_at}

-- a table is unique if each of its rows is
one-rows : {X : Type 0} (n : ℕ) (Fits : ℕ → X → Type 0) (none : X) → ((k : ℕ) → k < n → (x y : X) → Fits k x → Fits k y → x ≡ y)
    → (rows others : List X) → IsTable n Fits none rows → IsTable n Fits none others → rows ≡ others
one-rows n Fits none one rows others is also =
    same_lists rows others (is.count ∙ sym also.count) (λ k d below.
    let low : k < n = omega (arith, below, is.count) in
    let there : k < length others = omega (arith, low, also.count) in
    get_or_default rows k d none below ∙ one k low _ _ (is.each k low) (also.each k low) ∙ sym (get_or_default others k d none there))

pub one_orders : (project : Project) (packages : List Package) (orders others : List (List ℕ))
    → ((policy : Policy) (preferred : List Range) (instances : List Instance) (a b : List ℕ) → IsOrder policy preferred instances a → IsOrder policy preferred instances b → a ≡ b)
    → AreOrders project packages orders → AreOrders project packages others → orders ≡ others
one_orders project packages orders others one are also =
    one-rows (length packages) (λ p values. IsOrderOf project (package_at packages p) values) [] (λ p low a b is other.
    let found = package_at packages p in
    one (policy_of project found) (preferred_of project found.name) (instances_of found) a b is other) orders others are also
