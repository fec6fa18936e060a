-- The problem of an index and a project is unique.
use Rattle.std.proofs.Common.{◌≡◌, ℕ, List, sym, ◌∙◌}
use Rattle.plan_types.specs.declared.index.Index.{Index}
use Rattle.plan_types.specs.declared.index.Instance.{Instance}
use Rattle.plan_types.specs.declared.project.Project.{Project}
use Rattle.plan_types.specs.declared.range.Range.{Range}
use Rattle.qualified_goals.specs.Names.{NameTable}
use Rattle.preferences.specs.declared.policy.Policy.{Policy}
use Rattle.preferences.specs.Places.{IsOrder}
use Rattle.choice_problem.specs.Problem.{Problem}
use Rattle.cabal_problem.specs.Problem.{IsProblemOf, problem_of}
use Rattle.cabal_problem.proofs.OneTable.{one_table}
use Rattle.cabal_problem.proofs.OneOrders.{one_orders}

pub one_made : (index : Index) (project : Project) (names others : NameTable) (p q : Problem)
    → ((policy : Policy) (preferred : List Range) (instances : List Instance) (a b : List ℕ) → IsOrder policy preferred instances a → IsOrder policy preferred instances b → a ≡ b)
    → IsProblemOf index project names p → IsProblemOf index project others q → (names ≡ others) × (p ≡ q)
one_made index project names others p q one is also =
    let packages = index.packages in
    let named = one_table packages names others is.numbers also.numbers in
    let ordered = one_orders project packages is.orders also.orders one is.orders_are also.orders_are in
    (named, is.problem_is ∙ (λ i. problem_of packages project (named i) (ordered i)) ∙ sym also.problem_is)
