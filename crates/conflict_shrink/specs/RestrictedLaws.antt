-- A restricted problem is lawful.
use Rattle.std.proofs.Common.{arith, ◌≡◌, true, List, filter, subst}
use Rattle.std.specs.List.{list_all, Contains, All}
use Rattle.std.proofs.lemmas.Bool.{and_parts}
use Rattle.std.proofs.lemmas.List.Elements.{All-contains}
use Rattle.qualified_goals.specs.declared.variable.Var.{Var}
use Rattle.qualified_goals.specs.Variable.{same_var}
use Rattle.qualified_goals.specs.SameVariable.{same_var-is}
use Rattle.choice_problem.specs.declared.problem.Choice.{Choice}
use Rattle.choice_problem.specs.declared.problem.Demand.{Demand}
use Rattle.choice_problem.specs.Problem.{Problem, IsChoice, IsRoot, IsOwned, Lawful}
use Rattle.choice_problem.specs.ConflictSet.{has}
use Rattle.common_laws.specs.Lists.{any-at, all-at, all-where, contains-filter}
use Rattle.conflict_shrink.specs.Restricted.{stays_in, restricted, are_known}

has-in : (set : List Var) (v : Var) → has set v ≡ true → Contains set v
has-in set v h =
    let found = any-at (λ (w : Var). same_var w v) set h in
    subst (Contains set) (same_var-is found.0 v found.2) found.1

module _ (p : Problem) (set : List Var) (are : are_known p set ≡ true) where
  pub known-in-whole : (v : Var) → has set v ≡ true → p.known v ≡ true
  known-in-whole v h = all-at p.known set v are (has-in set v h)

  -- a choice of the restricted problem is one of the whole one
  pub choice-in-whole : (c : Choice) → IsChoice (restricted p set) c → IsChoice p c
  choice-in-whole c is = record { variable = known-in-whole c.var is.variable; value = is.value }

  pub choices-in-whole : (trail : List Choice) → All (IsChoice (restricted p set)) trail → All (IsChoice p) trail
  choices-in-whole trail choices = all-where (IsChoice p) trail (λ c k. choice-in-whole c (All-contains (IsChoice (restricted p set)) trail c choices k))

  stays : (d : Demand) → stays_in set d ≡ true → has set d.target ≡ true
  stays d h = (and_parts (has set d.target) (list_all (λ (c : Choice). has set c.var) d.when) h).0

  root-stays : Lawful p → (d : Demand) → Contains (filter (stays_in set) p.roots) d → IsRoot (restricted p set) d
  root-stays lawful d k =
      let found = contains-filter (stays_in set) p.roots d k in
      record { condition = (All-contains (IsRoot p) p.roots d lawful.roots found.0).condition; target = stays d found.1 }

  owned-stays : Lawful p → (owner : Choice) → IsChoice p owner → (d : Demand) → Contains (filter (stays_in set) (p.demands owner)) d → IsOwned (restricted p set) owner d
  owned-stays lawful owner is d k =
      let found = contains-filter (stays_in set) (p.demands owner) d k in
      let owned = All-contains (IsOwned p owner) (p.demands owner) d (lawful.demands owner is) found.0 in
      record { others = owned.others; condition = owned.condition; beside = owned.beside; target = stays d found.1 }

  pub restricted_lawful : Lawful p → Lawful (restricted p set)
  restricted_lawful lawful = record {
    bounded = record { variables = set; count = omega arith; each = has-in set };
    order = λ v known trail choices. lawful.order v (known-in-whole v known) trail (choices-in-whole trail choices);
    roots = all-where (IsRoot (restricted p set)) (filter (stays_in set) p.roots) (root-stays lawful);
    demands = λ owner is. all-where (IsOwned (restricted p set) owner) (filter (stays_in set) (p.demands owner)) (owned-stays lawful owner (choice-in-whole owner is));
  }
