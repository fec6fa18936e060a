-- Groups of listed demands, one for each demand with a whole condition.
use Rattle.std.specs.Prelude.{◌≡◌, List, [], ◌∷◌, ◌++◌, Contains}
use Rattle.std.specs.List.{list_any}
use Rattle.choice_problem.specs.declared.problem.Choice.{Choice}
use Rattle.choice_problem.specs.declared.problem.Demand.{Demand}
use Rattle.choice_problem.specs.Assignment.{Assignment, is_yes}
use Rattle.choice_problem.specs.General.{Request, General, owner_of}
use Rattle.choice_problem.specs.Problem.{IsChoice, Problem}

-- a demand has the owner, the target and the allowed values of a request
pub record IsOfRequest (r : Request) (d : Demand) : Type 0 where
  pub owner : owner_of d.when ≡ r.owner
  pub target : d.target ≡ r.target
  pub allowed : d.allowed ≡ r.allowed

-- the demands of a request: each has its owner, target and values, and the request is Yes exactly if one of them is
pub record IsGroup (r : Request) (group : List Demand) : Type 0 where
  pub same : (d : Demand) → Contains group d → IsOfRequest r d
  pub yes : (A : Assignment) → r.is_yes A ≡ list_any (is_yes A) group

-- the demands are the groups of these requests, in their order
abbrev pub AreGroups : List Request → List Demand → Type 0
AreGroups [] demands = demands ≡ []
AreGroups (r ∷ requests) demands =
    (group : List Demand) × (rest : List Demand) × (demands ≡ group ++ rest) × IsGroup r group × AreGroups requests rest

-- the roots of a problem, and the demands of each choice, are the groups of those with whole conditions
pub record IsInGroups (g : General) (p : Problem) : Type 0 where
  pub roots : AreGroups g.roots p.roots
  pub demands : (owner : Choice) → IsChoice g owner → AreGroups (g.demands owner) (p.demands owner)
