-- the first open one is the first of the rest
use Rattle.std.proofs.Common.{◌≡◌, find}
use Rattle.choice_problem.specs.Problem.{Problem, Lawful}
use Rattle.choice_problem.specs.Active.{is_open}
use Rattle.validation.specs.View.{Represents}
use Rattle.count_search.proofs.ranks.first_in.Given as goal

abbrev pub invariant-loop-rank : goal.invariant-loop-rank
invariant-loop-rank l =
    (p : Problem) → Lawful p → Represents p l.state
    → find (λ r. is_open p l.state.trail r.var) l.tree.keys ≡ find (λ r. is_open p l.state.trail r.var) l.rank-iterator
