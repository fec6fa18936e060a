-- The sources of a variable among the active demands and the pending ones.
use Rattle.std.proofs.Common.{◌≡◌, ◌↔◌, ◌++◌, ◌∙◌, ℕ, List, sym, ap, subst}
use Rattle.std.specs.List.{Contains}
use Rattle.qualified_goals.specs.declared.variable.Var.{Var}
use Rattle.choice_problem.specs.declared.problem.Demand.{Demand}
use Rattle.choice_problem.specs.Conflict.{edges_of}
use Rattle.demand_cycles.specs.Cycles.{HasEdge}
use Rattle.choice_stack.specs.declared.addition.Addition.{Addition}
use Rattle.choice_stack.specs.Stack.{made, sources_on}
use Rattle.choice_stack.proofs.DemandGraphs.{sources-are}
use Rattle.validation.specs.View.{View}
use Rattle.validation.specs.Pending.{ArePending}
use Rattle.validation.proofs.Weighed.{edge-either, edge-left, edge-right, found-joined, pending-active}

-- edges of these demands lead from exactly these variables to the given one
abbrev pub AreSources : Var → List Demand → List Var → Type 0
AreSources to demands found = (v : Var) → (Contains found v) ↔ (HasEdge (edges_of demands) v to)

joined-sources : (to : Var) (active woken fresh : List Demand) (found : List Var) → AreSources to active found
    → AreSources to (active ++ (woken ++ fresh)) (found ++ (sources_on to woken ++ sources_on to fresh))
joined-sources to active woken fresh found first =
    let Leads = λ (ds : List Demand) (v : Var). HasEdge (edges_of ds) v to in
    found-joined Leads (λ xs ys v. edge-either xs ys v to) (λ xs ys v. edge-left xs ys v to) (λ xs ys v. edge-right xs ys v to) active woken fresh found (sources_on to woken)
    (sources_on to fresh) first (sources-are woken to) (sources-are fresh to)

-- of a pending choice
pub pending-sources : (s : View) (a : Addition) (woken fresh : List Demand) (count : ℕ) (now : View) (to : Var) (first found : List Var) → ArePending s a woken fresh count
    → made s a.choice a.demands ≡ now → AreSources to s.active first → found ≡ first ++ (sources_on to woken ++ sources_on to fresh) → AreSources to now.active found
pending-sources s a woken fresh count now to first found h view are is =
    let active = sym (pending-active s a woken fresh count h) ∙ ap (λ (x : View). x.active) view in
    subst (AreSources to now.active) (sym is)
    (subst (λ ds. AreSources to ds (first ++ (sources_on to woken ++ sources_on to fresh))) active (joined-sources to s.active woken fresh first are))
