-- The active demands of a state are the listed ones that are Yes.
use Rattle.std.proofs.Common.{◌≡◌, List, sym, ap, subst}
use Rattle.std.specs.List.{Contains}
use Rattle.choice_problem.specs.declared.problem.Demand.{Demand}
use Rattle.choice_problem.specs.Problem.{Problem, Lawful}
use Rattle.choice_problem.specs.Trail.{demands_after}
use Rattle.choice_problem.specs.Active.{active}
use Rattle.choice_problem.proofs.ActiveDemands.{active-is, yes-active}
use Rattle.choice_problem.proofs.TrailLemmas.{demand-after}
use Rattle.validation.specs.View.{View, Represents}
use Rattle.choice_stack.specs.Stack.{IsSettled}

pub settled : (p : Problem) (x : View) → Lawful p → Represents p x → IsSettled x
settled p x lawful h d =
    let listed : x.listed ≡ demands_after p x.trail = ap (λ (s : View). s.listed) h.same in
    let acts : x.active ≡ active p x.trail = ap (λ (s : View). s.active) h.same in (
      λ k.
          let is = active-is p lawful x.trail d (subst (λ (l : List Demand). Contains l d) acts k) in
          (subst (λ (l : List Demand). Contains l d) (sym listed) is.0, is.1),
      λ (k, now_yes). subst (λ (l : List Demand). Contains l d) (sym acts)
          (yes-active p lawful x.trail d (demand-after p x.trail d h.choices (subst (λ (l : List Demand). Contains l d) listed k)) now_yes),
    )
