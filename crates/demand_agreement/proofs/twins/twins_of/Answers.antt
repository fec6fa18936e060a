use Rattle.std.proofs.Common.{◌∙◌, ◌++◌, ◌∷◌, [], List, Option, append-nil, option_to_list, sym, ap}
use Rattle.std.specs.List.{filter}
use Rattle.choice_problem.specs.declared.problem.Choice.{Choice}
use Rattle.choice_problem.specs.Twins.{are_twins}
use Rattle.demand_agreement.proofs.Disagreements.{twins-split, none-from}
use Rattle.demand_agreement.proofs.twins.twins_of.Goals as goal
use Rattle.demand_agreement.proofs.twins.twins_of.Goals.{in-Some+in_ok-push_twin, in_default}

pub returns : goal.returns
returns c =
    let test = are_twins c.args.owner in
    let kept = c.instances_of-last.result.0.now in
    let split = twins-split c.args.owner c.args.trail.now kept c.instances_of-last.result.1 c.instances_of-last.ensures in
    (elim c.match-last.branch [
      | in-Some+in_ok-push_twin w ↦
          ap (λ v. v.items) w.found-is ∙ w.in_ok-push_twin.ensures ∙ ap (λ (l : List Choice). l ++ filter test (w.in-Some.c ∷ [])) c.in_ok-found.ensures
          ∙ ap (λ (o : Option Choice). filter test kept ++ filter test (option_to_list o)) (sym w.in-Some.is)
      | in_default w ↦ ap (λ v. v.items) w.found-is ∙ c.in_ok-found.ensures ∙ sym (append-nil (filter test kept))
          ∙ ap (λ (o : Option Choice). filter test kept ++ filter test (option_to_list o)) (sym (none-from c.instances_of-last.result.1 w.in_default.not-Some))
    ]) ∙ sym split
