use Rattle.std.proofs.Common.{◌∙◌, List, sym, ap, length}
use Rattle.std.proofs.lemmas.List.{length-map}
use Rattle.choice_problem.specs.declared.problem.Demand.{Demand}
use Rattle.choice_stack.specs.Stack.{demand_at}
use Rattle.choice_stack.proofs.picked.Picked.len.Goals as goal

pub returns : goal.returns
returns c =
    let i = c.self.inside in
    sym (length-map i.places.now (demand_at i.listed.now)) ∙ ap (λ (ds : List Demand). length ds) c.self.view_is
