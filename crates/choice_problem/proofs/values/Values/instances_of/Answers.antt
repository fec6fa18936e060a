use Rattle.std.proofs.Common.{◌∙◌, List, ◌++◌, sym, ap, option_to_list}
use Rattle.std.specs.List.{filter}
use Rattle.std.proofs.lemmas.List.Elements.{filter-append}
use Rattle.choice_problem.specs.declared.problem.Choice.{Choice}
use Rattle.choice_problem.specs.Twins.{is_of_package}
use Rattle.choice_problem.proofs.values.Values.instances_of.Goals as goal

pub returns : goal.returns
returns c =
    let kept = c.self.inside.trail.now in
    let last = option_to_list c.self.inside.last in
    let test = is_of_package c.args.«package» in
    ap (filter test) (sym c.self.view_is) ∙ filter-append test kept last ∙ ap (λ (l : List Choice). l ++ filter test last) (sym c.instances_of.ensures)
