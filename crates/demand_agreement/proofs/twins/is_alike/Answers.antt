use Rattle.std.proofs.Common.{◌∙◌, sym}
use Rattle.std.specs.Prelude.{option_to_list}
use Rattle.std.specs.List.{filter}
use Rattle.choice_problem.specs.Twins.{is_of_package}
use Rattle.demand_agreement.proofs.Alike.{alike-from, all-parts}
use Rattle.demand_agreement.proofs.twins.is_alike.Goals as goal

pub returns-then-all_have : goal.returns-then-all_have
returns-then-all_have c h =
    let v = c.args.v in
    let instances = filter (is_of_package v.«package») c.args.trail.now in
    let last = filter (is_of_package v.«package») (option_to_list c.instances_of-last.result.1) in
    alike-from c.args.trail.now v c.in-Some.value (sym c.is_whole.ensures ∙ c.if-not-is_whole.false)
    (all-parts c.in-Some.value instances c.instances_of-last.result.0.now last c.instances_of-last.ensures (sym c.all_have.ensures ∙ c.if-all_have.true) (sym c.may_have.ensures ∙ h))
    (sym c.value_of.ensures ∙ c.in-Some.is)
