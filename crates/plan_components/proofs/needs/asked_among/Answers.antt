use Rattle.std.proofs.Common.{ap, ◌∙◌}
use Rattle.std.specs.Prelude.{filter}
use Rattle.plan_components.specs.Known.{means_at}
use Rattle.plan_components.specs.Needs.{means}
use Rattle.plan_components.proofs.Naming.{among}
use Rattle.plan_components.proofs.needs.asked_among.Goals as goal

pub returns : goal.returns
returns c =
    let dep = c.args.dep.now in
    let components = c.args.components.now in
    let name = c.args.name.now in
    c.in_ok-found.ensures ∙ ap (filter (means_at dep components)) (c.named.ensures ∙ c.requires.named name) ∙ among (means dep.kind dep) name c.requires.names components
