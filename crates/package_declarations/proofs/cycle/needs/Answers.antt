use Rattle.std.proofs.Common.{◌≡◌, ◌∙◌, map}
use Rattle.std.proofs.lemmas.Result.{IfOk-weaker}
use Rattle.package_declarations.specs.Cycles.{needs}
use Rattle.package_declarations.specs.Numbers.{number_at, needs_by}
use Rattle.package_declarations.proofs.Numbering.{needs-are}
use Rattle.package_declarations.proofs.cycle.needs.Goals as goal

pub returns : goal.returns
returns c =
    let table = c.in_ok-numbers.numbers in
    let components = c.args.components.now in
    IfOk-weaker c.needs.result (λ found. found.items ≡ map (needs_by (number_at table)) components) (λ found. found.items ≡ needs components)
    (λ found e. e ∙ needs-are table components c.in_ok-numbers.ensures) c.needs.ensures
