use Rattle.std.proofs.Common.{◌++◌, ◌∙◌, ap}
use Rattle.std.specs.Prelude.{flat_map}
use Rattle.std.proofs.lemmas.Result.{IfOk-weaker}
use Rattle.index_files.specs.Names.{is_listed}
use Rattle.index_assembly.specs.Groups.{held}
use Rattle.index_assembly.specs.Index.{is_extra, warnings_of}
use Rattle.index_assembly.proofs.Made.{index-is}
use Rattle.index_assembly.proofs.index.index_of.Goals as goal

pub returns : goal.returns
returns c =
    let warned = c.in_ok-local_entries.ensures.warnings ∙ ap (λ l. l ++ flat_map warnings_of c.args.readings.locals) c.new-warnings.ensures in
    IfOk-weaker c.in_order.result _ _
    (index-is c.args.extra.now c.args.readings (is_listed c.in_ok-extra.extra.keys) (held c.in_ok-locals.locals) (held c.in_ok-units.units)
    c.in_ok-local_entries.local_entries c.in_ok-unit_entries.unit_entries c.local_entries.new.warnings c.in_ok-gathered.gathered
    c.in_ok-local_entries.ensures.entries c.in_ok-unit_entries.ensures c.in_ok-locals.ensures c.in_ok-units.ensures
    (λ name. c.in_ok-extra.ensures name ∙ ap (λ extra. is_extra extra name) c.as_slice.ensures) c.in_ok-gathered.ensures warned)
    c.in_order.ensures
