use Rattle.std.proofs.Common.{List, ap, ◌∙◌}
use Rattle.std.specs.Prelude.{find}
use Rattle.std.proofs.lemmas.List.{get_or_read}
use Rattle.plan_types.specs.declared.description.FlagDecl.{FlagDecl}
use Rattle.plan_types.specs.declared.index.Entry.{Entry}
use Rattle.plan_types.specs.Packages.{declared_by}
use Rattle.solver_index.specs.Defaults.{AreDefaultsOf, default_in, has_number}
use Rattle.solver_index.specs.Places.{entry_at, no_entry}
use Rattle.solver_index.proofs.RowLaws.{rows_pushed}
use Rattle.solver_index.proofs.defaults.defaults_in.Goals as goal

pub loop-entry-preserved : goal.loop-entry-preserved
loop-entry-preserved c =
    let n = c.loop-entry.entry-index in
    let entries = c.args.entries.now in
    let names = c.args.names.now in
    let here = get_or_read entries n c.entry-item.result c.loop-entry-test.true c.entry-item.is no_entry in
    rows_pushed n (λ i. AreDefaultsOf names (entry_at entries i)) c.loop-entry.row c.push.new.self c.in_ok-flag_defaults.field-0 c.in_ok-push.ensures.ok c.loop-entry.invariant
    (λ f.
    c.in_ok-flag_defaults.ensures f ∙ ap (λ (flags : List FlagDecl). default_in (find (has_number names f) flags)) (c.declared_flags.ensures ∙ ap (λ (e : Entry). declared_by e.body) here))
