use Rattle.std.proofs.Common.{Err, ap, ◌∙◌}
use Rattle.std.proofs.lemmas.Result.{err_from_is_err_and}
use Rattle.constraint_text.proofs.OneRelax.{refused_reading, refused_fault, given_reading, no_fault}
use Rattle.constraint_text.proofs.relax.read_relax.Goals as goal

pub returns-in_err-each-clause-exactly_entries : goal.returns-in_err-each-clause-exactly_entries
returns-in_err-each-clause-exactly_entries c =
    let p = err_from_is_err_and c.from_residual.result c.from_residual.ensures.1 in
    refused_reading c.args.text.now c.from_residual.result c.in_err-each.field-0.0 (p.1 ∙ ap Err p.2) c.in_err-each.ensures.fault

pub returns-in_err-each-clause-exactly_faults : goal.returns-in_err-each-clause-exactly_faults
returns-in_err-each-clause-exactly_faults c =
    let p = err_from_is_err_and c.from_residual.result c.from_residual.ensures.1 in
    refused_fault c.args.text.now c.from_residual.result c.in_err-each.field-0.0 (p.1 ∙ ap Err p.2) c.in_err-each.ensures.fault

pub returns-clause-exactly_entries : goal.returns-clause-exactly_entries
returns-clause-exactly_entries c = given_reading c.args.text.now c.in_ok-each.each c.in_ok-found.found c.in_ok-each.ensures.found c.in_ok-found.ensures

pub returns-clause-exactly_faults : goal.returns-clause-exactly_faults
returns-clause-exactly_faults c = no_fault c.args.text.now c.in_ok-each.each c.in_ok-each.ensures.found
