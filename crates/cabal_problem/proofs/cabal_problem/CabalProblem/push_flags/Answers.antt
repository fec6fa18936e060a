use Rattle.std.proofs.Common.{◌<◌, ◌++◌, length, get_or, take, ap, ◌∙◌, sym, append_assoc, arith}
use Rattle.cabal_problem.specs.Rows.{flag_row, in_pairs}
use Rattle.cabal_problem.proofs.RowDemands.{pairs-more}
use Rattle.std.proofs.lemmas.List.{get_or_default}
use Rattle.cabal_problem.proofs.cabal_problem.CabalProblem.push_flags.Goals as goal

pub loop-place-preserved : goal.loop-place-preserved
loop-place-preserved c =
    let i = c.loop-place.place in
    let flags = c.args.flags.now in
    let numbers = c.args.numbers.now in
    let make = flag_row c.args.self.now.settings.now.project c.args.self.now.names c.args.owner in
    let decl = c.index-flags-place.result in
    let number = get_or numbers i 0 in
    let within : i < length numbers = omega (arith, c.requires, c.loop-place-test.true) in
    c.in_ok-push_flag.ensures ∙ ap (λ l. l ++ make decl number) c.loop-place.invariant ∙ append_assoc c.args.found.now (in_pairs make (take i flags) (take i numbers)) (make decl number)
    ∙ ap (λ l. c.args.found.now ++ l) (sym (pairs-more make flags numbers i decl number c.loop-place-test.true c.index-flags-place.is within (get_or_default numbers i 0 number within)))
