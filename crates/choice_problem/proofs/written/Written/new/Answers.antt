-- the test decides the laws
use Rattle.std.proofs.Common.{◌≡◌, List, refl, sym, ap, ◌∙◌}
use Rattle.std.proofs.lemmas.Bool.{false≢true}
use Rattle.choice_problem.specs.declared.problem.Demand.{Demand}
use Rattle.choice_problem.specs.declared.written.WrittenVar.{WrittenVar}
use Rattle.choice_problem.specs.Written.{are_lawful}
use Rattle.choice_problem.specs.WrittenLaws.{tests-lawful, lawful-tests}
use Rattle.choice_problem.proofs.written.Written.new.Goals as goal

same-test : (vs ws : List WrittenVar) (rs ss ds es : List Demand) → vs ≡ ws → rs ≡ ss → ds ≡ es → are_lawful vs rs ds ≡ are_lawful ws ss es
same-test vs ws rs ss ds es v r d = ap (λ x. are_lawful x rs ds) v ∙ ap (λ x. are_lawful ws x ds) r ∙ ap (are_lawful ws ss) d

pub returns-then-lawful : goal.returns-then-lawful
returns-then-lawful c =
    let same = same-test c.as_slice.result.now c.args.variables c.as_slice-2.result.now c.args.roots c.as_slice-3.result.now c.args.demands c.as_slice.ensures c.as_slice-2.ensures c.as_slice-3.ensures in
    (tests-lawful c.args.variables c.args.roots c.args.demands (sym same ∙ sym c.lawful.ensures ∙ c.if-lawful.true), refl)

pub returns-else-lawful : goal.returns-else-lawful
returns-else-lawful c laws =
    let same = same-test c.as_slice.result.now c.args.variables c.as_slice-2.result.now c.args.roots c.as_slice-3.result.now c.args.demands c.as_slice.ensures c.as_slice-2.ensures c.as_slice-3.ensures in
    false≢true (sym c.if-lawful.false ∙ c.lawful.ensures ∙ same ∙ lawful-tests c.args.variables c.args.roots c.args.demands laws)
