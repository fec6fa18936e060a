use Rattle.std.proofs.Common.{ℕ, sym, subst, ap, ◌∙◌}
use Rattle.std.specs.declared.result.Result.TheVariants.{Err}
use Rattle.plan_types.specs.Refusal.{RefusesAt}
use Rattle.plan_types.specs.declared.refusal.Cause.{Cause}
use Rattle.component_cycle.specs.Cycle.{IsFirstOnCycle}
use Rattle.package_declarations.specs.Cycles.{needs}
use Rattle.package_declarations.specs.Declarations.{own_name}
use Rattle.description.specs.Description.{IsFaultlessOutcome, version_of}
use Rattle.description.specs.FaultOrder.{is_at}
use Rattle.description.proofs.CircularComponents.{comes-circular}
use Rattle.stanza_imports.specs.Bodies.{AreBodiesOf}
use Rattle.package_declarations.specs.DeclaredNames.{shown, RepresentsNames}
use Rattle.description.specs.ShownVersion.{shown_version}
use Rattle.description.proofs.read.faultless.Goals as goal

pub returns-in-Some-2-clause-fault : goal.returns-in-Some-2-clause-fault
returns-in-Some-2-clause-fault c =
    let file = c.args.file.now in
    let d = c.in_ok-described.described in
    let number = c.in-Some-2.number in
    let At : ℕ → Cause → Type 0 = λ line cause. RepresentsNames c.args.declared.now file → AreBodiesOf file.sections c.args.bodies.now
    → IsFaultlessOutcome file c.args.digest (own_name file.heads) (version_of file.heads) (Err (is_at line cause)) in
    subst (RefusesAt At) (sym c.circular.ensures) (λ tells stand.
    comes-circular file c.args.digest c.in-Some.name.now c.in-Some-version_of.version.now (own_name file.heads) (version_of file.heads) d
    c.as_slice-in-Some-2.result.now c.in_ok-number.field-0 number
    (sym tells.name ∙ ap shown c.in-Some.is)
    (ap version_of (sym c.as_slice.ensures) ∙ sym c.version_of.ensures ∙ ap shown_version c.in-Some-version_of.is)
    (c.in_ok-described.ensures (c.in_ok-components.ensures file tells stand c.requires))
    c.as_slice-in-Some-2.ensures
    (subst (λ cs. IsFirstOnCycle (needs cs) c.in_ok-number.field-0) (c.as_slice-2.ensures ∙ sym c.as_slice-in-Some-2.ensures) c.in_ok-number.ensures)
    c.in-Some-2.is)
