use Rattle.std.proofs.Common.{◌&&◌, not, ◌∙◌, ap, sym}
use Rattle.plan_types.specs.declared.refusal.Cause.TheVariants as causes
use Rattle.package_declarations.specs.Declarations.{is_library, is_own, own_name}
use Rattle.description.specs.Faults.{at, has_good_name, unless}
use Rattle.description.specs.FaultOrder.{first}
use Rattle.description.proofs.FirstFaults.{at-append, earlier-of}
use Rattle.description.proofs.faults.of_name.Goals as goal

pub returns : goal.returns
returns c file tells =
    let section = c.args.section.now in
    earlier-of c.earlier.ensures
    (c.unless-form.ensures ∙ ap (λ b. first (at section.line (unless b causes.BadName))) (c.has_good_name-good.ensures ∙ ap (has_good_name section.kind) c.as_bytes.ensures))
    (c.unless-apart.ensures
    ∙ ap (λ b. first (at section.line (unless (not b) causes.DuplicateName)))
    (c.both.ensures ∙ ap (λ l. l && c.is_own-own.result) c.is_library-library.ensures ∙ ap (λ o. is_library section.kind && o) (c.is_own-own.ensures file tells)))
    ∙ sym (at-append section.line (unless (has_good_name section.kind section.name) causes.BadName) (unless (not (is_library section.kind && is_own (own_name file.heads) section.name)) causes.DuplicateName))
