use Rattle.std.proofs.Common.{◌∙◌, ◌+◌, ap, sym, drop, refl, arith}
use Rattle.description.proofs.RepeatedNames.{repeated-is, repeated_from}
use Rattle.description.specs.NamesBefore.{again}
use Rattle.description.specs.FaultOrder.{earlier, first}
use Rattle.description.proofs.FirstFaults.{first-append, earlier-earlier, earlier-none, earlier-of}
use Rattle.std.proofs.lemmas.List.{drop_all}
use Rattle.common_laws.specs.Lists.{drop_at}
use Rattle.description.proofs.faults.first_repeated.Goals as goal

pub loop-section-preserved : goal.loop-section-preserved
loop-section-preserved c =
    let loop = c.loop-section in
    let rest = drop (loop.section-index + 1) c.args.sections.now in
    let section = c.section-item.result in
    earlier-of (ap (λ v. earlier v (first (repeated_from c.args.class c.again.new.before rest))) (earlier-of c.earlier-found.ensures refl c.in_ok-again.ensures.found))
    refl (ap (λ b. first (repeated_from c.args.class b rest)) c.in_ok-again.ensures.names)
    ∙ sym (earlier-earlier loop.found (first (again c.args.class loop.before section)) (first (repeated_from c.args.class _ rest)))
    ∙ ap (earlier loop.found) (sym (first-append (again c.args.class loop.before section) _))
    ∙ ap (λ s. earlier loop.found (first (repeated_from c.args.class loop.before s))) (sym (drop_at c.args.sections.now loop.section-index section c.loop-section-test.true c.section-item.is))
    ∙ loop.invariant

pub returns : goal.returns
returns c =
    let loop = c.loop-section in
    sym (earlier-none loop.found)
    ∙ ap (λ s. earlier loop.found (first (repeated_from c.args.class loop.before s))) (sym (drop_all loop.section-index c.args.sections.now (omega arith)))
    ∙ loop.invariant
    ∙ ap first (sym (repeated-is c.args.class c.args.sections.now))
