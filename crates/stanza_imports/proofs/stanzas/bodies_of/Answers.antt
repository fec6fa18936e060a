use Rattle.std.proofs.Common.{sym, subst, List, arith}
use Rattle.std.proofs.lemmas.List.{take_all}
use Rattle.section_syntax.specs.declared.part.Section.{Section}
use Rattle.stanza_imports.specs.Standing.{AreBodiesSoFar}
use Rattle.stanza_imports.proofs.Additions.{nothing_yet, stands}
use Rattle.common_laws.specs.Lists.{take_at}
use Rattle.stanza_imports.proofs.stanzas.bodies_of.Goals as goal

pub loop-section-init : goal.loop-section-init
loop-section-init c = nothing_yet _ c.new.ensures c.new-2.ensures.items

pub loop-section-preserved : goal.loop-section-preserved
loop-section-preserved c =
    subst (λ (v : List Section). AreBodiesSoFar v c.add.new.bodies) (sym (take_at c.args.sections.now c.loop-section.section-index c.section-item.result (omega arith) c.section-item.is))
    (c.in_ok-add.ensures _ c.loop-section.invariant)

pub returns : goal.returns
returns c =
    stands c.args.sections.now c.loop-section.bodies
    (subst (λ (v : List Section). AreBodiesSoFar v c.loop-section.bodies) (take_all c.loop-section.section-index c.args.sections.now (omega arith)) c.loop-section.invariant)
