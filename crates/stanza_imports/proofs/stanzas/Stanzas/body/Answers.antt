use Rattle.std.proofs.Common.{List, [], ◌∷◌, take, subst, ap, ◌∙◌, sym, arith}
use Rattle.std.proofs.lemmas.Grind.{flat_map-append}
use Rattle.std.proofs.lemmas.List.{take_all}
use Rattle.section_syntax.specs.declared.part.SectionPart.{SectionPart}
use Rattle.stanza_imports.specs.KnownStanzas.{all_replaced, replaced}
use Rattle.stanza_imports.specs.Standing.{ExpandsTo}
use Rattle.common_laws.specs.Lists.{take_at}
use Rattle.stanza_imports.proofs.stanzas.Stanzas.body.Goals as goal

pub loop-part-preserved : goal.loop-part-preserved
loop-part-preserved c known knows =
    let i = c.loop-part.part-index in
    subst (λ (v : List SectionPart). ExpandsTo c.args.self.now.bodies.items c.push.new.body v)
    (sym (ap (all_replaced known) (take_at c.args.parts.now i c.part-item.result (omega arith) c.part-item.is)
    ∙ flat_map-append (replaced known) (take i c.args.parts.now) (c.part-item.result ∷ [])))
    (c.in_ok-push.ensures known _ knows (c.loop-part.invariant known knows))

pub returns : goal.returns
returns c known knows =
    subst (λ (v : List SectionPart). ExpandsTo c.args.self.now.bodies.items c.loop-part.body v)
    (ap (all_replaced known) (take_all c.loop-part.part-index c.args.parts.now (omega arith)))
    (c.loop-part.invariant known knows)
