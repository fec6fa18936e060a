use Rattle.std.proofs.Common.{List, ◌++◌, ap, ◌∙◌, sym, map, arith}
use Rattle.section_syntax.specs.declared.part.SectionPart.{SectionPart}
use Rattle.stanza_imports.proofs.WalkSteps.{begun, with_frame, with_cost}
use Rattle.stanza_imports.specs.Bodies.{placed_part}
use Rattle.stanza_imports.proofs.stanzas.Stanzas.replaced.Goals as goal

pub loop-frame-init : goal.loop-frame-init
loop-frame-init c =
    begun c.args.self.now.bodies.items c.args.body.now _ c.new-placed.ensures.items c.new-frames.ensures.items c.in_ok-push.ensures.items c.new.ensures c.as_slice.ensures.value c.as_slice-2.ensures.value

pub loop-frame-smaller : goal.loop-frame-smaller
loop-frame-smaller c =
    let old = with_cost c.in-Some.frame c.pop.new.self.items c.in-Some.ensures.items in
    let less = c.in_ok-go_on.ensures.cost in
    omega arith

pub loop-frame-preserved : goal.loop-frame-preserved
loop-frame-preserved c =
    c.in_ok-go_on.ensures.parts
    ∙ ap (λ (v : List SectionPart). map placed_part c.loop-frame.placed.items ++ v) (sym (with_frame c.in-Some.frame c.pop.new.self.items c.in-Some.ensures.items))
    ∙ c.loop-frame.invariant
