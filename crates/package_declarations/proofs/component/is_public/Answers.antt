use Rattle.std.proofs.Common.{arith}
use Rattle.package_declarations.specs.Components.{visibility_of}
use Rattle.package_declarations.proofs.LastValues.{last_shown}
use Rattle.stanza_imports.specs.Bodies.{placed_part}
use Rattle.package_declarations.proofs.component.is_public.Goals as goal

pub loop-one-preserved : goal.loop-one-preserved
loop-one-preserved c = last_shown placed_part visibility_of c.args.placed.now c.loop-one.one-index c.one-item.result c.loop-one.public (omega arith) c.one-item.is c.visibility-public.ensures c.loop-one.invariant
