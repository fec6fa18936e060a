use Rattle.std.proofs.Common.{◌||◌, ◌&&◌, ◌∙◌, ap, sym}
use Rattle.stanza_imports.specs.Names.{has}
use Rattle.stanza_imports.proofs.NameList.{has-with}
use Rattle.plan_types.specs.Bytes.{same_text}
use Rattle.package_declarations.proofs.declarations.put.Goals as goal

pub returns-in_ok-insert : goal.returns-in_ok-insert
returns-in_ok-insert c other =
    ap (λ n. has n other) c.in_ok-insert.ensures.names ∙ has-with c.args.names.now c.args.name.now other
    ∙ ap (λ w. has c.args.names.now other || (w && same_text other c.args.name.now)) (sym c.if-wanted.true)
