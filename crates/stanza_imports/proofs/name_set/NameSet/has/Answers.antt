use Rattle.std.proofs.Common.{ap, ◌∙◌}
use Rattle.stanza_imports.specs.Names.{has}
use Rattle.stanza_imports.proofs.NameList.{any-shown}
use Rattle.plan_types.specs.Bytes.{same_text}
use Rattle.stanza_imports.proofs.name_set.NameSet.has.Goals as goal

pub returns : goal.returns
returns c = c.contains.ensures ∙ any-shown (λ k. k.now) (same_text c.args.name.now) c.self.inside.set.keys ∙ ap (λ n. has n c.args.name.now) c.self.view_is
