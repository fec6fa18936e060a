use Rattle.std.proofs.Common.{ap, ◌∙◌}
use Rattle.stanza_imports.specs.Names.{number_of}
use Rattle.stanza_imports.proofs.NameList.{position-shown}
use Rattle.plan_types.specs.Bytes.{same_text}
use Rattle.stanza_imports.proofs.name_set.NameSet.number_of.Goals as goal

pub returns : goal.returns
returns c = c.get_index_of.ensures.index ∙ position-shown (λ k. k.now) (same_text c.args.name.now) c.self.inside.set.keys ∙ ap (λ n. number_of n c.args.name.now) c.self.view_is
