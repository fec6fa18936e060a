use Rattle.std.proofs.Common.{ap, ◌∙◌, [], ◌∷◌, refl}
use Rattle.stanza_imports.specs.Standing.{joined}
use Rattle.stanza_imports.proofs.BodyMeanings.{means_more}
use Rattle.stanza_imports.specs.declared.stanzas.ImportStep.TheVariants as step
use Rattle.stanza_imports.proofs.stanzas.StanzaBody.push_part.Goals as goal

pub returns : goal.returns
returns c stanzas said means =
    means_more stanzas c.args.self.now _ said (c.args.part.now ∷ []) (step.Part c.args.part) c.in_ok-push.ensures.items
    refl refl (c.joined-self.ensures ∙ ap (joined c.args.self.now.summary) c.of.ensures) means
