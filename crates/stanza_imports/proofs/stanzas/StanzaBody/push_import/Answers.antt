use Rattle.std.proofs.Common.{ap, sym, ◌∙◌, map}
use Rattle.std.proofs.lemmas.Bool.{lt-ltb}
use Rattle.stanza_imports.specs.Imports.{under}
use Rattle.stanza_imports.specs.Standing.{joined, summary_under}
use Rattle.stanza_imports.proofs.BodyMeanings.{means_more, summary-under}
use Rattle.stanza_imports.specs.declared.stanzas.ImportStep.TheVariants as step
use Rattle.stanza_imports.proofs.stanzas.StanzaBody.push_import.Goals as goal

pub returns : goal.returns
returns c stanzas said parts means below is told =
    let branches = c.args.branches.now in
    means_more stanzas c.args.self.now _ said (map (under branches) parts) (step.Import c.args.stanza c.args.branches) c.in_ok-push.ensures.items
    (ap (map (under branches)) is) (lt-ltb _ _ below)
    (c.joined-self.ensures
    ∙ ap (joined c.args.self.now.summary)
    (c.under-imported.ensures ∙ (λ i. summary_under (c.as_slice.ensures i) (told i)) ∙ sym (summary-under branches parts))) means
