use Rattle.std.proofs.Common.{ℕ, List, ◌++◌, map, flat_map, subst, ap, ◌∙◌, refl}
use Rattle.section_syntax.specs.declared.part.SectionPart.{SectionPart}
use Rattle.stanza_imports.specs.Imports.{under}
use Rattle.stanza_imports.specs.KnownStanzas.{parts_of}
use Rattle.stanza_imports.specs.Standing.{ExpandsTo}
use Rattle.stanza_imports.proofs.Additions.{imported, itself}
use Rattle.stanza_imports.proofs.stanzas.Stanzas.push.Goals as goal

pub returns-in_ok-import-in-Import : goal.returns-in_ok-import-in-Import
returns-in_ok-import-in-Import c known said knows means =
    let one : List ℕ → List SectionPart = λ name. map (under c.args.part.now.branches) (parts_of known name) in
    subst (λ (v : List SectionPart). ExpandsTo c.args.self.now.bodies.items c.import.new.body (said ++ v))
    (ap (flat_map one) c.as_slice.ensures ∙ imported known c.args.part.now c.in-Import.names c.in-Import.fits c.in-Import.is)
    (c.in_ok-import-in-Import.ensures known said knows means)

pub returns-in_ok-push_part-in_default : goal.returns-in_ok-push_part-in_default
returns-in_ok-push_part-in_default c known said knows means =
    subst (λ (v : List SectionPart). ExpandsTo c.args.self.now.bodies.items c.push_part.new.self (said ++ v))
    (itself known c.args.part.now c.args.part.now.said refl c.in_default.not-Import)
    (c.in_ok-push_part-in_default.ensures c.args.self.now.bodies.items said means)
