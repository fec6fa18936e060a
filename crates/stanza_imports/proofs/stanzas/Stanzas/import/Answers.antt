use Rattle.std.proofs.Common.{ℕ, List, ◌++◌, map, flat_map, subst, ap, arith}
use Rattle.std.proofs.lemmas.List.{take_all}
use Rattle.section_syntax.specs.declared.part.SectionPart.{SectionPart}
use Rattle.stanza_imports.specs.Imports.{under}
use Rattle.stanza_imports.specs.KnownStanzas.{parts_of}
use Rattle.stanza_imports.specs.Standing.{ExpandsTo}
use Rattle.stanza_imports.proofs.PushedParts.{more_taken}
use Rattle.stanza_imports.proofs.stanzas.Stanzas.import.Goals as goal

pub loop-name-preserved : goal.loop-name-preserved
loop-name-preserved c known said knows means =
    let one : List ℕ → List SectionPart = λ name. map (under c.args.branches.now) (parts_of known name) in
    subst (λ (v : List SectionPart). ExpandsTo c.args.self.now.bodies.items c.import_one.new.body v)
    (more_taken one said c.args.names.now c.loop-name.name-index c.name-item.result (omega arith) c.name-item.is)
    (c.in_ok-import_one.ensures known _ knows (c.loop-name.invariant known said knows means))

pub returns : goal.returns
returns c known said knows means =
    let one : List ℕ → List SectionPart = λ name. map (under c.args.branches.now) (parts_of known name) in
    subst (λ (v : List SectionPart). ExpandsTo c.args.self.now.bodies.items c.loop-name.body v)
    (ap (λ (v : List (List ℕ)). said ++ flat_map one v) (take_all c.loop-name.name-index c.args.names.now (omega arith)))
    (c.loop-name.invariant known said knows means)
