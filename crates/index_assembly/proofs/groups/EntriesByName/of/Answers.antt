use Rattle.std.proofs.Common.{◌++◌, [], ◌∙◌, if◌then◌else◌}
use Rattle.index_assembly.proofs.Gathering.{named-more}
use Rattle.plan_types.specs.Bytes.{same_text}
use Rattle.index_assembly.proofs.groups.EntriesByName.of.Goals as goal

pub loop-entry-preserved : goal.loop-entry-preserved
loop-entry-preserved c = λ name.
    c.in_ok-add.ensures name
    ∙ (λ i. c.loop-entry.invariant name i ++ (if same_text (c.in_ok-name.ensures i) name then c.in_ok-alone.ensures i else []))
    ∙ named-more name c.loop-entry.yielded c.in-Some.entry
