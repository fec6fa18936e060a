use Rattle.std.proofs.Common.{true, ap, ◌∙◌, ◌&&◌}
use Rattle.conditionals.specs.Paths.{clean_paths}
use Rattle.flatten.specs.WholeCondition.{whole_condition}
use Rattle.flatten.specs.Counting.{are_met, flags_of}
use Rattle.flatten.specs.Demands.{paths_at, stanza_of}
use Rattle.flatten.proofs.Counting.{any_is_met}
use Rattle.flatten.proofs.laws.counts_as_its_condition.Goals as goal

pub returns : goal.returns
returns c env at parts =
    any_is_met parts at.component.kind at.guarded.dep (clean_paths (paths_at env at))
    ∙ ap (λ b. are_met parts (stanza_of at.component.kind) && b) (c.some_path_holds.ensures env (whole_condition at.component at.guarded) true (flags_of parts))
