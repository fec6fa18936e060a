use Rattle.std.proofs.Common.{◌++◌, ◌∷◌, [], ap, ◌∙◌}
use Rattle.version_range.specs.Cuts.{inside}
use Rattle.version_range.proofs.Intervals.{inside_two}
use Rattle.version_range.proofs.interval.between.Goals as goal

pub returns-clause-members : goal.returns-clause-members
returns-clause-members c = λ v.
    ap (λ l. inside l v) (c.in_ok-push-2.ensures.ok ∙ ap (λ l. l ++ c.args.high ∷ []) (c.in_ok-push.ensures.ok ∙ ap (λ l. l ++ c.args.low ∷ []) c.new-ends.ensures))
    ∙ inside_two c.args.low c.args.high c.requires.order v
