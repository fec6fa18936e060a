-- the demands kept are those that stay in the set
use Rattle.std.proofs.Common.{rules, ap, ◌∙◌, filter}
use Rattle.std.proofs.lemmas.Fn.{filter_same}
use Rattle.conflict_shrink.specs.Restricted.{stays_in}
use Rattle.conflict_shrink.proofs.restricted.staying.Goals as goal

pub returns : goal.returns
returns c =
    c.from_vec.ensures ∙ filter_same _ (stays_in c.args.set.now) _ (λ x b f' k. search rules) _ _ c.retain.ensures.filtered
    ∙ ap (filter (stays_in c.args.set.now)) c.into_vec-demands.ensures
