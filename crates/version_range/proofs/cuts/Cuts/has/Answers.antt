use Rattle.std.proofs.Common.{rules, of_calls, ◌≡◌, true, ap, ◌∙◌}
use Rattle.std.specs.Ordering.{is_ge}
use Rattle.std.proofs.lemmas.List.Sorted.{IsPartitionPoint-from_clause}
use Rattle.std.proofs.lemmas.Bool.{and_parts}
use Rattle.plan_types.specs.Members.{order}
use Rattle.version_range.specs.Cuts.{rises, all_above, no_numbers, inside}
use Rattle.version_range.proofs.RisingEnds.{reached_first, inside_by_count}
use Rattle.version_range.proofs.cuts.Cuts.has.Goals as goal

pub returns : goal.returns
returns c =
    let v = c.args.v.now in
    let ends = c.as_slice.result.now in
    let cuts = c.self.inside.ends.items in
    let same : ends ≡ cuts = c.as_slice.ensures.value in
    let rise : rises ends ≡ true = ap rises same ∙ (and_parts (all_above no_numbers cuts) (rises cuts) c.self.invariant).1 in
    let point = IsPartitionPoint-from_clause (λ e. is_ge (order v.parts e.parts)) ends _ c.partition_point-reached.ensures.partitioned (reached_first v ends rise) (λ a r f k. search (rules, of_calls)) in
    inside_by_count v ends _ c.partition_point-reached.ensures.bound point ∙ ap (λ l. inside l v) (same ∙ c.self.view_is)
