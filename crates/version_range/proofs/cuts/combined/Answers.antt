use Rattle.std.proofs.Common.{◌≡◌, ◌∷◌, ◌++◌, [], ap, sym, ◌∙◌}
use Rattle.std.specs.Option.{option_to_list}
use Rattle.version_range.specs.Cuts.{joined}
use Rattle.version_range.proofs.Joined.{joined_behind}
use Rattle.version_range.proofs.cuts.combined.Goals as goal

pub loop-second-preserved : goal.loop-second-preserved
loop-second-preserved c v =
    let j = c.args.joint in
    let rest = c.pop_front-in-loop-second.new.self.items in
    let merged = c.in_ok-merge.field-0 in
    let next = c.pop_front-in-Some in
    let first = c.unwrap-first-in-Some in
    let waiting : first.result ∷ next.new.self.items ≡ rest ++ merged ∷ [] =
    sym (next.ensures.items ∙ ap (λ o. option_to_list o ++ next.new.self.items) first.ensures) ∙ c.in_ok-push_back.ensures.items in
    ap (λ l. joined j l v) waiting
    ∙ joined_behind j c.loop-second.first c.in-Some.second merged rest v (c.in_ok-merge.ensures v)
    ∙ ap (λ l. joined j (c.loop-second.first ∷ l) v) (sym c.in-Some.ensures.items)
    ∙ c.loop-second.invariant v
