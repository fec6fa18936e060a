use Rattle.std.proofs.Common.{◌≡◌, ◌+◌, ◌<◌, ◌++◌, ◌∷◌, [], ◌∙◌, List, length, sym, ap, take, arith, append-nil}
use Rattle.std.proofs.lemmas.List.{length-take, take_more}
use Rattle.choice_problem.specs.declared.problem.Choice.{Choice}
use Rattle.choice_problem.specs.declared.problem.Demand.{Demand}
use Rattle.goal_links.specs.declared.mentions.Mention.{Mention}
use Rattle.choice_stack.specs.Stack.{demand_at, no_demand, watchers_by, watchers_from}
use Rattle.choice_stack.proofs.StackLemmas.{waits-append}
use Rattle.choice_stack.proofs.growth.ready_watchers.Goals as goal

pub loop-index-preserved : goal.loop-index-preserved
loop-index-preserved c =
    let demands = c.args.demands.now in
    let k = c.loop-index.index in
    let d = demand_at demands k in
    let before = take k demands in
    let lt : k < length demands = c.loop-index-test.true in
    let count : length before ≡ k = omega (arith, length-take k demands, lt) in
    let more : watchers_from c.args.first (take (k + 1) demands) ≡ watchers_from c.args.first before ++ watchers_by (c.args.first + k) d.when =
    ap (watchers_from c.args.first) (take_more demands k no_demand lt) ∙ waits-append c.args.first before (d ∷ [])
    ∙ ap (λ ws. watchers_from c.args.first before ++ ws) (append-nil (watchers_by (c.args.first + length before) d.when))
    ∙ ap (λ n. watchers_from c.args.first before ++ watchers_by (c.args.first + n) d.when) count in
    record {
      said = c.ready_watchers_of.ensures.said ∙ c.loop-index.invariant.said;
      waiting =
          c.in_ok-count.ensures.waiting ∙ ap (λ (l : List Mention). l ++ watchers_by c.in_ok-place.place c.as_slice.result.now) c.loop-index.invariant.waiting
          ∙ ap (λ n. watchers_from c.args.first before ++ watchers_by n c.as_slice.result.now) c.in_ok-place.ensures
          ∙ ap (λ (when : List Choice). watchers_from c.args.first before ++ watchers_by (c.args.first + k) when) (c.as_slice.ensures ∙ ap (λ (x : Demand). x.when) c.demand_in-demand.ensures)
          ∙ sym more;
      within = c.in_ok-count.ensures.within;
    }
