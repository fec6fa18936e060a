use Rattle.std.proofs.Common.{◌≡◌, ℕ, ◌+◌, ◌++◌, ◌∷◌, [], ◌∙◌, List, get_or, length, map, refl, sym, ap, take, append_assoc}
use Rattle.std.proofs.lemmas.List.{map-append, take_more}
use Rattle.goal_links.specs.Mentions.{mention_of}
use Rattle.goal_links.specs.declared.mentions.Mention.{Mention}
use Rattle.choice_stack.specs.Growth.{mentions_at}
use Rattle.choice_stack.specs.Stack.{demand_at}
use Rattle.choice_stack.proofs.DemandPlaces.{below-at}
use Rattle.choice_stack.proofs.growth.ready_goals.Goals as goal

pub mention_at-requires : goal.mention_at-requires
mention_at-requires c = below-at (length c.args.demands.now) c.args.places.now c.loop-place.place-index c.requires.within c.loop-place-test.true

pub returns-in_err-count-clause-kept : goal.returns-in_err-count-clause-kept
returns-in_err-count-clause-kept c n v sides test k = c.prepare.ensures.kept n v sides refl (c.loop-place.invariant.kept n v sides refl k)

pub loop-place-preserved : goal.loop-place-preserved
loop-place-preserved c =
    let places = c.args.places.now in
    let k = c.loop-place.place-index in
    let mention : ℕ → Mention = λ n. mention_of (demand_at c.args.demands.now n).target (c.args.first + n) in
    let front = take c.args.before c.args.goals.now.spare in
    let more : mentions_at c.args.first c.args.demands.now (take (k + 1) places) ≡ mentions_at c.args.first c.args.demands.now (take k places) ++ mention (get_or places k 0) ∷ [] =
    ap (map mention) (take_more places k 0 c.loop-place-test.true) ∙ map-append mention (take k places) (get_or places k 0 ∷ []) in
    record {
      said = c.prepare.ensures.said ∙ c.loop-place.invariant.said;
      linked = c.prepare.ensures.linked ∙ c.loop-place.invariant.linked;
      kept = λ n v sides test h. c.prepare.ensures.kept n v sides refl (c.loop-place.invariant.kept n v sides refl h);
      active =
          c.in_ok-count.ensures.spare ∙ ap (λ (l : List Mention). l ++ c.in_ok-mention.mention ∷ []) c.loop-place.invariant.active
          ∙ ap (λ (m : Mention). (front ++ mentions_at c.args.first c.args.demands.now (take k places)) ++ m ∷ []) c.in_ok-mention.ensures
          ∙ append_assoc front (mentions_at c.args.first c.args.demands.now (take k places)) (mention (get_or places k 0) ∷ [])
          ∙ ap (λ (l : List Mention). front ++ l) (sym more);
      within = c.in_ok-count.ensures.ready;
    }
