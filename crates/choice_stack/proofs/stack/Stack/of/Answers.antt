use Rattle.std.proofs.Common.{◌≡◌, ℕ, ◌-◌, ◌++◌, [], ◌∙◌, List, length, map, take, refl, sym, ap, subst, arith}
use Rattle.choice_problem.specs.declared.problem.Demand.{Demand}
use Rattle.goal_links.specs.declared.mentions.Mention.{Mention}
use Rattle.goal_links.specs.Mentions.{places_of}
use Rattle.choice_stack.specs.declared.stack.Mark.{Mark}
use Rattle.choice_stack.specs.Growth.{mentions_at}
use Rattle.choice_stack.specs.Stack.{rising_from}
use Rattle.choice_stack.specs.Stack.{AllBelow, demands_at, watchers_from}
use Rattle.choice_stack.proofs.StackLemmas.{parts-grow, parts-none, seen-same}
use Rattle.choice_stack.proofs.Grown.{all-demands, asked-same, below-all, grown-demands, grown-targets, targets-none}
use Rattle.choice_stack.proofs.stack.Stack.of.Goals as goal
use Rattle.choice_stack.proofs.stack.Stack.of.Goals.{In_ok-ready}

-- the roots, of which all are active
module _ (c : In_ok-ready) where
  abbrev fresh : List ℕ
  fresh = rising_from 0 (length c.args.roots - 0)

  abbrev asked : List Mention
  asked = mentions_at 0 [] [] ++ mentions_at 0 c.args.roots fresh

  listed-none : c.make_ready.new.listed.items ≡ []
  listed-none = c.make_ready.ensures.listed ∙ c.new-listed.ensures.items

  asked-is : take c.in_ok-ready.ready.active c.make_ready.new.goals.spare ≡ asked
  asked-is =
      let fresh-is : c.as_slice-2.result.now ≡ fresh =
      c.as_slice-2.ensures.value ∙ c.in_ok-push_range.ensures ∙ ap (λ (l : List ℕ). l ++ rising_from 0 (c.len.result - 0)) c.new-fresh.ensures.items
      ∙ ap (λ (n : ℕ). rising_from 0 (n - 0)) c.len.ensures in
      c.in_ok-ready.ensures.ready.active_is
      ∙ asked-same c.make_ready.new.listed.items [] c.as_slice.result.now c.args.roots [] [] c.as_slice-2.result.now fresh listed-none c.as_slice.ensures refl fresh-is

pub make_ready-requires-clause-fresh : goal.make_ready-requires-clause-fresh
make_ready-requires-clause-fresh c =
    let fresh : c.as_slice-2.result.now ≡ rising_from 0 (length c.args.roots - 0) =
    c.as_slice-2.ensures.value ∙ c.in_ok-push_range.ensures ∙ ap (λ (l : List ℕ). l ++ rising_from 0 (c.len.result - 0)) c.new-fresh.ensures.items
    ∙ ap (λ (n : ℕ). rising_from 0 (n - 0)) c.len.ensures in
    subst (λ (ds : List Demand). AllBelow (length ds) c.as_slice-2.result.now) (sym c.as_slice.ensures)
    (subst (AllBelow (length c.args.roots)) (sym fresh) (below-all 0 (length c.args.roots - 0) (length c.args.roots) (omega arith)))

pub invariant_of-result : goal.invariant_of-result
invariant_of-result c =
    let r = (goal.at.invariant_of-result c).In_ok-ready in
    let roots = c.args.roots in
    let waits_is : take c.in_ok-ready.ready.waiting c.make_ready.new.watchers.spare ≡ watchers_from 0 roots =
    c.in_ok-ready.ensures.ready.waiting_is ∙ ap (λ (ds : List Demand). watchers_from (length ds) c.as_slice.result.now) (listed-none r) ∙ ap (watchers_from 0) c.as_slice.ensures in
    let base = parts-none c.new-trail.result c.new.result.items [] [] [] c.make_ready.new.goals.row c.new-trail.ensures c.new.ensures.items refl refl refl
    (c.make_ready.ensures.linked ∙ c.new-goals.ensures.linked) in
    parts-grow c.new-trail.result c.new.result.items [] c.list_all.new.listed.items roots [] (asked r) c.activate.new.goals.said [] c.take_up_all.new.self.said
    c.make_ready.new.goals.row c.activate.new.goals.row base
    (c.list_all.ensures ∙ ap (λ (ds : List Demand). ds ++ roots) (listed-none r))
    (c.activate.ensures.active ∙ ap (λ (ms : List Mention). ms ++ take c.in_ok-ready.ready.active c.make_ready.new.goals.spare) (c.make_ready.ensures.said ∙ c.new-goals.ensures.said) ∙ asked-is r)
    (c.take_up_all.ensures ∙ ap (λ (ms : List Mention). ms ++ take c.in_ok-ready.ready.waiting c.make_ready.new.watchers.spare) (c.make_ready.ensures.watchers ∙ c.new-watchers.ensures.said) ∙ waits_is)
    (grown-targets [] roots [] [] (fresh r) (targets-none []) tt (below-all 0 (length roots - 0) (length roots) (omega arith)))
    c.activate.ensures.opened c.activate.ensures.kept

pub returns : goal.returns
returns c =
    let r = (goal.at.returns c).In_ok-ready in
    let roots = c.args.roots in
    let listed : c.list_all.new.listed.items ≡ roots = c.list_all.ensures ∙ ap (λ (ds : List Demand). ds ++ roots) (listed-none r) in
    let active : c.activate.new.goals.said ≡ asked r =
    c.activate.ensures.active ∙ ap (λ (ms : List Mention). ms ++ take c.in_ok-ready.ready.active c.make_ready.new.goals.spare) (c.make_ready.ensures.said ∙ c.new-goals.ensures.said) ∙ asked-is r in
    let whole : demands_at roots (places_of (asked r)) ≡ roots =
    grown-demands [] roots [] [] (fresh r) (targets-none []) tt (below-all 0 (length roots - 0) (length roots) (omega arith)) ∙ all-demands roots in
    seen-same c.new-trail.result [] c.list_all.new.listed.items roots (demands_at c.list_all.new.listed.items (places_of c.activate.new.goals.said)) roots
    (map (λ (k : Mark). k.listed) c.new.result.items) [] (map (λ (k : Mark). k.active) c.new.result.items) []
    c.new-trail.ensures listed
    (ap (λ (ds : List Demand). demands_at ds (places_of c.activate.new.goals.said)) listed ∙ ap (λ (ms : List Mention). demands_at roots (places_of ms)) active ∙ whole)
    (ap (map (λ (k : Mark). k.listed)) c.new.ensures.items) (ap (map (λ (k : Mark). k.active)) c.new.ensures.items)
