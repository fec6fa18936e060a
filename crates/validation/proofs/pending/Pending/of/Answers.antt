use Rattle.std.proofs.Common.{◌∙◌, ℕ, ◌+◌, List, sym, ap, subst, length}
use Rattle.choice_problem.specs.declared.problem.Demand.{Demand}
use Rattle.choice_stack.specs.Stack.{AllBelow, demands_at}
use Rattle.validation.proofs.pending.Pending.of.Goals as goal

pub of-woken-requires : goal.of-woken-requires
of-woken-requires c =
    subst (λ (ds : List Demand). AllBelow (length ds) c.as_slice.result.now) (sym c.listed.ensures)
    (subst (AllBelow (length c.args.stack.now.listed)) (sym c.as_slice.ensures.value) c.requires.turned.woken.within)

pub of-fresh-requires : goal.of-fresh-requires
of-fresh-requires c =
    subst (λ (ds : List Demand). AllBelow (length ds) c.as_slice-3.result.now) (sym c.as_slice-2.ensures)
    (subst (AllBelow (length c.args.addition.now.demands)) (sym c.as_slice-3.ensures.value) c.requires.turned.fresh.within)

pub invariant_of-result : goal.invariant_of-result
invariant_of-result c = record {
  free = c.requires.free;
  settled = c.requires.settled;
  owned = c.requires.owned;
  woken_is =
      c.of-woken.ensures ∙ ap (λ (ds : List Demand). demands_at ds c.as_slice.result.now) c.listed.ensures
      ∙ ap (demands_at c.args.stack.now.listed) c.as_slice.ensures.value ∙ c.requires.turned.woken.turned_is;
  fresh_is =
      c.of-fresh.ensures ∙ ap (λ (ds : List Demand). demands_at ds c.as_slice-3.result.now) c.as_slice-2.ensures
      ∙ ap (demands_at c.args.addition.now.demands) c.as_slice-3.ensures.value ∙ c.requires.turned.fresh.turned_is;
  counted =
      c.in_ok-count.ensures ∙ ap (λ (n : ℕ). n + (c.len.result + c.len-2.result)) c.count.ensures
      ∙ ap (λ (n : ℕ). length c.args.stack.now.active + (n + c.len-2.result)) c.len.ensures
      ∙ ap (λ (n : ℕ). length c.args.stack.now.active + (length c.of-woken.result + n)) c.len-2.ensures;
}
