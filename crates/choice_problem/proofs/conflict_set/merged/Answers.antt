use Rattle.std.proofs.Common.{◌≡◌, List, None, ◌++◌, ◌∷◌, [], Some, length, sym, ap, ◌∙◌, arith, append_assoc}
use Rattle.std.proofs.lemmas.List.{append-nil}
use Rattle.qualified_goals.specs.declared.variable.Var.{Var}
use Rattle.choice_problem.specs.ConflictSet.{is_rising, union, front_of, behind}
use Rattle.choice_problem.proofs.VariableSets.{rising-set_of}
use Rattle.choice_problem.proofs.Merges.{behind-rising, behind-shorter, union-front, union-none}
use Rattle.choice_problem.proofs.conflict_set.merged.Goals as goal

pub loop-v-smaller : goal.loop-v-smaller
loop-v-smaller c =
    let left = c.loop-v.left.now in
    let right = c.loop-v.right.now in
    let v = c.in-Some.v in
    let front : front_of left right ≡ Some v = cc in
    let less = behind-shorter left right v front in
    omega (arith, less, ap length c.behind-left.ensures, ap length c.behind-right.ensures)

pub loop-v-preserved : goal.loop-v-preserved
loop-v-preserved c =
    let left = c.loop-v.left.now in
    let right = c.loop-v.right.now in
    let v = c.in-Some.v in
    let kept = c.loop-v.invariant in
    let front : front_of left right ≡ Some v = cc in
    record {
      rising_left = ap is_rising c.behind-left.ensures ∙ behind-rising v left kept.rising_left;
      rising_right = ap is_rising c.behind-right.ensures ∙ behind-rising v right kept.rising_right;
      whole =
          ap (λ l. l ++ union c.behind-left.result.now c.behind-right.result.now) c.in_ok-push.ensures.items
          ∙ append_assoc c.loop-v.both.items (v ∷ []) (union c.behind-left.result.now c.behind-right.result.now)
          ∙ ap (λ l. c.loop-v.both.items ++ (v ∷ union l c.behind-right.result.now)) c.behind-left.ensures
          ∙ ap (λ l. c.loop-v.both.items ++ (v ∷ union (behind v left) l)) c.behind-right.ensures
          ∙ ap (λ l. c.loop-v.both.items ++ l) (sym (union-front left right v kept.rising_left kept.rising_right front))
          ∙ kept.whole;
    }

-- nothing is left
whole-is : (both left right all : List Var) → front_of left right ≡ None → both ++ union left right ≡ all → both ≡ all
whole-is both left right all none whole = sym (append-nil both) ∙ ap (λ l. both ++ l) (sym (union-none left right none)) ∙ whole

pub returns-clause-both : goal.returns-clause-both
returns-clause-both c =
    whole-is c.loop-v.both.items c.loop-v.left.now c.loop-v.right.now (union c.args.left.now c.args.right.now) (sym c.front_of.ensures ∙ c.in_default.is) c.loop-v.invariant.whole

pub returns-clause-rising : goal.returns-clause-rising
returns-clause-rising c =
    ap is_rising (whole-is c.loop-v.both.items c.loop-v.left.now c.loop-v.right.now (union c.args.left.now c.args.right.now) (sym c.front_of.ensures ∙ c.in_default.is) c.loop-v.invariant.whole)
    ∙ rising-set_of (c.args.left.now ++ c.args.right.now)
