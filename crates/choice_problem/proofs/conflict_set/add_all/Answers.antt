use Rattle.std.proofs.Common.{◌++◌, drop, sym, ap, ◌∙◌, arith}
use Rattle.std.proofs.Math.Seq.{drop-length}
use Rattle.choice_problem.specs.ConflictSet.{is_rising, set_of}
use Rattle.choice_problem.proofs.VariableSets.{rising-set_of, set_of-rising}
use Rattle.choice_problem.proofs.conflict_set.add_all.Goals as goal

pub loop-place-init : goal.loop-place-init
loop-place-init c =
    let set = c.args.set.now.items in
    let vars = c.args.vars.now in
    record {
      within = omega arith;
      set = sym (ap (λ front. set_of (front ++ set)) (drop-length vars) ∙ set_of-rising set c.requires);
    }

pub add-requires : goal.add-requires
add-requires c = ap is_rising c.loop-place.invariant.set ∙ rising-set_of (drop c.loop-place.place c.args.vars.now ++ c.args.set.now.items)

pub returns-clause-rising : goal.returns-clause-rising
returns-clause-rising c = ap is_rising c.loop-place.invariant.set ∙ rising-set_of (drop c.loop-place.place c.args.vars.now ++ c.args.set.now.items)
