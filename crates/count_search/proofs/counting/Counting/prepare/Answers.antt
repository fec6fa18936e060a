-- the variable has its record, and its next rank unless it is chosen
use Rattle.std.proofs.Common.{◌≡◌, ℕ, ◌||◌, is_some, sym, ap, ◌∙◌, subst}
use Rattle.std.proofs.lemmas.Result.{on_ok_weaker, on_err_weaker}
use Rattle.common_laws.specs.Small.{on-err}
use Rattle.qualified_goals.specs.declared.variable.Var.{Var}
use Rattle.choice_problem.specs.Trail.{value_in}
use Rattle.count_search.specs.Ranks.{AreBetween, AreNoted, has_rank, met_by, same_rank}
use Rattle.count_search.proofs.Scores.{entered, prepared-chosen, prepared-free, record-chosen, record-sets}
use Rattle.count_search.proofs.counting.Counting.prepare.Goals as goal
use Rattle.count_search.proofs.counting.Counting.prepare.Goals.{In_ok-met}

-- the variable's record
module _ (c : In_ok-met) where
  sets : c.in_ok-met.met.sets ≡ met_by c.args.self.now.records c.args.v
  sets = record-sets c.args.self.now.records c.args.v (is_some (value_in c.args.trail.now c.args.v)) c.in_ok-met.met c.in_ok-met.ensures.met

  chosen : AreNoted c.args.self.now.records c.args.trail.now → c.in_ok-met.met.chosen ≡ is_some (value_in c.args.trail.now c.args.v)
  chosen noted = record-chosen c.args.self.now.records c.args.v c.args.trail.now c.in_ok-met.met noted c.in_ok-met.ensures.met

pub returns-in_err-met-clause-err : goal.returns-in_err-met-clause-err
returns-in_err-met-clause-err c =
    let s = c.args.self.now in
    let ranks = s.ranks in
    on-err c.from_residual.result
    ((scores next : Var → ℕ) → AreBetween s.records ranks scores next c.args.trail.now
    → AreBetween c.get_or_add.new.self ranks scores next c.args.trail.now)
    (λ scores next are. subst (λ t. AreBetween t ranks scores next c.args.trail.now) (sym c.in_err-met.ensures.err) are)

pub returns-then-met-clause-ok : goal.returns-then-met-clause-ok
returns-then-met-clause-ok c scores next same are =
    let m = (goal.at.returns-then-met-clause-ok c).In_ok-met in
    prepared-chosen c.args.self.now.records c.args.self.now.ranks scores next c.args.trail.now are c.args.v c.in_ok-met.met (sets m) (chosen m are.noted) c.get_or_add.new.self
    c.in_ok-met.ensures.is c.if-met.true

pub returns-clause-ok : goal.returns-clause-ok
returns-clause-ok c =
    let s = c.args.self.now in
    let m = (goal.at.returns-clause-ok c).In_ok-met in
    on_ok_weaker c.add.result
    (λ put scores next same are.
    prepared-free s.records s.ranks scores next c.args.trail.now are c.args.v c.in_ok-met.met (sets m) (chosen m are.noted) c.get_or_add.new.self c.in_ok-met.ensures.is
    c.add.new.self c.saturating_add.result c.if-met.false same c.saturating_add.ensures
    (λ r. put r ∙ ap (λ x. same_rank x r || has_rank s.ranks r) c.rank_of.ensures))
    c.add.ensures.ok

pub returns-clause-err : goal.returns-clause-err
returns-clause-err c =
    let s = c.args.self.now in
    let m = (goal.at.returns-clause-err c).In_ok-met in
    on_err_weaker c.add.result
    (λ kept scores next are.
    entered s.records s.ranks scores next c.args.trail.now are c.args.v c.in_ok-met.met (sets m) (chosen m are.noted) c.get_or_add.new.self c.in_ok-met.ensures.is c.add.new.self kept)
    c.add.ensures.err
