-- the variable has its rank again
use Rattle.std.proofs.Common.{◌≡◌, false, List, Some, None, cond, ◌||◌, refl, sym, ap, ◌∙◌}
use Rattle.std.specs.Option.{option_map}
use Rattle.common_laws.specs.Small.{on-err}
use Rattle.qualified_goals.specs.declared.variable.Var.{Var}
use Rattle.qualified_goals.specs.Variable.{same_var}
use Rattle.choice_problem.specs.declared.problem.Choice.{Choice}
use Rattle.choice_problem.specs.Trail.{value_in}
use Rattle.choice_problem.specs.Guide.{score}
use Rattle.count_search.specs.declared.records.Met.{Met}
use Rattle.count_search.specs.Records.{record_in, marked}
use Rattle.count_search.specs.Ranks.{AreScored, has_rank, met_by, same_rank, rank_of}
use Rattle.count_search.proofs.Scores.{met-of, noted-back, noted-before, positive, scored-back, scored-ranks, scored-still, set-same}
use Rattle.count_search.proofs.counting.CountingGuide.taken_back.Goals as goal

-- the record of the variable says that it isn't chosen

module _ (records after : List (Var × Met)) (v w : Var) (own : Met) (e : w ≡ v) (there : record_in records v ≡ Some own)
    (is : (u : Var) → record_in after u ≡ cond (same_var v u) (option_map (marked false) (record_in records v)) (record_in records u)) where
  own-set : (u : Var) → record_in after u ≡ cond (same_var w u) (Some (marked false own)) (record_in records u)
  own-set u =
      is u ∙ ap (λ o. cond (same_var v u) (option_map (marked false) o) (record_in records u)) there
      ∙ ap (λ x. cond (same_var x u) (Some (marked false own)) (record_in records u)) (sym e)

  own-sets : own.sets ≡ met_by records w
  own-sets = sym (met-of records w (Some own) (ap (record_in records) e ∙ there))

  same-sets : (u : Var) → met_by after u ≡ met_by records u
  same-sets = set-same records after w (marked false own) own-set own-sets

pub returns-in_default-clause-ok : goal.returns-in_default-clause-ok
returns-in_default-clause-ok c met front choice e new are =
    let records = c.args.self.now.records in
    let none : record_in records choice.var ≡ None = ap (record_in records) e ∙ sym c.get.ensures ∙ c.in_default.is in
    scored-still records c.args.self.now.ranks (score met) front choice (ap (value_in front) e ∙ new) are
    (sym (are.counted choice.var) ∙ met-of records choice.var None none) records (λ u. refl) (noted-before records front choice none are.noted)

pub returns-then-met-eq0-clause-ok : goal.returns-then-met-eq0-clause-ok
returns-then-met-eq0-clause-ok c met front choice e new are =
    let s = c.args.self.now in
    let own = c.in-Some.met in
    let after = c.mark.new.self in
    let there : record_in s.records c.args.v ≡ Some own = sym c.get.ensures ∙ c.in-Some.is in
    let free = ap (value_in front) e ∙ new in
    scored-still s.records s.ranks (score met) front choice free are
    (sym (are.counted choice.var) ∙ sym (own-sets s.records after c.args.v choice.var own e there c.mark.ensures.is) ∙ c.if-met-eq0.true)
    after (same-sets s.records after c.args.v choice.var own e there c.mark.ensures.is)
    (noted-back s.records s.ranks (score met) front choice free are after (marked false own) refl
    (own-set s.records after c.args.v choice.var own e there c.mark.ensures.is))

pub returns-clause-ok : goal.returns-clause-ok
returns-clause-ok c met front choice e new are =
    let s = c.args.self.now in
    let own = c.in-Some.met in
    let after = c.mark-2.new.self in
    let there : record_in s.records c.args.v ≡ Some own = sym c.get.ensures ∙ c.in-Some.is in
    let free = ap (value_in front) e ∙ new in
    scored-back s.records s.ranks (score met) front choice free are own.sets c.add.new.self
    (own-sets s.records after c.args.v choice.var own e there c.mark-2.ensures.is ∙ are.counted choice.var) (positive own.sets c.if-met-eq0.false)
    (λ r. c.in_ok-add.ensures.ok r ∙ ap (λ x. same_rank x r || has_rank s.ranks r) (c.rank_of.ensures ∙ ap (rank_of own.sets) (sym e)))
    after (same-sets s.records after c.args.v choice.var own e there c.mark-2.ensures.is)
    (noted-back s.records s.ranks (score met) front choice free are after (marked false own) refl
    (own-set s.records after c.args.v choice.var own e there c.mark-2.ensures.is))

pub returns-in_err-add-clause-err : goal.returns-in_err-add-clause-err
returns-in_err-add-clause-err c =
    let s = c.args.self.now in
    on-err c.from_residual.result
    ((trail : List Choice) (met : List (List Var)) → AreScored s.records s.ranks (score met) trail
    → AreScored s.records c.add.new.self (score met) trail)
    (λ trail met are. scored-ranks s.records s.ranks c.add.new.self (score met) trail c.in_err-add.ensures.err are)
