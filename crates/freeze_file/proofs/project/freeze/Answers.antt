use Rattle.std.proofs.Common.{◌≡◌, List, sym, ap, subst, ◌∙◌}
use Rattle.std.specs.List.{AllByRecursion}
use Rattle.plan_types.specs.declared.constraint.Constraint.{Constraint}
use Rattle.plan_types.specs.declared.index.Package.{Package}
use Rattle.plan_types.specs.declared.project.Project.{Project}
use Rattle.choice_problem.specs.declared.problem.Choice.{Choice}
use Rattle.qualified_goals.specs.Names.{NameTable}
use Rattle.freeze_text.specs.Reads.{IsPlainConstraint}
use Rattle.frozen_choices.specs.Barred.{BarsNone}
use Rattle.frozen_choices.specs.Frozen.{frozen}
use Rattle.frozen_choices.proofs.DistinctChoices.{valid-in-domains}
use Rattle.freeze_file.proofs.project.freeze.Goals as goal

-- constraints that were made of equal packages and an equal trail
of-equals : (names : NameTable) (made : List Constraint) (packages others : List Package) (trail other : List Choice) → made ≡ frozen others names other → other ≡ trail → others ≡ packages
    → made ≡ frozen packages names trail
of-equals names made packages others trail other is same_trail same_packages =
    is ∙ ap (λ (t : List Choice). frozen others names t) same_trail ∙ ap (λ (ps : List Package). frozen ps names trail) same_packages

pub returns-clause-bars_none : goal.returns-clause-bars_none
returns-clause-bars_none c = λ env project orders sound numbers valid.
    let packages = c.args.index.now.packages in
    let names = c.args.names.now in
    let trail = c.args.trail.now in
    let is = ap (λ (p : Project). p.constraints) c.project_with.ensures ∙ c.in_ok-constraints.ensures in
    let same = of-equals names c.project_with.result.constraints packages c.as_slice-2.result.now trail c.as_slice.result.now is c.as_slice.ensures c.as_slice-2.ensures in
    subst (λ (ks : List Constraint). BarsNone packages names ks trail) (sym same)
    (c.frozen_bars_none.ensures env c.args.index.now project names orders trail sound numbers c.requires valid)

pub returns-clause-plain : goal.returns-clause-plain
returns-clause-plain c = λ env project orders sound valid.
    let packages = c.args.index.now.packages in
    let names = c.args.names.now in
    let trail = c.args.trail.now in
    let is = ap (λ (p : Project). p.constraints) c.project_with.ensures ∙ c.in_ok-constraints.ensures in
    let same = of-equals names c.project_with.result.constraints packages c.as_slice-2.result.now trail c.as_slice.result.now is c.as_slice.ensures c.as_slice-2.ensures in
    subst (AllByRecursion IsPlainConstraint) (sym same) (c.frozen_is_plain.ensures env c.args.index.now names trail sound (valid-in-domains env packages project names orders trail c.requires valid))
