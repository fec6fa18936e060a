use Rattle.std.proofs.Common.{◌≡◌, IfOk, List, subst}
use Rattle.choice_problem.specs.declared.problem.Demand.{Demand}
use Rattle.solver_index.specs.AllowedVersions.{allowed_versions}
use Rattle.cabal_problem.proofs.RowDemands.{source-rows, unit-rows}
use Rattle.cabal_problem.proofs.cabal_problem.CabalProblem.entry_demands.Goals as goal

pub returns-in-Source : goal.returns-in-Source
returns-in-Source c =
    let p = c.args.self.now in
    let allows = allowed_versions p.settings.now.project c.args.entry.now.instance in
    subst (λ (ds : List Demand). IfOk c.source_demands.result (λ found. found ≡ ds))
    (source-rows p.index.now.packages p.settings.now.project p.names c.args.owner allows c.args.entry.now.body c.in-Source.source c.args.dependencies.now c.requires c.in-Source.is)
    c.source_demands.ensures

pub returns-in-Installed : goal.returns-in-Installed
returns-in-Installed c =
    let p = c.args.self.now in
    let allows = allowed_versions p.settings.now.project c.args.entry.now.instance in
    subst (λ (ds : List Demand). IfOk c.unit_demands.result (λ found. found ≡ ds))
    (unit-rows p.index.now.packages p.settings.now.project p.names c.args.owner allows c.args.entry.now.body c.in-Installed.record_of c.in-Installed.needs c.args.dependencies.now
    c.as_slice.result.now c.requires c.in-Installed.is c.as_slice.ensures) c.unit_demands.ensures
