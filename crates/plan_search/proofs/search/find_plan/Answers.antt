use Rattle.std.proofs.Common.{sym, subst}
use Rattle.qualified_goals.specs.Names.{NameTable}
use Rattle.plan_search.specs.Meaning.{MeansFailure}
use Rattle.plan_search.proofs.Right.{failure-whole, finding-is}
use Rattle.plan_search.proofs.search.find_plan.Goals as goal

pub returns-clause-means : goal.returns-clause-means
returns-clause-means c =
    let index = c.args.index.now in
    let settings = c.args.settings.now in
    let is = c.in_ok-problem.ensures.problem in
    let found = c.in_ok-outcome in
    record {
      outcome = c.what_is_found_is_right.ensures c.args.picking c.args.minimize index settings _ c.requires.sound c.requires.there
          (finding-is c.args.picking c.args.minimize index settings _ _ _ is c.into_names-names.ensures _ _ found.ensures.outcome found.ensures.blame);
      failure = subst (λ (t : NameTable). MeansFailure c.args.minimize index settings t found.outcome found.blame) (sym c.into_names-names.ensures)
          (failure-whole c.valid_as_whole.ensures index settings c.requires.sound c.requires.there _ _ is c.args.minimize _ _ found.ensures.means);
    }
