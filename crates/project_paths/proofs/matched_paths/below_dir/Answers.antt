use Rattle.std.proofs.Common.{◌≡◌, true, sym, subst, ap, ◌∙◌}
use Rattle.std.specs.Prelude.{map, filter, not}
use Rattle.std.specs.List.{list_all}
use Rattle.std.proofs.lemmas.Bool.{and_parts}
use Rattle.common_laws.specs.Small.{if_some, some_at}
use Rattle.project_paths.specs.Places.{below, is_matched, place_in}
use Rattle.project_paths.specs.MatchedPaths.{Leads, directory, is_cabal, is_literal, is_looked_up}
use Rattle.project_paths.specs.declared.matched_paths.MatchedPath.TheVariants.{Listed}
use Rattle.project_paths.proofs.LookedUp.{taken-looked-up, listed-looked-up}
use Rattle.project_paths.proofs.Seen.{leads-literal, leads-listed}
use Rattle.project_paths.proofs.matched_paths.below_dir.Goals as goal

pub returns-then-is_taken-clause-observed : goal.returns-then-is_taken-clause-observed
returns-then-is_taken-clause-observed g c = if_some _ (g.F.Folder.tells c.args.folder.now) (λ files t.
    subst (λ found. Leads files found (below files c.args.pattern.now (directory c.args.dir))) (sym (c.in_ok-named.ensures))
    (leads-literal files c.args.dir c.args.pattern.now (and_parts (is_literal c.args.pattern.now) (not (is_cabal c.args.pattern.now)) (sym c.is_taken.ensures ∙ c.if-is_taken.true)).0))

pub returns-clause-observed : goal.returns-clause-observed
returns-clause-observed g c = if_some _ (g.F.Folder.tells c.args.folder.now) (λ files t.
    subst (λ found. Leads files found (below files c.args.pattern.now (directory c.args.dir))) (sym (c.in_ok-found.ensures ∙ ap (λ names. map (λ name. Listed (place_in c.args.dir name)) (filter (is_matched c.args.pattern.now) names)) (c.names.ensures ∙ some_at _ _ files t c.in_ok-list.ensures.observed)))
    (leads-listed files c.args.dir c.args.pattern.now))

pub returns-then-is_taken-clause-looked_up : goal.returns-then-is_taken-clause-looked_up
returns-then-is_taken-clause-looked_up g c =
    subst (λ found. list_all is_looked_up found ≡ true) (sym c.in_ok-named.ensures) (taken-looked-up c.args.dir c.args.pattern.now (sym c.is_taken.ensures ∙ c.if-is_taken.true))

pub returns-clause-looked_up : goal.returns-clause-looked_up
returns-clause-looked_up g c =
    subst (λ found. list_all is_looked_up found ≡ true) (sym c.in_ok-found.ensures) (listed-looked-up c.args.dir (filter (is_matched c.args.pattern.now) c.names.result.now))
