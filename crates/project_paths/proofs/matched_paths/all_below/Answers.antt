use Rattle.std.proofs.Common.{◌≡◌, ◌++◌, [], append-nil, sym, ap, ◌∙◌}
use Rattle.std.specs.Prelude.{flat_map}
use Rattle.std.proofs.lemmas.List.{nil_from_length}
use Rattle.common_laws.specs.Small.{if_some}
use Rattle.project_paths.specs.Places.{below}
use Rattle.project_paths.specs.MatchedPaths.{seen}
use Rattle.project_paths.proofs.matched_paths.all_below.Goals as goal

pub returns-clause-observed : goal.returns-clause-observed
returns-clause-observed g c = if_some _ (g.F.Folder.tells c.args.folder.now) (λ files t tree.
    let seen_so_far = flat_map (seen files) c.loop-matched.found in
    let none : c.loop-matched.matched-iterator.rest.items ≡ [] = nil_from_length _ (sym c.loop-matched.matched-iterator.rest.ok.0 ∙ c.in-None.ensures.steps.0) in
    sym (append-nil seen_so_far) ∙ ap (λ rest. seen_so_far ++ flat_map (below files c.args.pattern.now) (flat_map (seen files) rest)) (sym none) ∙ c.loop-matched.invariant.told files t tree)
