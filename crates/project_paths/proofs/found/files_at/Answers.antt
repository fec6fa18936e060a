use Rattle.std.proofs.Common.{sym, ap, ◌∙◌}
use Rattle.std.specs.Option.{option_copied}
use Rattle.common_laws.specs.Small.{if_some, some_at}
use Rattle.project_paths.specs.Found.{cabal_in}
use Rattle.project_paths.proofs.Seen.{found-matched}
use Rattle.project_paths.proofs.found.files_at.Goals as goal

pub returns-in_ok-files-in-Some-clause-observed : goal.returns-in_ok-files-in-Some-clause-observed
returns-in_ok-files-in-Some-clause-observed g c =
    let tells = g.F.Folder.tells c.args.folder.now in
    let dir = c.in-Some.dir.now in
    found-matched tells c.args.folders c.args.matched.now dir (sym c.dir.ensures ∙ ap option_copied c.in-Some.is) c.in_ok-files-in-Some.files
    c.requires.looked_up (sym c.is_local_file.ensures ∙ c.if-is_local_file.false)
    (if_some _ tells (λ files t. c.in_ok-files-in-Some.ensures ∙ ap (cabal_in dir) (c.names.ensures ∙ some_at _ _ files t c.in_ok-list-in-Some.ensures.observed)))
