use Rattle.std.proofs.Common.{◌≡◌, ◌+◌, true, false, ◌∷◌, ◌++◌, [], map, take, sym, ◌∙◌, ap}
use Rattle.std.proofs.lemmas.List.{take_all}
use Rattle.index_files.specs.File.{file_found, fitting}
use Rattle.index_files.specs.Totals.{is_too_many}
use Rattle.index_files.proofs.FileTotals.{fit_all, fit_ends}
use Rattle.index_files.proofs.KnownFiles.{map_split}
use Rattle.std.proofs.lemmas.Bool.{not-false}
use Rattle.common_laws.specs.Small.{if_some, some_at}
use Rattle.index_files.proofs.file.read_counted.Goals as goal

pub returns-then-not-count-clause-observed : goal.returns-then-not-count-clause-observed
returns-then-not-count-clause-observed g c = if_some _ _ (λ files t.
    let f = file_found false files in
    let told = c.loop-path.invariant.told files t in
    let found : c.in_ok-file.file ≡ f c.path-item.result = some_at _ _ files (c.loop-path.invariant.folder.same_files ∙ t) c.in_ok-file.ensures.observed in
    let split = map_split f c.args.paths.now c.loop-path.path-index c.path-item.result c.loop-path-test.true c.path-item.is in
    let beyond : is_too_many (c.loop-path.totals.files + c.count.result) (c.loop-path.totals.bytes + c.size.result) ≡ true = not-false _ (sym c.if-not-count.ensures.fits) in
    let many = (λ i. is_too_many (c.loop-path.totals.files + sym c.count.ensures i) (c.loop-path.totals.bytes + sym c.size.ensures i)) ∙ beyond in
    sym (ap (fitting c.args.totals.now.files c.args.totals.now.bytes) (split.1 ∙ (λ i. (sym told i ++ sym found i ∷ []) ++ split.0))
    ∙ fit_ends _ _ c.loop-path.files c.loop-path.totals.files c.loop-path.totals.bytes c.in_ok-file.file split.0 c.loop-path.invariant.fit many))

pub returns-clause-observed : goal.returns-clause-observed
returns-clause-observed g c = if_some _ _ (λ files t.
    let f = file_found false files in
    let told : c.loop-path.files ≡ map f (take c.loop-path.path-index c.args.paths.now) = c.loop-path.invariant.told files t in
    let whole = take_all c.loop-path.path-index c.args.paths.now c.loop-path-test.false in
    sym (ap (fitting c.args.totals.now.files c.args.totals.now.bytes) (sym (told ∙ ap (map f) whole))
    ∙ fit_all _ _ c.loop-path.files c.loop-path.totals.files c.loop-path.totals.bytes c.loop-path.invariant.fit))
