use Rattle.std.proofs.Common.{◌≡◌, Some, sym, ◌∙◌}
use Rattle.common_laws.specs.Small.{if_some, some_at}
use Rattle.project_paths.specs.Listings.{AreListed}
use Rattle.project_paths.proofs.Kept.{kept-before, kept-now, listed-now}
use Rattle.project_paths.proofs.listings.Listings.list.Goals as goal

pub returns-then-contains_key-clause-observed : goal.returns-then-contains_key-clause-observed
returns-then-contains_key-clause-observed g c = if_some _ _ (λ files t.
    (kept-before files c.args.self.now c.args.dir.now (some_at _ _ files t c.requires) (sym c.if-contains_key.ensures)).0)

pub returns-then-contains_key-clause-tree : goal.returns-then-contains_key-clause-tree
returns-then-contains_key-clause-tree g c = if_some _ _ (λ files t.
    (kept-before files c.args.self.now c.args.dir.now (some_at _ _ files t c.requires) (sym c.if-contains_key.ensures)).1)

pub returns-clause-observed : goal.returns-clause-observed
returns-clause-observed g c = if_some _ _ (λ files t.
    kept-now files c.args.self.now c.put.new.self c.args.dir.now c.in_ok-names.names (some_at _ _ files t c.in_ok-names.ensures.observed) c.in_ok-put.ensures)

pub returns-clause-agree : goal.returns-clause-agree
returns-clause-agree g c = if_some _ _ (λ files t.
    let before : g.F.Folder.tells c.args.folder.now ≡ Some files = sym c.in_ok-names.ensures.folder.same_files ∙ t in
    let are = some_at (λ files. AreListed files c.args.self.now) (g.F.Folder.tells c.args.folder.now) files before c.requires in
    listed-now files c.args.self.now c.put.new.self c.args.dir.now c.in_ok-names.names (some_at _ _ files before c.in_ok-names.ensures.observed) c.in_ok-put.ensures
    (some_at _ _ files before c.in_ok-names.ensures.tree) are)
