use Rattle.std.proofs.Common.{◌≡◌, subst}
use Rattle.outside_folder.specs.Files.{name_in, with_name}
use Rattle.outside_folder.specs.MemFile.{names_at}
use Rattle.outside_folder.proofs.Listings.{listed_more, listed_all}
use Rattle.outside_folder.proofs.mem_folder.dirs_of.Goals as goal

pub loop-file-preserved : goal.loop-file-preserved
loop-file-preserved c =
    let old = c.loop-file.dirs in
    let new = c.add_path.new.dirs in
    listed_more c.args.files.now c.loop-file.file-index c.file-item.result old new c.loop-file-test.true c.file-item.is c.loop-file.invariant
    (λ dir. subst (λ path. names_at new dir ≡ with_name (names_at old dir) (name_in dir path)) c.as_str.ensures (c.in_ok-add_path.ensures dir))

pub returns : goal.returns
returns c = listed_all c.args.files.now c.loop-file.file-index c.loop-file.dirs c.loop-file-test.false c.loop-file.invariant
