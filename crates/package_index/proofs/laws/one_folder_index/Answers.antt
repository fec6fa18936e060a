use Rattle.package_index.proofs.Folder.{one-folder-index}
use Rattle.package_index.proofs.laws.one_folder_index.Goals as goal

pub returns : goal.returns
returns c env places extra paths files a b = one-folder-index c.one_source.ensures extra c.one_record.ensures env places paths files a b
