use Rattle.std.proofs.Common.{Some, cond, ap, ◌∙◌}
use Rattle.std.specs.BTreeMap.{get_by_text}
use Rattle.std.specs.Prelude.{string_bytes}
use Rattle.std.specs.Str.{bytes_eq}
use Rattle.std.proofs.lemmas.Map.Text.{btree_map_updates_text}
use Rattle.outside_folder.proofs.Listings.{put_in}
use Rattle.outside_folder.proofs.mem_folder.put_names.Goals as goal

pub returns : goal.returns
returns c =
    let old = c.args.dirs.now in
    let key = c.in_ok-from_str.field-0 in
    put_in old c.insert.new.self c.args.dir.now c.args.names
    (λ other. btree_map_updates_text (string_bytes key) old c.insert.new.self (Some c.args.names) c.in_ok-insert.ensures.updates other
    ∙ ap (λ k. cond (bytes_eq k other) (Some c.args.names) (get_by_text old other)) c.in_ok-from_str.ensures.ok)
