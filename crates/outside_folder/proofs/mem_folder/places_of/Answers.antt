use Rattle.std.proofs.Common.{sym, subst, ap, ◌∙◌, take_all, Some}
use Rattle.std.specs.BTreeMap.{get_by_text}
use Rattle.std.specs.Prelude.{is_some, string_bytes}
use Rattle.std.proofs.lemmas.Map.Text.{btree_map_updates_text}
use Rattle.outside_folder.specs.MemFile.{AreDistinct, Placed}
use Rattle.outside_folder.proofs.FileTrees.{contained, table_more}
use Rattle.outside_folder.proofs.mem_folder.places_of.Goals as goal

pub returns-then-is_some : goal.returns-then-is_some
returns-then-is_some c =
    let places = c.loop-place.places in
    let some = ap is_some (ap (get_by_text places) (ap (λ f. f.path) c.index-files-place.is ∙ sym c.as_str-path.ensures) ∙ sym c.place_at.ensures) ∙ sym c.is_some.ensures ∙ c.if-is_some.true in
    contained c.args.files.now c.loop-place.place c.index-files-place.result places c.loop-place-test.true c.index-files-place.is c.loop-place.invariant.1 some

pub loop-place-preserved : goal.loop-place-preserved
loop-place-preserved c =
    let places = c.loop-place.places in
    let some = ap is_some (ap (get_by_text places) (ap (λ f. f.path) c.index-files-place.is ∙ sym c.as_str-path.ensures) ∙ sym c.place_at.ensures) ∙ sym c.is_some.ensures ∙ c.if-is_some.false in
    table_more c.args.files.now c.loop-place.place c.index-files-place.result places c.insert.new.self (string_bytes c.in_ok-from_str.field-0) c.loop-place-test.true c.index-files-place.is
    c.loop-place.invariant.0 c.loop-place.invariant.1 some (c.in_ok-from_str.ensures.ok ∙ c.as_str-path.ensures ∙ ap (λ f. f.path) (sym c.index-files-place.is))
    (btree_map_updates_text (string_bytes c.in_ok-from_str.field-0) places c.insert.new.self (Some c.loop-place.place) c.in_ok-insert.ensures.updates)

pub returns : goal.returns
returns c =
    subst (λ files. AreDistinct files × Placed files c.loop-place.places) (take_all c.loop-place.place c.args.files.now c.loop-place-test.false) c.loop-place.invariant
