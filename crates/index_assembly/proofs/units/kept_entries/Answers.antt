use Rattle.std.proofs.Common.{rules, ◌≡◌, ◌<◌, false, List, [], ◌∷◌, ◌++◌, length, length-append, map, refl, sym, ◌∙◌, ap, append_assoc, arith}
use Rattle.std.specs.Prelude.{slice_index_or}
use Rattle.std.specs.Vec.Iter.{into_iter_items}
use Rattle.index_files.specs.declared.unit.Unit.{Unit}
use Rattle.index_assembly.specs.Entries.{unit_entry}
use Rattle.index_assembly.proofs.Lists.{entries-more, unmarked-none}
use Rattle.index_assembly.proofs.units.kept_entries.Goals as goal

pub loop-unit-preserved : goal.loop-unit-preserved
loop-unit-preserved c =
    let so_far = c.loop-unit.invariant in
    let done = c.loop-unit.yielded in
    let one = c.in-Some.unit in
    let rest = into_iter_items c.next.new.self in
    let next : into_iter_items c.loop-unit.unit-iterator ≡ one ∷ rest = search rules in
    let whole : done ++ one ∷ rest ≡ c.args.units = ap (λ l. done ++ l) (sym next) ∙ so_far.all in
    let many = ap (λ (l : List Unit). length l) (sym whole) ∙ length-append done (one ∷ rest) in
    let same_many = c.requires.as_many in
    let here = so_far.place in
    let below : c.loop-unit.place < length c.args.lacking.now = omega (arith, many, same_many, here) in
    let below_done : length done < length c.args.lacking.now = omega (arith, below, here) in
    let moved = c.next_place-place.ensures below in
    let longer = length-append done (one ∷ []) in
    record {
      all = append_assoc done (one ∷ []) rest ∙ whole;
      place = omega (arith, moved, here, longer);
      entries = entries-more c.args.units c.args.lacking.now done one c.loop-unit.entries _ so_far.entries below_done
          (c.in_ok-push_unless.ensures c.args.units c.requires.knows) (c.is_marked.ensures ∙ ap (λ p. slice_index_or c.args.lacking.now p false) here);
    }

pub loop-unit-init : goal.loop-unit-init
loop-unit-init c = record {
  all = search rules;
  place = refl;
  entries = c.new-entries.ensures ∙ ap (map (unit_entry c.args.units)) (sym (unmarked-none c.args.lacking.now));
}
