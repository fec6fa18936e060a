use Rattle.std.proofs.Common.{◌≡◌}
use Rattle.std.specs.Prelude.{fold}
use Rattle.std.specs.BTreeSet.{insert_key}
use Rattle.std.specs.Cmp.Lexicographic.{slice_cmp}
use Rattle.std.specs.Ordering.{nat_cmp}
use Rattle.project_paths.specs.Local.{in_order}
use Rattle.project_paths.proofs.find.set_of.Given as goal

abbrev pub invariant-loop-path : goal.invariant-loop-path
invariant-loop-path l = fold (insert_key (slice_cmp nat_cmp)) l.set.keys l.path-iterator.rest.items ≡ in_order l.fn.found
