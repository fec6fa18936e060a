-- the packages so far, and the entries not taken yet
use Rattle.std.proofs.Common.{◌≡◌, ◌++◌, ℕ, List, false, map}
use Rattle.std.specs.Vec.Iter.{into_iter_items}
use Rattle.std.specs.Prelude.{flat_map}
use Rattle.index_files.specs.Names.{is_listed}
use Rattle.index_files.specs.declared.closure.FoundName.{FoundName}
use Rattle.index_assembly.specs.Groups.{held}
use Rattle.index_assembly.specs.Index.{skipped_in}
use Rattle.index_assembly.specs.Packages.{package_by}
use Rattle.index_assembly.proofs.packages.gather.Given as goal

abbrev pub invariant-loop-one : goal.invariant-loop-one
invariant-loop-one l = record {
  all : l.yielded ++ into_iter_items l.one-iterator ≡ l.fn.found;
  packages : l.gathered.packages ≡ map (package_by (is_listed l.extra.keys) (held l.fn.locals) (held l.fn.units)) l.yielded;
  skipped : l.gathered.skipped ≡ flat_map skipped_in l.yielded;
  locals : (name : List ℕ) → is_listed (map (λ (f : FoundName). f.name) l.yielded) name ≡ false → held l.locals name ≡ held l.fn.locals name;
  units : (name : List ℕ) → is_listed (map (λ (f : FoundName). f.name) l.yielded) name ≡ false → held l.units name ≡ held l.fn.units name;
}
