-- the packages so far, and their draws
use Rattle.std.proofs.Common.{◌≡◌, ◌-◌, ◌≤◌}
use Rattle.std.specs.Prelude.{flat_map}
use Rattle.std.specs.List.{range_with_len}
use Rattle.outside_folder.specs.MemFile.{told}
use Rattle.plan_generate.specs.Draws.{after_draws, draws_before}
use Rattle.plan_generate.specs.Generated.{package_files}
use Rattle.plan_generate.proofs.folder.files_of.Given as goal

abbrev pub invariant-loop-number : goal.invariant-loop-number
invariant-loop-number l =
    record {
      some : 1 ≤ l.number;
      files : told l.files ≡ flat_map (package_files l.count) (range_with_len 1 (l.number - 1));
      drawn : l.draws.last ≡ after_draws l.count (draws_before l.number 1);
    }
