-- the versions so far, and their draws
use Rattle.std.proofs.Common.{◌≡◌, ℕ, ◌-◌, ◌≤◌, ◌++◌, []}
use Rattle.std.specs.Prelude.{map, take, ◌∷◌}
use Rattle.outside_folder.specs.MemFile.{told}
use Rattle.plan_generate.specs.Draws.{after_draws, draws_before}
use Rattle.plan_generate.specs.Generated.{version_file}
use Rattle.plan_generate.proofs.folder.push_package.Given as goal

abbrev pub invariant-loop-version : goal.invariant-loop-version
invariant-loop-version l =
    record {
      some : 1 ≤ l.version;
      files : (seed : ℕ) → l.fn.draws.last ≡ after_draws seed (draws_before l.number 1)
          → told l.files ≡ told l.fn.files ++ map (version_file seed l.number) (take (l.version - 1) (1 ∷ 2 ∷ 3 ∷ []));
      drawn : (seed : ℕ) → l.fn.draws.last ≡ after_draws seed (draws_before l.number 1)
          → l.draws.last ≡ after_draws seed (draws_before l.number l.version);
    }
