-- Shared: what a sequence of calls leaves unchanged in a folder.
use Rattle.std.proofs.Common.{◌≡◌, ℕ, Option, refl, ◌∙◌, subst, arith}
use Rattle.outside_folder.specs.Calls.{Leaves}
use Rattle.outside_folder.specs.Faults.{Rose}
use Rattle.outside_folder.specs.Files.{Files}

-- no call
pub still : {F failed : Type 0} (tells : F → Option Files) (faults : F → ℕ) (folder : F) → (failed → ⊥) → Leaves tells faults folder folder failed
still tells faults folder never = record { same_files = refl; later = omega arith; rose = λ h. absurd (never h); still = λ _. refl }

rises : (n m k : ℕ) → m ≡ n → Rose m k → Rose n k
rises n m k h r = subst (λ n. Rose n k) h r

-- calls that didn't fail, followed by others
pub onward : {F failed then : Type 0} (tells : F → Option Files) (faults : F → ℕ) (old between new : F) → (then → failed) → (failed → then)
    → Leaves tells faults old between ⊥ → Leaves tells faults between new failed → Leaves tells faults old new then
onward tells faults old between new from to h g = record {
  same_files = g.same_files ∙ h.same_files;
  later = let x = h.later in let y = g.later in omega (arith, x, y);
  rose = λ t. rises (faults old) (faults between) (faults new) (h.still (λ none. none)) (g.rose (from t));
  still = λ never. g.still (λ failed. never (to failed)) ∙ h.still (λ none. none);
}
