-- the owner, and the settings so far
use Rattle.std.proofs.Common.{◌≡◌, ◌∷◌, map, take}
use Rattle.cabal_problem.specs.Rows.{choice_at}
use Rattle.cabal_problem.proofs.demands.when_of.Given as goal

abbrev pub invariant-loop-setting : goal.invariant-loop-setting
invariant-loop-setting l = l.when ≡ l.owner ∷ map (choice_at l.owner) (take l.setting-index l.settings)
