use Rattle.std.proofs.Common.{◌≡◌, map, take}
use Rattle.preferences.specs.declared.candidate.Candidate.{Candidate}
use Rattle.preferences.proofs.places.places_of.Given as goal

abbrev pub invariant-loop-candidate : goal.invariant-loop-candidate
invariant-loop-candidate l = l.places ≡ map (λ (c : Candidate). c.place) (take l.candidate-index l.candidates)
