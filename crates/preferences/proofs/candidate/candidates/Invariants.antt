use Rattle.std.proofs.Common.{◌≡◌, map}
use Rattle.std.specs.List.{All, range_with_len}
use Rattle.preferences.specs.declared.candidate.Candidate.{Candidate}
use Rattle.preferences.specs.Candidate.{IsFor}
use Rattle.preferences.proofs.candidate.candidates.Given as goal

abbrev pub invariant-loop-place : goal.invariant-loop-place
invariant-loop-place l =
    record {
      places : map (λ (c : Candidate). c.place) l.made.items ≡ range_with_len 0 l.place;
      each : All (IsFor l.preferred l.instances) l.made.items;
    }
