-- the places so far whose versions are inside; the last bound lies between these places and the others
use Rattle.std.proofs.Common.{◌≡◌, ℕ, ◌<◌, ◌≤◌, ◌++◌, length, get_or}
use Rattle.std.specs.List.{filter}
use Rattle.version_range.specs.Cuts.{inside}
use Rattle.solver_index.specs.Blocks.{version_at}
use Rattle.solver_index.specs.Places.{between}
use Rattle.solver_index.proofs.inside_places.push_segments.Given as goal

abbrev pub invariant-loop-bound : goal.invariant-loop-bound
invariant-loop-bound l = record {
  found : l.found ≡ l.fn.found ++ filter (λ i. inside l.cuts (version_at l.entries i)) (between l.from l.first);
  low : l.from ≤ l.first;
  high : l.first ≤ l.to;
  earlier : (k : ℕ) → k < l.bound-index → get_or l.bounds k 0 ≤ l.first;
  later : (k : ℕ) → l.bound-index ≤ k → k < length l.bounds → l.first ≤ get_or l.bounds k 0;
}
