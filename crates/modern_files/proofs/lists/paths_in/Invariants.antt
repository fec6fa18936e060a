use Rattle.std.proofs.Common.{◌≡◌, ◌==◌, not, length, map}
use Rattle.std.specs.List.{filter}
use Rattle.modern_files.proofs.lists.paths_in.Given as goal

-- the lines so far that aren't empty
abbrev pub invariant-loop-line : goal.invariant-loop-line
invariant-loop-line l = l.paths ≡ filter (λ line. not (length line == 0)) (map (λ line. line.now) l.yielded)
