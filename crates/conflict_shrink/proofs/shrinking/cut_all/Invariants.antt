-- the assignments so far, and those of the rest
use Rattle.std.proofs.Common.{◌≡◌, ◌++◌, drop, map}
use Rattle.conflict_shrink.specs.Shrinking.{cut}
use Rattle.conflict_shrink.proofs.shrinking.cut_all.Given as goal

abbrev pub invariant-loop-trail : goal.invariant-loop-trail
invariant-loop-trail l = l.maps ++ map (cut l.set) (drop l.trail-index l.trails) ≡ map (cut l.set) l.trails
