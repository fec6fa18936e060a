-- the lines at the places so far
use Rattle.std.proofs.Common.{◌≡◌, take}
use Rattle.plan_components.specs.Chosen.{selection_of}
use Rattle.node_lines.specs.Along.{lines_along}
use Rattle.node_lines.proofs.lines.lines_along.Given as goal

abbrev pub invariant-loop-place : goal.invariant-loop-place
invariant-loop-place l = l.lines ≡ lines_along (selection_of l.chosen) l.reached (take l.place l.order)
