-- the lines so far, and the rest
use Rattle.std.proofs.Common.{◌≡◌, ◌++◌, drop, zip}
use Rattle.std.specs.List.{flat_map}
use Rattle.plan_print.specs.Texts.{without_lines}
use Rattle.plan_print.proofs.texts.push_without.Given as goal

abbrev pub invariant-loop-kept : goal.invariant-loop-kept
invariant-loop-kept l =
    l.text ++ flat_map (without_lines l.index l.names) (zip l.rest (drop l.kept-index l.maps)) ≡ l.fn.text ++ flat_map (without_lines l.index l.names) (zip l.set l.maps)
