use Rattle.std.proofs.Common.{◌≡◌, ◌++◌, drop}
use Rattle.impossible_conditions.proofs.flag_settings.copied_maps.Given as goal

abbrev pub invariant-loop-map : goal.invariant-loop-map
invariant-loop-map l = l.copied ++ drop l.map-index l.maps ≡ l.fn.maps
