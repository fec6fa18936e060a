use Rattle.std.proofs.Common.{◌≡◌, ◌++◌, take}
use Rattle.version_range.specs.Version.{led_by_points}
use Rattle.version_range.proofs.version.push_more.Given as goal

abbrev pub invariant-loop-part : goal.invariant-loop-part
invariant-loop-part l = l.text ≡ l.fn.text ++ led_by_points (take l.part-index l.more)
