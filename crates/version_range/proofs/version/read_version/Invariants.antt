use Rattle.std.proofs.Common.{◌≡◌, ◌++◌, length}
use Rattle.std.specs.List.{AllByRecursion}
use Rattle.version_range.specs.Version.{IsNumber}
use Rattle.version_range.proofs.VersionNumbers.{pointed}
use Rattle.version_range.proofs.version.read_version.Given as goal

abbrev pub invariant-loop-number : goal.invariant-loop-number
invariant-loop-number l = (l.text ≡ pointed l.parts ++ l.rest) × AllByRecursion IsNumber l.parts

abbrev pub decreases-loop-number : goal.decreases-loop-number
decreases-loop-number l = length l.rest
