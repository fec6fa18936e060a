use Rattle.std.proofs.Common.{◌≡◌, take}
use Rattle.description.specs.Description.{version_of}
use Rattle.description.specs.ShownVersion.{shown_version}
use Rattle.description.proofs.read.version_of.Given as goal

abbrev pub invariant-loop-field : goal.invariant-loop-field
invariant-loop-field l = shown_version l.version ≡ version_of (take l.field-index l.heads)
