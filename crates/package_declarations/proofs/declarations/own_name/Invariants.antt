use Rattle.std.proofs.Common.{◌≡◌, take}
use Rattle.package_declarations.specs.Declarations.{own_name}
use Rattle.package_declarations.specs.DeclaredNames.{shown}
use Rattle.package_declarations.proofs.declarations.own_name.Given as goal

abbrev pub invariant-loop-field : goal.invariant-loop-field
invariant-loop-field l = shown l.name ≡ own_name (take l.field-index l.heads)
