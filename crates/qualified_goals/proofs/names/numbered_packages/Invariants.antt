-- the names so far
use Rattle.std.proofs.Common.{◌≡◌, [], fold, take}
use Rattle.indexmap.specs.IndexSet.{insert_key}
use Rattle.qualified_goals.specs.Names.{package_names}
use Rattle.plan_types.specs.Bytes.{same_text}
use Rattle.qualified_goals.proofs.names.numbered_packages.Given as goal

abbrev pub invariant-loop-package : goal.invariant-loop-package
invariant-loop-package l = l.names.keys ≡ fold (insert_key same_text) [] (package_names (take l.package-index l.packages))
