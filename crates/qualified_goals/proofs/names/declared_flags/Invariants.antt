-- the names of the packages so far
use Rattle.std.proofs.Common.{◌≡◌, [], fold, take}
use Rattle.indexmap.specs.IndexSet.{insert_key}
use Rattle.qualified_goals.specs.Names.{flag_names}
use Rattle.plan_types.specs.Bytes.{same_text}
use Rattle.qualified_goals.proofs.names.declared_flags.Given as goal

abbrev pub invariant-loop-package : goal.invariant-loop-package
invariant-loop-package l = l.names.keys ≡ fold (insert_key same_text) [] (flag_names (take l.package-index l.packages))
