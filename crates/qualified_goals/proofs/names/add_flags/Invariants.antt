-- the names so far
use Rattle.std.proofs.Common.{◌≡◌, map, fold, take}
use Rattle.indexmap.specs.IndexSet.{insert_key}
use Rattle.plan_types.specs.declared.description.FlagDecl.{FlagDecl}
use Rattle.plan_types.specs.Bytes.{same_text}
use Rattle.qualified_goals.proofs.names.add_flags.Given as goal

abbrev pub invariant-loop-flag : goal.invariant-loop-flag
invariant-loop-flag l = l.names.keys ≡ fold (insert_key same_text) l.fn.names.keys (map (λ (f : FlagDecl). f.name) (take l.flag-index l.flags))
