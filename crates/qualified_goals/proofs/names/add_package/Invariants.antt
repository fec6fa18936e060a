-- the names of the entries so far
use Rattle.std.proofs.Common.{◌≡◌, map, fold, flat_map, take}
use Rattle.indexmap.specs.IndexSet.{insert_key}
use Rattle.plan_types.specs.declared.description.FlagDecl.{FlagDecl}
use Rattle.plan_types.specs.declared.index.Entry.{Entry}
use Rattle.plan_types.specs.Bytes.{same_text}
use Rattle.plan_types.specs.Packages.{declared_by}
use Rattle.qualified_goals.proofs.names.add_package.Given as goal

abbrev pub invariant-loop-entry : goal.invariant-loop-entry
invariant-loop-entry l = l.names.keys ≡ fold (insert_key same_text) l.fn.names.keys (map (λ (f : FlagDecl). f.name) (flat_map (λ (e : Entry). declared_by e.body) (take l.entry-index l.fn.«package».entries)))
