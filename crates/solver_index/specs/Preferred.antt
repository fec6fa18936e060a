-- The preferred ranges of a project, kept by name.
use Rattle.std.specs.Prelude.{◌≡◌, List}
use Rattle.std.specs.declared.hash.FoldHasher.{FoldHasher}
use Rattle.std.specs.declared.hash.BuildHasherDefault.{BuildHasherDefault}
use Rattle.indexmap.specs.IndexMap.{IndexMap}
use Rattle.plan_types.specs.Bytes.{same_text}
use Rattle.plan_types.specs.declared.project.Project.{Project}
use Rattle.plan_types.specs.declared.range.Range.{Range}
use Rattle.keyed_lists.specs.Lists.{items_at}
use Rattle.qualified_goals.specs.Names.{Name}
use Rattle.solver_index.specs.Orders.{preferred_of}

-- ranges, by the names of their packages
abbrev pub RangesByName : Type 0
RangesByName = IndexMap Name (List Range) (BuildHasherDefault FoldHasher)

-- for each name, the ranges are those that the project prefers
abbrev pub ArePreferred : Project → RangesByName → Type 0
ArePreferred project ranges = (name : Name) → items_at same_text ranges name ≡ preferred_of project name
