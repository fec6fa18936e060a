-- Sets of names in the order of insertion.
use Rattle.std.specs.Prelude.{Bool, List, fold}
use Rattle.std.specs.List.{list_any}
use Rattle.indexmap.specs.IndexSet.{insert_key}
use Rattle.outside_folder.specs.Files.{Bytes}
use Rattle.plan_types.specs.Bytes.{same_text}

-- whether a name is among others
abbrev pub is_listed : List Bytes → Bytes → Bool
is_listed names name = list_any (same_text name) names

-- the names with one inserted, if it is new
abbrev pub put : List Bytes → Bytes → List Bytes
put = insert_key same_text

-- the names with all of these inserted
abbrev pub put_all : List Bytes → List Bytes → List Bytes
put_all = fold put
