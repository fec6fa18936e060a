-- The local files of a project.
use Rattle.std.specs.Prelude.{Bool, true, if◌then◌else◌, List, [], ◌∷◌, ◌++◌, codes, fold, Result, Ok, Err}
use Rattle.std.specs.BTreeSet.{insert_key}
use Rattle.std.specs.Cmp.Lexicographic.{slice_cmp}
use Rattle.std.specs.Ordering.{nat_cmp}
use Rattle.plan_types.specs.declared.project.ProjectEntry.{ProjectEntry}
use Rattle.plan_types.specs.declared.refusal.Cause.TheVariants.{NoPackages}
use Rattle.plan_types.specs.declared.refusal.Refusal.{Refusal}
use Rattle.outside_folder.specs.Files.{Bytes, Files}
use Rattle.project_paths.specs.Entries.{entry_files}

-- the implied entry, where there is no `cabal.project`
abbrev pub implied : Bool → List ProjectEntry
implied implicit = if implicit then record { path = codes "cabal.project"; line = 0; text = codes "./*.cabal"; optional = true } ∷ [] else []

-- all entries: the implied one, then those of the project
abbrev pub sought : Bool → List ProjectEntry → List ProjectEntry
sought implicit entries = implied implicit ++ entries

-- the paths of two results, or the first refusal
abbrev pub and_then : Result (List Bytes) Refusal → Result (List Bytes) Refusal → Result (List Bytes) Refusal
and_then (Err refusal) more = Err refusal
and_then (Ok paths) (Err refusal) = Err refusal
and_then (Ok paths) (Ok more) = Ok (paths ++ more)

-- the paths of all entries, in their order, or the first refusal
abbrev pub all_files : Files → List ProjectEntry → Result (List Bytes) Refusal
all_files files [] = Ok []
all_files files (entry ∷ entries) = and_then (entry_files files entry) (all_files files entries)

-- paths in byte order, each once
abbrev pub in_order : List Bytes → List Bytes
in_order paths = fold (insert_key (slice_cmp nat_cmp)) [] paths

-- the refusal of a project without packages
abbrev pub no_packages : Refusal
no_packages = record { path = codes "."; line = 0; cause = NoPackages; detail = [] }

-- the paths, or a refusal if there are none
abbrev pub unless_none : List Bytes → Result (List Bytes) Refusal
unless_none [] = Err no_packages
unless_none (path ∷ paths) = Ok (path ∷ paths)

-- the paths in byte order, each once, or a refusal if there are none
abbrev pub finished : List Bytes → Result (List Bytes) Refusal
finished found = unless_none (in_order found)

-- the same for a result; a refusal is unchanged
abbrev pub finished_of : Result (List Bytes) Refusal → Result (List Bytes) Refusal
finished_of (Ok found) = finished found
finished_of (Err refusal) = Err refusal

-- the local files of these entries in byte order, each once; or the first refusal, or the one for no files at all
abbrev pub local_files : Files → List ProjectEntry → Result (List Bytes) Refusal
local_files files entries = finished_of (all_files files entries)
