-- The local files of an entry of a project, or its refusal.
use Rattle.std.specs.Prelude.{Bool, if◌then◌else◌, nat_le, List, [], ◌∷◌, length, codes, map, filter, flat_map, fold, Option, Some, None, Result, Ok, Err}
use Rattle.std.specs.Cmp.Lexicographic.{slice_cmp}
use Rattle.std.specs.Ordering.{is_lt, nat_cmp}
use Rattle.plan_types.specs.declared.project.ProjectEntry.{ProjectEntry}
use Rattle.plan_types.specs.declared.refusal.Cause.{Cause}
use Rattle.plan_types.specs.declared.refusal.Cause.TheVariants.{NoMatch, TwoCabalFiles, Unsupported}
use Rattle.plan_types.specs.declared.refusal.Refusal.{Refusal}
use Rattle.outside_folder.specs.Files.{Bytes, Files}
use Rattle.project_paths.specs.Found.{found_by}
use Rattle.project_paths.specs.Patterns.{pattern_of}
use Rattle.project_paths.specs.declared.found.MatchedFiles.{MatchedFiles}
use Rattle.project_paths.specs.declared.pattern.Pattern.{Pattern}

-- the refusal of an entry
abbrev pub refusal_of : ProjectEntry → Cause → Bytes → Refusal
refusal_of entry cause detail = record { path = entry.path; line = entry.line; cause = cause; detail = detail }

-- a directory with two local files or more
abbrev pub is_crowded : MatchedFiles → Bool
is_crowded found = nat_le 2 (length found.files)

-- the lesser of two paths in byte order; the first may be missing
abbrev pub lesser : Option Bytes → Bytes → Bytes
lesser None path = path
lesser (Some first) path = if is_lt (slice_cmp nat_cmp path first) then path else first

-- the first of these paths in byte order
abbrev pub least : List Bytes → Option Bytes
least paths = fold (λ first path. Some (lesser first path)) None paths

-- the first directory in byte order with two local files or more
abbrev pub first_crowded : List MatchedFiles → Option Bytes
first_crowded found = least (map (λ f. f.path) (filter is_crowded found))

-- a directory's path as it is printed: `.` for the root
abbrev pub shown : Bytes → Bytes
shown [] = codes "."
shown (b ∷ bs) = b ∷ bs

-- the local files; a refusal if there are none and the entry isn't optional
abbrev pub unless_none : ProjectEntry → List Bytes → Result (List Bytes) Refusal
unless_none entry [] = if entry.optional then Ok [] else Err (refusal_of entry NoMatch entry.text)
unless_none entry (path ∷ paths) = Ok (path ∷ paths)

-- a refusal if a directory has several local files; otherwise as above
abbrev pub unless_crowded : Option Bytes → ProjectEntry → List Bytes → Result (List Bytes) Refusal
unless_crowded None entry paths = unless_none entry paths
unless_crowded (Some dir) entry paths = Err (refusal_of entry TwoCabalFiles (shown dir))

-- the local files at the places found, or a refusal
abbrev pub judged : ProjectEntry → List MatchedFiles → Result (List Bytes) Refusal
judged entry found = unless_crowded (first_crowded found) entry (flat_map (λ f. f.files) found)

-- the local files of a pattern, or a refusal; without a pattern, the entry is unsupported
abbrev pub files_by : Files → ProjectEntry → Option Pattern → Result (List Bytes) Refusal
files_by files entry None = Err (refusal_of entry Unsupported [])
files_by files entry (Some pattern) = judged entry (found_by files pattern)

-- the paths of the local files of an entry, or its refusal
abbrev pub entry_files : Files → ProjectEntry → Result (List Bytes) Refusal
entry_files files entry = files_by files entry (pattern_of entry.text)
