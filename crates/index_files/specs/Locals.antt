-- The local packages of a folder.
use Rattle.std.specs.Prelude.{◌≡◌, List, [], true, map, position}
use Rattle.std.specs.declared.result.Result.{Result}
use Rattle.std.specs.declared.result.Result.TheVariants.{Ok, Err}
use Rattle.plan_types.specs.declared.condition.Env.{Env}
use Rattle.plan_types.specs.declared.refusal.Cause.TheVariants.{DuplicateLocal}
use Rattle.plan_types.specs.Refusal.{refusal_at}
use Rattle.plan_types.specs.declared.refusal.Refusal.{Refusal}
use Rattle.description.specs.declared.fault_order.At.{At}
use Rattle.outside_folder.specs.Files.{Bytes, Files}
use Rattle.plan_types.specs.declared.index.Source.{Source}
use Rattle.index_files.specs.File.{file_found}
use Rattle.index_files.specs.InTurn.{InTurn}
use Rattle.index_files.specs.OnceEach.{unless_there}
use Rattle.index_files.specs.Sources.{Comes}
use Rattle.index_files.specs.declared.file.ReadFile.{ReadFile}
use Rattle.index_files.specs.declared.local.Local.{Local}
use Rattle.plan_types.specs.Bytes.{same_text}

-- the name of a local package
abbrev pub local_name : Local → Bytes
local_name local = local.source.description.name

-- the names of local packages
abbrev pub local_names : List Local → List Bytes
local_names locals = map local_name locals

-- the path of a local package's file
abbrev pub local_path : Local → Bytes
local_path local = local.path

-- a local package appended, or refused if its name is there already
abbrev pub with_local : List Local → Local → Result (List Local) Refusal
with_local locals local = unless_there local_path DuplicateLocal (position (same_text (local_name local)) (local_names locals)) locals local

-- the outcome of appending the local package of a file
abbrev pub TakesLocal : List Local → Bytes → Source → Result (List Local) Refusal → Type 0
TakesLocal locals path source outcome = with_local locals (record { path = path; source = source }) ≡ outcome

-- the local package of a file appended, or the refusal of its fault
abbrev pub with_file : List Local → ReadFile → Result Source At → Result (List Local) Refusal
with_file locals file (Ok source) = with_local locals (record { path = file.path; source = source })
with_file locals file (Err at) = Err (refusal_at file.path at.line at.cause)

-- the outcome of a local package's file
abbrev pub FileComes : Env → ReadFile → Result Source At → Type 0
FileComes env file outcome = Comes env file.content outcome

-- the local packages of these files, or the first refusal
abbrev pub AreLocals : Env → List ReadFile → Result (List Local) Refusal → Type 0
AreLocals env files outcome = InTurn (FileComes env) with_file [] files outcome

-- the local packages at these paths of a folder, or the first refusal
abbrev pub ReadsLocals : Env → List Bytes → Files → Result (List Local) Refusal → Type 0
ReadsLocals env paths files outcome = AreLocals env (map (file_found true files) paths) outcome
