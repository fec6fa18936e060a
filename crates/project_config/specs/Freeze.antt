-- The bytes of the freeze file, as they are kept.
use Rattle.std.specs.Prelude.{Bool, if◌then◌else◌, codes, Option, Some}
use Rattle.outside_folder.specs.Files.{Bytes}
use Rattle.plan_types.specs.Bytes.{same_text}
use Rattle.project_file.specs.declared.read.ProjectText.{ProjectText}

-- whether the path is that of the freeze file
abbrev pub is_freeze : Bytes → Bool
is_freeze path = same_text path (codes "cabal.project.freeze")

-- the bytes of this file if it is the freeze file, else those kept before
abbrev pub kept : Option Bytes → ProjectText → Option Bytes
kept before text = if is_freeze text.path then Some text.bytes else before
