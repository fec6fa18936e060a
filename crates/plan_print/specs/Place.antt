-- A place in a file.
use Rattle.std.specs.Prelude.{ℕ, ◌==◌, List, ◌++◌, codes, if◌then◌else◌}
use Rattle.std.specs.Fmt.{decimal}

-- a path, and its line unless that is 0
abbrev pub place_text : List ℕ → ℕ → List ℕ
place_text path line = if line == 0 then path else path ++ codes ":" ++ decimal line
