-- The paths of lists: a path a line; empty lines are skipped.
use Rattle.std.specs.Prelude.{◌≡◌, ◌⊎◌, ℕ, ◌==◌, not, List, [], ◌∷◌, ◌++◌, length, Result, Ok, Err}
use Rattle.std.specs.List.{filter}
use Rattle.std.specs.Str.{IsUtf8}
use Rattle.std.specs.Str.Lines.{lines}
use Rattle.plan_types.specs.Refusal.{refusal_at}
use Rattle.plan_types.specs.declared.refusal.Cause.TheVariants as cause
use Rattle.plan_types.specs.declared.refusal.Refusal.{Refusal}
use Rattle.outside_folder.specs.Calls.{content_at}
use Rattle.outside_folder.specs.Files.{Bytes, Files}
use Rattle.outside_folder.specs.declared.calls.Content.{Content}
use Rattle.outside_folder.specs.declared.calls.Content.TheVariants.{Missing, TooLarge, Bytes as Holds}

abbrev pub paths_in : Bytes → List Bytes
paths_in text = filter (λ line. not (length line == 0)) (lines text)

-- the paths of a list, or the refusal of it
abbrev pub IsListed : Bytes → Content → Result (List Bytes) Refusal → Type 0
IsListed list Missing found = found ≡ Err (refusal_at list 0 cause.NoMatch)
IsListed list TooLarge found = found ≡ Err (refusal_at list 0 cause.TooLarge)
IsListed list (Holds bytes) found =
    ((IsUtf8 bytes → ⊥) × (found ≡ Err (refusal_at list 0 cause.NotUtf8))) ⊎ (IsUtf8 bytes × (found ≡ Ok (paths_in bytes)))

-- these paths, and the paths of the lists behind them
abbrev pub behind : List Bytes → Result (List Bytes) Refusal → Result (List Bytes) Refusal
behind paths (Err refusal) = Err refusal
behind paths (Ok more) = Ok (paths ++ more)

-- a refused list ends the run; otherwise the lists behind it follow
abbrev pub Then : (Result (List Bytes) Refusal → Type 0) → Result (List Bytes) Refusal → Result (List Bytes) Refusal → Type 0
Then AreOthers (Err refusal) found = found ≡ Err refusal
Then AreOthers (Ok paths) found = (more : Result (List Bytes) Refusal) × AreOthers more × (found ≡ behind paths more)

-- the paths of all lists in their order, or the first refusal of one
abbrev pub AreListed : Files → List Bytes → Result (List Bytes) Refusal → Type 0
AreListed files [] found = found ≡ Ok []
AreListed files (list ∷ lists) found =
    (first : Result (List Bytes) Refusal) × IsListed list (content_at files list) first × Then (AreListed files lists) first found
