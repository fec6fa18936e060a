-- The state after some of the project files.
use Rattle.std.proofs.Common.{◌≡◌, Bool, true, false, ◌||◌, List, [], ◌∷◌, ◌++◌, length, codes, Option, Some, None, refl, sym, ap, ◌∙◌, append_assoc, if◌then◌else◌}
use Rattle.std.specs.Prelude.{nat_lt}
use Rattle.std.proofs.Math.Bool.{or-false, or_assoc}
use Rattle.outside_folder.specs.Calls.{content_at, content_of}
use Rattle.outside_folder.specs.Files.{Bytes, Files, file_at}
use Rattle.outside_folder.specs.Folder.{file_limit}
use Rattle.outside_folder.specs.declared.calls.Content.{Content}
use Rattle.outside_folder.specs.declared.calls.Content.TheVariants.{Missing, TooLarge, Bytes as Holds}
use Rattle.project_file.specs.declared.read.ProjectText.{ProjectText}
use Rattle.project_config.specs.Freeze.{kept}
use Rattle.project_config.specs.Project.{first_too_large, freeze_bytes, is_implicit, is_main, is_missing, large_or, project_files, texts_among, with_text}

abbrev pub missed_or : Bytes → Content → Bool → Bool
missed_or path Missing behind = is_main path || behind
missed_or path TooLarge behind = false
missed_or path (Holds bytes) behind = behind

-- no `cabal.project` was found at these paths, up to the first file that is too large
abbrev pub is_missed : Files → List Bytes → Bool
is_missed files [] = false
is_missed files (path ∷ paths) = missed_or path (content_at files path) (is_missed files paths)

-- the kept freeze file after one more path
abbrev pub kept_with : Option Bytes → Bytes → Content → Option Bytes
kept_with before path Missing = before
kept_with before path TooLarge = before
kept_with before path (Holds bytes) = kept before (record { path = path; bytes = bytes })

-- the kept freeze file after all these paths
abbrev pub kept_among : Files → Option Bytes → List Bytes → Option Bytes
kept_among files before [] = before
kept_among files before (path ∷ paths) = kept_among files (kept_with before path (content_at files path)) paths

-- the state so far, continued over the rest of the paths, is that over all paths
pub record GoesOn (files : Files) (paths : List Bytes) (read : List ProjectText) (missed : Bool) (freeze : Option Bytes) (rest : List Bytes) : Type 0 where
  pub texts : texts_among files paths ≡ read ++ texts_among files rest
  pub large : first_too_large files paths ≡ first_too_large files rest
  pub missed_is : is_missed files paths ≡ (missed || is_missed files rest)
  pub kept_is : kept_among files None paths ≡ kept_among files freeze rest

module _ (files : Files) (paths : List Bytes) (read : List ProjectText) (missed : Bool) (freeze : Option Bytes) (path : Bytes) (rest : List Bytes) (goes : GoesOn files paths read missed freeze (path ∷ rest)) where
  -- one more file
  pub more_read : (bytes : Bytes) → Holds bytes ≡ content_at files path →
      GoesOn files paths (read ++ record { path = path; bytes = bytes } ∷ []) missed (kept freeze (record { path = path; bytes = bytes })) rest
  more_read bytes is = record {
    texts =
        goes.texts ∙ ap (λ c. read ++ with_text path c (texts_among files rest)) (sym is)
        ∙ sym (append_assoc read (record { path = path; bytes = bytes } ∷ []) (texts_among files rest));
    large = goes.large ∙ ap (λ c. large_or path c (first_too_large files rest)) (sym is);
    missed_is = goes.missed_is ∙ ap (λ c. missed || missed_or path c (is_missed files rest)) (sym is);
    kept_is = goes.kept_is ∙ ap (λ c. kept_among files (kept_with freeze path c) rest) (sym is);
  }

  -- a missing file
  pub none_read : Missing ≡ content_at files path → GoesOn files paths read (missed || is_main path) freeze rest
  none_read is = record {
    texts = goes.texts ∙ ap (λ c. read ++ with_text path c (texts_among files rest)) (sym is);
    large = goes.large ∙ ap (λ c. large_or path c (first_too_large files rest)) (sym is);
    missed_is =
        goes.missed_is ∙ ap (λ c. missed || missed_or path c (is_missed files rest)) (sym is)
        ∙ sym (or_assoc missed (is_main path) (is_missed files rest));
    kept_is = goes.kept_is ∙ ap (λ c. kept_among files (kept_with freeze path c) rest) (sym is);
  }

-- ---- after all files

-- only the main file counts as missed
main_alone : (main freeze local : Content) → missed_or (codes "cabal.project") main (missed_or (codes "cabal.project.freeze") freeze (missed_or (codes "cabal.project.local") local false)) ≡ is_missing main
main_alone Missing freeze local = refl
main_alone TooLarge freeze local = refl
main_alone (Holds bytes) Missing Missing = refl
main_alone (Holds bytes) Missing TooLarge = refl
main_alone (Holds bytes) Missing (Holds more) = refl
main_alone (Holds bytes) TooLarge local = refl
main_alone (Holds bytes) (Holds other) Missing = refl
main_alone (Holds bytes) (Holds other) TooLarge = refl
main_alone (Holds bytes) (Holds other) (Holds more) = refl

-- only the freeze file is kept

held : Content → Option Bytes
held Missing = None
held TooLarge = None
held (Holds bytes) = Some bytes

main_kept : (before : Option Bytes) (main : Content) → kept_with before (codes "cabal.project") main ≡ before
main_kept before Missing = refl
main_kept before TooLarge = refl
main_kept before (Holds bytes) = refl

freeze_kept : (freeze : Content) → kept_with None (codes "cabal.project.freeze") freeze ≡ held freeze
unfolding held
freeze_kept Missing = refl
freeze_kept TooLarge = refl
freeze_kept (Holds bytes) = refl

local_kept : (before : Option Bytes) (local : Content) → kept_with before (codes "cabal.project.local") local ≡ before
local_kept before Missing = refl
local_kept before TooLarge = refl
local_kept before (Holds bytes) = refl

held-is : (found : Option Bytes) → (content_of found ≡ TooLarge → ⊥) → held (content_of found) ≡ found
unfolding held
held-is None never = refl
held-is (Some bytes) never = by (nat_lt file_limit (length bytes)) refl
  where
    by : (large : Bool) → nat_lt file_limit (length bytes) ≡ large → held (if large then TooLarge else Holds bytes) ≡ Some bytes
    by true e = absurd (never (ap (λ b. if b then TooLarge else Holds bytes) e))
    by false e = refl

-- if no file is too large, the freeze file isn't
not_large : (main freeze local : Content)
    → large_or (codes "cabal.project") main (large_or (codes "cabal.project.freeze") freeze (large_or (codes "cabal.project.local") local None)) ≡ None → freeze ≡ TooLarge → ⊥
not_large main freeze local none large =
    by main (ap (λ c. large_or (codes "cabal.project") main (large_or (codes "cabal.project.freeze") c (large_or (codes "cabal.project.local") local None))) (sym large) ∙ none)
  where
    by : (main : Content) → large_or (codes "cabal.project") main (Some (codes "cabal.project.freeze")) ≡ None → ⊥
    by Missing e = cc e
    by TooLarge e = cc e
    by (Holds bytes) e = cc e

module _ (files : Files) (read : List ProjectText) (missed : Bool) (freeze : Option Bytes) (goes : GoesOn files project_files read missed freeze []) where
  abbrev main : Content
  main = content_at files (codes "cabal.project")

  abbrev frozen : Content
  frozen = content_at files (codes "cabal.project.freeze")

  abbrev local : Content
  local = content_at files (codes "cabal.project.local")

  -- whether there is no main file
  pub implicit_at_end : missed ≡ is_implicit files
  implicit_at_end = sym (or-false missed) ∙ sym goes.missed_is ∙ main_alone main frozen local

  -- the bytes of the freeze file
  pub kept_at_end : freeze ≡ freeze_bytes files
  kept_at_end =
      sym goes.kept_is ∙ local_kept (kept_with (kept_with None (codes "cabal.project") main) (codes "cabal.project.freeze") frozen) local
      ∙ ap (λ before. kept_with before (codes "cabal.project.freeze") frozen) (main_kept None main) ∙ freeze_kept frozen
      ∙ held-is (file_at files (codes "cabal.project.freeze")) (λ large. not_large main frozen local goes.large large)
