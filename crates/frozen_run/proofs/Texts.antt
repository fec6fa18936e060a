-- The project files of a folder, with other bytes in the freeze file.
use Rattle.std.proofs.Common.{◌≡◌, ℕ, true, false, List, [], ◌∷◌, ◌++◌, length, Option, Some, None, Ok, refl, sym, ap, ◌∙◌, subst, append-nil}
use Rattle.std.specs.Prelude.{codes, nat_lt, if◌then◌else◌}
use Rattle.std.specs.List.{AllByRecursion}
use Rattle.plan_types.specs.declared.condition.Env.{Env}
use Rattle.plan_types.specs.declared.constraint.Constraint.{Constraint}
use Rattle.plan_types.specs.declared.project.Project.{Project}
use Rattle.cabal_lexer.specs.RoundTrip.{ends_with_return}
use Rattle.outside_folder.specs.Calls.{content_of}
use Rattle.outside_folder.specs.Files.{Bytes}
use Rattle.outside_folder.specs.Folder.{file_limit}
use Rattle.outside_folder.specs.declared.calls.Content.{Content}
use Rattle.outside_folder.specs.declared.calls.Content.TheVariants.{Missing, TooLarge, Bytes as Holds}
use Rattle.project_file.specs.Read.{IsProject}
use Rattle.project_file.specs.declared.read.ProjectText.{ProjectText}
use Rattle.project_config.specs.Project.{large_or, with_text}
use Rattle.freeze_text.specs.Reads.{Adds, IsPlainConstraint, text_at}
use Rattle.freeze_text.specs.Text.{freeze_text, refrozen_text}
use Rattle.plan_command.specs.Form.{old_freeze_text}

abbrev main : Bytes
main = codes "cabal.project"

abbrev freeze : Bytes
freeze = codes "cabal.project.freeze"

abbrev local : Bytes
local = codes "cabal.project.local"

-- the texts of three files, and the first of them that is too large
abbrev pub texts_of : Content → Content → Content → List ProjectText
texts_of m f l = with_text (codes "cabal.project") m (with_text (codes "cabal.project.freeze") f (with_text (codes "cabal.project.local") l []))

abbrev pub large_of : Content → Content → Content → Option Bytes
large_of m f l = large_or (codes "cabal.project") m (large_or (codes "cabal.project.freeze") f (large_or (codes "cabal.project.local") l None))

abbrev file_of : Bytes → Content → List ProjectText
file_of path Missing = []
file_of path TooLarge = []
file_of path (Holds bytes) = text_at path bytes ∷ []

-- a file that isn't too large
record IsSmall (path : Bytes) (content : Content) : Type 0 where
  texts : (behind : List ProjectText) → with_text path content behind ≡ file_of path content ++ behind
  large : (behind : Option Bytes) → large_or path content behind ≡ behind

is-small : (path : Bytes) (content : Content) (behind : Option Bytes) → large_or path content behind ≡ None → IsSmall path content
is-small path Missing behind h = record { texts = λ behind. refl; large = λ behind. refl }
is-small path TooLarge behind h = absurd (cc h)
is-small path (Holds bytes) behind h = record { texts = λ behind. refl; large = λ behind. refl }

module _ (m l : Content) where
  -- a file that is read, between two that aren't too large
  module _ (f : Content) (behind : (rest : Option Bytes) → large_or (codes "cabal.project.freeze") f rest ≡ rest) (none : large_of m f l ≡ None) where
    small-main : IsSmall main m
    small-main = is-small main m (large_or freeze f (large_or local l None)) none

    small-local : IsSmall local l
    small-local = is-small local l None (sym (behind (large_or local l None)) ∙ sym (small-main.large (large_or freeze f (large_or local l None))) ∙ none)

  still-small : IsSmall main m → IsSmall local l → (bytes : Bytes) → large_of m (Holds bytes) l ≡ None
  still-small first last bytes = first.large (large_or local l None) ∙ last.large None

  texts-with : IsSmall main m → IsSmall local l → (bytes : Bytes) → texts_of m (Holds bytes) l ≡ file_of main m ++ text_at freeze bytes ∷ file_of local l
  texts-with first last bytes =
      first.texts (text_at freeze bytes ∷ with_text local l []) ∙ ap (λ texts. file_of main m ++ text_at freeze bytes ∷ texts) (last.texts [] ∙ append-nil (file_of local l))

  texts-without : IsSmall main m → IsSmall local l → texts_of m Missing l ≡ file_of main m ++ file_of local l
  texts-without first last = first.texts (with_text local l []) ∙ ap (λ texts. file_of main m ++ texts) (last.texts [] ∙ append-nil (file_of local l))

-- what the law of texts says

abbrev pub AddsAlone : Type 0
AddsAlone = (env : Env) (front behind : List ProjectText) (path : List ℕ) (constraints : List Constraint) (project : Project)
    → AllByRecursion IsPlainConstraint constraints → IsProject env (front ++ behind) (Ok project)
    → Adds env (front ++ text_at path (freeze_text constraints) ∷ behind) project constraints

abbrev pub AddsBehind : Type 0
AddsBehind = (env : Env) (front behind : List ProjectText) (path before : List ℕ) (constraints : List Constraint) (project : Project)
    → AllByRecursion IsPlainConstraint constraints → ends_with_return before ≡ false
    → IsProject env (front ++ text_at path before ∷ behind) (Ok project)
    → Adds env (front ++ text_at path (refrozen_text before constraints) ∷ behind) project constraints

-- the project with the printed text as its freeze file, which isn't too large
pub record IsTold (env : Env) (m l : Content) (text : Bytes) (project : Project) (constraints : List Constraint) : Type 0 where
  pub small : large_of m (Holds text) l ≡ None
  pub adds : Adds env (texts_of m (Holds text) l) project constraints

module _ (alone : AddsAlone) (behind : AddsBehind) (env : Env) (m l : Content) (constraints : List Constraint) (project : Project) (are : AllByRecursion IsPlainConstraint constraints) where
  told : IsSmall main m → IsSmall local l → (text : Bytes) → Adds env (file_of main m ++ text_at freeze text ∷ file_of local l) project constraints → IsTold env m l text project constraints
  told first last text adds = record {
    small = still-small m l first last text;
    adds = subst (λ texts. Adds env texts project constraints) (sym (texts-with m l first last text)) adds;
  }

  without-file : large_of m Missing l ≡ None → IsProject env (texts_of m Missing l) (Ok project) → IsTold env m l (freeze_text constraints) project constraints
  without-file none read =
      let first = small-main m l Missing (λ rest. refl) none in
      let last = small-local m l Missing (λ rest. refl) none in
      told first last (freeze_text constraints)
      (alone env (file_of main m) (file_of local l) freeze constraints project are (subst (λ texts. IsProject env texts (Ok project)) (texts-without m l first last) read))

  with-file : (bytes : Bytes) → ends_with_return bytes ≡ false → large_of m (Holds bytes) l ≡ None → IsProject env (texts_of m (Holds bytes) l) (Ok project)
      → IsTold env m l (refrozen_text bytes constraints) project constraints
  with-file bytes plainly none read =
      let first = small-main m l (Holds bytes) (λ rest. refl) none in
      let last = small-local m l (Holds bytes) (λ rest. refl) none in
      told first last (refrozen_text bytes constraints)
      (behind env (file_of main m) (file_of local l) freeze bytes constraints project are plainly (subst (λ texts. IsProject env texts (Ok project)) (texts-with m l first last bytes) read))

  too-large : large_of m TooLarge l ≡ None → ⊥
  too-large none =
      let first = is-small main m (Some freeze) none in
      cc (sym (first.large (Some freeze)) ∙ none)

  pub any-file : (before : Option Bytes) → ends_with_return (old_freeze_text before) ≡ false → large_of m (content_of before) l ≡ None
      → IsProject env (texts_of m (content_of before) l) (Ok project) → IsTold env m l (refrozen_text (old_freeze_text before) constraints) project constraints
  any-file None plainly none read = without-file none read
  any-file (Some bytes) plainly none read =
      elim (nat_lt file_limit (length bytes)) as (λ t. large_of m (if t then TooLarge else Holds bytes) l ≡ None → IsProject env (texts_of m (if t then TooLarge else Holds bytes) l) (Ok project)
      → IsTold env m l (refrozen_text bytes constraints) project constraints) [
        | true ↦ λ large read. absurd (too-large large)
        | false ↦ with-file bytes plainly
      ] none read
