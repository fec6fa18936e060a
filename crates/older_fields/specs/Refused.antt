-- Texts that need a later cabal-version: Cabal refuses them. Sources: Cabal 3.4.1, VersionRange (`^>=` from 2.0 on) and
-- parsecCommaList (outer commas from 2.2 on). Sets of versions and named libraries are refused under 2.4 too.
use Rattle.std.specs.Prelude.{ℕ, Bool, true, false, ◌&&◌, ◌||◌, ◌==◌, if◌then◌else◌, List, length, ◌-◌, slice_index, codes, Option, Some, None}
use Rattle.std.specs.List.{list_any}
use Rattle.plan_types.specs.Bytes.{begins_with, joined_text, same_text}
use Rattle.plan_types.specs.declared.refusal.Cause.TheVariants.{NeedsVersion}
use Rattle.cabal_lexer.specs.Lines.{trim}
use Rattle.cabal_lexer.specs.Tree.{Tree, end, field, section}
use Rattle.older_fields.specs.declared.edition.Edition.{Edition}
use Rattle.older_fields.specs.declared.edition.Edition.TheVariants.{V2_0, V2_2}
use Rattle.older_fields.specs.declared.refused.At.{At}
use Rattle.older_fields.specs.Editions.{before}

abbrev pub is_depends : List ℕ → Bool
is_depends name =
    if same_text name (codes "build-depends") then true
    else if same_text name (codes "build-tool-depends") then true
    else if same_text name (codes "setup-depends") then true
    else false

abbrev pub has_caret : List ℕ → Bool
has_caret text = list_any (λ b. b == 94) text

abbrev pub ends_with_comma : List ℕ → Bool
ends_with_comma text = slice_index text (length text - 1) == 44

-- a comma before the first entry or after the last
abbrev pub has_outer_comma : List ℕ → Bool
has_outer_comma text = begins_with 44 (trim text) || ends_with_comma (trim text)

abbrev pub is_later : Edition → List ℕ → Bool
is_later edition text = (before edition V2_0 && has_caret text) || (before edition V2_2 && has_outer_comma text)

abbrev pub later_at : Edition → ℕ → List ℕ → Option At
later_at edition line text = if is_later edition text then Some (record { line = line; cause = NeedsVersion }) else None

abbrev pub field_fault : Edition → ℕ → List ℕ → List (List ℕ) → Option At
field_fault edition line name values = if is_depends name then later_at edition line (joined_text values) else None

abbrev pub or_else : Option At → Option At → Option At
or_else None other = other
or_else (Some at) other = Some at

-- the first such text
unfoldable pub first_fault : Edition → Tree → Option At
first_fault edition end = None
first_fault edition (field line name values behind) = or_else (field_fault edition line name values) (first_fault edition behind)
first_fault edition (section line name args items behind) = or_else (first_fault edition items) (first_fault edition behind)
