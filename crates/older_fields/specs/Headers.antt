-- The cabal-version of a file. Sources: Cabal 3.4.1, parseGenericPackageDescription' and SpecVersion.
use Rattle.std.specs.Prelude.{◌≡◌, ℕ, Bool, true, false, ◌||◌, if◌then◌else◌, List, [], ◌∷◌, take, codes, Option, Some, None, Result, Ok, Err}
use Rattle.plan_types.specs.declared.element.Element.{Element}
use Rattle.plan_types.specs.declared.range.Spec.TheVariants.{V2_4 as modern}
use Rattle.plan_types.specs.declared.range.Range.{Range}
use Rattle.plan_types.specs.declared.range.Range.TheOpen.{Range-F, Any, Nothing, Equal, Prefix, AtLeast, Above, AtMost, Below, Major, Both, Either}
use Rattle.plan_types.specs.declared.range.Range.TheFolds.{fold-Range}
use Rattle.plan_types.specs.declared.refusal.Cause.{Cause}
use Rattle.plan_types.specs.declared.refusal.Cause.TheVariants.{WrongCabalVersion, MissingField}
use Rattle.plan_types.specs.declared.version.Version.{Version}
use Rattle.version_range.specs.Version.{IsVersionOf}
use Rattle.version_range.specs.Grammar.{Stands, FirstFault}
use Rattle.older_fields.specs.declared.edition.Edition.{Edition}
use Rattle.older_fields.specs.declared.edition.Edition.TheVariants.{V1_0, V2_2}
use Rattle.older_fields.specs.declared.header.Header.{Header}
use Rattle.older_fields.specs.Editions.{before, from_numbers}
use Rattle.older_fields.specs.Items.{is_field_named, last_named, leading, line_of, text_of}

abbrev pub upper_step : Range-F Bool → Bool
upper_step Any = false
upper_step Nothing = false
upper_step (Equal x) = false
upper_step (Prefix x) = false
upper_step (AtLeast x) = false
upper_step (Above x) = false
upper_step (AtMost x) = true
upper_step (Below x) = true
upper_step (Major x) = false
upper_step (Both left right) = false
upper_step (Either left right) = false

-- `<` or `<=` and a version
abbrev pub is_upper : Range → Bool
is_upper = fold-Range Bool upper_step

-- a range as it counts in a header
pub record Bound : Type 0 where
  pub numbers : Option (List ℕ)
  pub upper : Bool

abbrev pub bound_step : Range-F Bound → Bound
bound_step Any = record { numbers = Some []; upper = false }
bound_step Nothing = record { numbers = Some []; upper = false }
bound_step (Equal x) = record { numbers = Some x.parts; upper = false }
bound_step (Prefix x) = record { numbers = Some x.parts; upper = false }
bound_step (AtLeast x) = record { numbers = Some x.parts; upper = false }
bound_step (Above x) = record { numbers = Some x.parts; upper = false }
bound_step (AtMost x) = record { numbers = Some []; upper = true }
bound_step (Below x) = record { numbers = Some []; upper = true }
bound_step (Major x) = record { numbers = None; upper = false }
bound_step (Both left right) = record { numbers = if right.upper then left.numbers else None; upper = false }
bound_step (Either left right) = record { numbers = None; upper = false }

-- The numbers of the lower bound: that of the first operand. The others may only be upper bounds, which don't count.
abbrev pub lower : Range → Option (List ℕ)
lower range = (fold-Range Bound bound_step range).numbers

-- a range may state a version before 2.1
abbrev pub older : Option Edition → Option Edition
older None = None
older (Some edition) = if before edition V2_2 then Some edition else None

abbrev pub from_lower : Option (List ℕ) → Option Edition
from_lower None = None
from_lower (Some numbers) = older (from_numbers numbers)

abbrev pub from_range : Range → Option Edition
from_range range = from_lower (lower range)

-- a version, or the lower bound of a range
abbrev pub edition_of : Option Version → Option Range → Option Edition
edition_of (Some version) range = from_numbers version.parts
edition_of None (Some range) = from_range range
edition_of None None = None

-- the range of a text, if it is one
abbrev pub IsRangeOf : List ℕ → Option Range → Type 0
IsRangeOf text (Some range) = Stands modern 64 text range
IsRangeOf text None = (cause : Cause) × FirstFault modern 64 text cause

-- the version that the text of a header means, if it means one
abbrev pub IsStatedBy : List ℕ → Option Edition → Type 0
IsStatedBy text found = (version : Option Version) × (range : Option Range) × IsVersionOf text version × IsRangeOf text range × (found ≡ edition_of version range)

abbrev pub is_first : List Element → Bool
is_first [] = false
is_first (item ∷ items) = is_field_named (codes "cabal-version") item

-- from 2.2 on the header comes first
abbrev pub judged : ℕ → Bool → Option Edition → Result Header (ℕ × Cause)
judged line first None = Err (line, WrongCabalVersion)
judged line first (Some edition) =
    if first || before edition V2_2 then Ok (record { line = line; edition = edition }) else Err (line, MissingField)

-- the header in this field, or the refusal of it
abbrev pub IsHeaderIn : List Element → Option Element → Result Header (ℕ × Cause) → Type 0
IsHeaderIn items None found = found ≡ Ok (record { line = 1; edition = V1_0 })
IsHeaderIn items (Some item) found = (edition : Option Edition) × IsStatedBy (text_of item) edition × (found ≡ judged (line_of item) (is_first items) edition)

-- The header of a file: its last field `cabal-version` before the first section; 1.0 if there is none.
abbrev pub IsHeader : List Element → Result Header (ℕ × Cause) → Type 0
IsHeader items found = IsHeaderIn items (last_named (codes "cabal-version") (take (leading items) items)) found
