-- The definitions on small texts.
use Rattle.std.specs.Prelude.{◌≡◌, [], ◌∷◌, refl, codes, Some, None}
use Rattle.plan_types.specs.declared.refusal.Cause.TheVariants.{NeedsVersion}
use Rattle.cabal_lexer.specs.Lines.{trim, trim_start, trim_end, indent}
use Rattle.older_fields.specs.declared.edition.Edition.TheVariants.{V1_10, V1_12, V1_24, V2_0}
use Rattle.older_fields.specs.Editions.{from_numbers}
use Rattle.older_fields.specs.Names.{plain_name, renamed}
use Rattle.older_fields.specs.Refused.{field_fault}

odd_minor : from_numbers (1 ∷ 9 ∷ []) ≡ Some V1_10
odd_minor = refl

three_numbers : from_numbers (1 ∷ 14 ∷ 2 ∷ []) ≡ Some V1_12
three_numbers = refl

no_such_version : from_numbers (2 ∷ 1 ∷ []) ≡ None
no_such_version = refl

not_exact : from_numbers (2 ∷ 0 ∷ 0 ∷ []) ≡ None
not_exact = refl

quoted : plain_name (codes "\"foo bar\"") ≡ codes "foo_bar"
quoted = refl

-- the plain name of the first is that of the second
made_unique : renamed (codes "a.b" ∷ codes "a_b" ∷ []) ≡ (codes "a.b", codes "a_b_") ∷ []
made_unique = refl

-- the sixteen names of this one are taken
none_free : renamed (codes "!" ∷ codes "_" ∷ codes "__" ∷ codes "___" ∷ codes "____" ∷ codes "_____" ∷ codes "______" ∷ codes "_______" ∷ codes "________"
    ∷ codes "_________" ∷ codes "__________" ∷ codes "___________" ∷ codes "____________" ∷ codes "_____________" ∷ codes "______________" ∷ codes "_______________"
    ∷ codes "________________" ∷ []) ≡ []
none_free = refl

caret : field_fault V1_24 7 (codes "build-depends") (codes "base ^>=4" ∷ []) ≡ Some (record { line = 7; cause = NeedsVersion })
unfolding trim trim_start trim_end indent
caret = refl

caret_of_2_0 : field_fault V2_0 7 (codes "build-depends") (codes "base ^>=4" ∷ []) ≡ None
unfolding trim trim_start trim_end indent
caret_of_2_0 = refl

outer_comma : field_fault V2_0 7 (codes "build-depends") (codes "base," ∷ []) ≡ Some (record { line = 7; cause = NeedsVersion })
unfolding trim trim_start trim_end indent
outer_comma = refl
