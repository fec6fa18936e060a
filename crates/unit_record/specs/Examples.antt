-- The definitions on small records.
use Rattle.std.specs.Prelude.{◌≡◌, refl, true, false, [], ◌∷◌, ◌++◌, codes, Some, None, Ok, Err}
use Rattle.plan_types.specs.declared.element.Element.TheVariants.{Field, Section}
use Rattle.text_grammar.specs.Words.{words}
use Rattle.text_grammar.specs.declared.word.Between.TheVariants.{BlanksAndCommas}
use Rattle.unit_record.specs.Words.{is_unit_id}
use Rattle.unit_record.specs.Fields.{top_fields}
use Rattle.unit_record.specs.Folds.{of_field, of_section}
use Rattle.unit_record.specs.Record.{outcome, contents}
use Rattle.unit_record.specs.declared.field.RecordSaid.TheVariants as said

words_of_depends : words BlanksAndCommas (codes "a-1, b-2  c") ≡ codes "a-1" ∷ codes "b-2" ∷ codes "c" ∷ []
words_of_depends = refl

no_words : words BlanksAndCommas (codes " ,") ≡ []
no_words = refl

one_word : is_unit_id (codes "base-4.18-inplace") ≡ true
one_word = refl

two_words : is_unit_id (codes "a b") ≡ false
two_words = refl

-- a field in a section is unread
beside_the_sections : top_fields (Field 1 (codes "id") (codes "a" ∷ codes "b" ∷ []) ∷ Section 2 (codes "s") [] (Field 3 (codes "id") [] ∷ []) ∷ []) ≡ record { line = 1; name = codes "id"; text = codes "a b" } ∷ []
beside_the_sections i = of_field 1 (codes "id") (codes "a" ∷ codes "b" ∷ []) i ++ (of_section 2 (codes "s") [] (Field 3 (codes "id") [] ∷ []) i ++ [])

-- the last id counts, and several lists of needs add up
unit : outcome (contents (record { line = 1; said = said.Id (Some (codes "a")) } ∷ record { line = 2; said = said.Depends (codes "x" ∷ []) }
    ∷ record { line = 3; said = said.Name (Some (codes "n")) } ∷ record { line = 4; said = said.Depends (codes "y" ∷ []) }
    ∷ record { line = 5; said = said.Id (Some (codes "b")) } ∷ record { line = 6; said = said.Version (Some (record { parts = 1 ∷ [] })) } ∷ []))
    ≡ Ok (Some (record { name = codes "n"; version = record { parts = 1 ∷ [] }; id = codes "b"; depends = codes "x" ∷ codes "y" ∷ [] }))
unit = refl

-- a bad id is a fault even if a good one follows, and comes before a missing name
bad_id : outcome (contents (record { line = 1; said = said.Id None } ∷ record { line = 2; said = said.Id (Some (codes "a")) } ∷ record { line = 3; said = said.Version None } ∷ [])) ≡ Err 1
bad_id = refl

no_name : outcome (contents (record { line = 2; said = said.Id (Some (codes "a")) } ∷ [])) ≡ Err 0
no_name = refl

sublibrary : outcome (contents (record { line = 1; said = said.Id None } ∷ record { line = 2; said = said.LibName } ∷ [])) ≡ Ok None
sublibrary = refl
