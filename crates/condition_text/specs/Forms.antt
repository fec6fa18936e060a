-- The bytes of names.
use Rattle.std.specs.Prelude.{ℕ, Bool}
use Rattle.plan_types.specs.Name.{is_letter_or_digit, is_component_byte}
use Rattle.condition_text.specs.declared.name.NameForm.{NameForm}
use Rattle.condition_text.specs.declared.name.NameForm.TheVariants.{Flag, Part, Compiler}
use Rattle.condition_text.specs.Reading.{begins_flag}

-- the test of the first byte of a name, besides the test of all its bytes
abbrev pub first_of : NameForm → ℕ → Bool
first_of Flag = begins_flag
first_of Part = is_component_byte
first_of Compiler = is_letter_or_digit

-- whether a byte is allowed in a name of this form
abbrev pub part_of : NameForm → ℕ → Bool
part_of Flag = is_component_byte
part_of Part = is_component_byte
part_of Compiler = is_letter_or_digit
