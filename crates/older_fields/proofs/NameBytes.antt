-- The bytes of names are ASCII.
use Rattle.std.proofs.Common.{◌≡◌, ℕ, ◌<◌, Bool, true, false, cond, List, [], ◌∷◌, map, lit<, refl, arith}
use Rattle.std.specs.Str.{IsAscii}
use Rattle.std.proofs.lemmas.Bool.Decides.{nat_tests}
use Rattle.std.proofs.lemmas.Str.Ascii.{IsAscii-nil, IsAscii-cons}
use Rattle.plan_types.specs.Name.{is_component_byte}
use Rattle.text_grammar.proofs.Boundaries.{PassesAscii}
use Rattle.older_fields.specs.Names.{plain_byte, plain_bytes}

component-small : PassesAscii is_component_byte
component-small b h = grind (arith, nat_tests)

by_test : (b : ℕ) (t : Bool) → is_component_byte b ≡ t → cond t b 95 < 128
by_test b true e = component-small b e
by_test b false e = lit< tt

all_plain : (bs : List ℕ) → IsAscii (map plain_byte bs)
all_plain [] = IsAscii-nil
all_plain (b ∷ bs) = IsAscii-cons (plain_byte b) (map plain_byte bs) (by_test b (is_component_byte b) refl) (all_plain bs)

pub plain_bytes-ascii : (name : List ℕ) → IsAscii (plain_bytes name)
plain_bytes-ascii name = all_plain _
