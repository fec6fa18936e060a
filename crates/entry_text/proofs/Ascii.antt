-- Names are ASCII.
use Rattle.std.proofs.Common.{◌≡◌, ℕ, ◌<◌, Bool, true, false, cond, List, [], ◌∷◌, refl, ap, ◌∙◌, arith}
use Rattle.std.specs.Prelude.{◌&&◌, ◌==◌}
use Rattle.std.specs.List.{list_all, list_any, slice_split, onto_first}
use Rattle.std.specs.Str.{IsAscii}
use Rattle.std.proofs.lemmas.Bool.{and_parts, eqb-true}
use Rattle.std.proofs.lemmas.Str.Ascii.{IsAscii-nil, IsAscii-cons}
use Rattle.std.proofs.lemmas.Grind.{common_steps}
use Rattle.plan_types.specs.Name.{is_letter, is_letter_or_digit, is_group, is_package_name}
use Rattle.common_laws.specs.Small.{letter-small}

-- groups of letters and digits
abbrev plain : List (List ℕ) → Bool
plain groups = list_all (list_all is_letter_or_digit) groups

plain_first : (b : ℕ) (groups : List (List ℕ)) → plain (onto_first b groups) ≡ true → (is_letter_or_digit b ≡ true) × (plain groups ≡ true)
plain_first b [] h = ((and_parts (is_letter_or_digit b) true (and_parts (is_letter_or_digit b && true) true h).0).0, refl)
plain_first b (group ∷ groups) h =
    let p = and_parts (is_letter_or_digit b && list_all is_letter_or_digit group) (plain groups) h in
    let q = and_parts (is_letter_or_digit b) (list_all is_letter_or_digit group) p.0 in
    (q.0, ap (λ t. t && plain groups) q.1 ∙ p.1)

abbrev is_dash : ℕ → Bool
is_dash b = b == 45

by_group : (b : ℕ) (bs : List ℕ) (t : Bool) → (plain (slice_split is_dash bs) ≡ true → IsAscii bs) → is_dash b ≡ t
    → plain (cond t ([] ∷ slice_split is_dash bs) (onto_first b (slice_split is_dash bs))) ≡ true → IsAscii (b ∷ bs)
by_group b bs true others q k = IsAscii-cons b bs (omega (arith, eqb-true b 45 q)) (others k)
by_group b bs false others q k = let p = plain_first b (slice_split is_dash bs) k in IsAscii-cons b bs (letter-small b p.0) (others p.1)

plain_ascii : (text : List ℕ) → plain (slice_split is_dash text) ≡ true → IsAscii text
plain_ascii [] h = IsAscii-nil
plain_ascii (b ∷ bs) h = by_group b bs (is_dash b) (plain_ascii bs) refl h

groups_plain : (groups : List (List ℕ)) → list_all is_group groups ≡ true → plain groups ≡ true
groups_plain [] h = refl
groups_plain (group ∷ groups) h =
    let p = and_parts (is_group group) (list_all is_group groups) h in
    ap (λ t. t && plain groups) (and_parts (list_all is_letter_or_digit group) (list_any is_letter group) p.0).0 ∙ groups_plain groups p.1

pub package_ascii : (name : List ℕ) → is_package_name name ≡ true → IsAscii name
package_ascii name h = plain_ascii name (groups_plain (slice_split is_dash name) h)
