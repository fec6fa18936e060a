-- The forms of values: digits, and the text of a version.
use Rattle.std.proofs.Common.{add-one, suc, ◌≡◌, ◌∙◌, ◌<◌, ◌≤◌, ◌^◌, ◌&&◌, ◌||◌, ℕ, Bool, true, not, refl, sym, ap, ap₂, arith, List, [], ◌∷◌, ◌++◌, map, length, get_or, Option, Some, None}
use Rattle.std.specs.Prelude.{◌==◌, nat_le}
use Rattle.std.specs.Fmt.{decimal}
use Rattle.std.specs.List.{join_with_byte, list_all, slice_split}
use Rattle.std.specs.Option.{option_map_or}
use Rattle.std.specs.Str.{IsAscii, all_ascii_digits}
use Rattle.std.proofs.lemmas.Bool.{and_from, and_parts, eqb-true, leb-true, lt-ltb}
use Rattle.std.proofs.lemmas.List.Splits.{join_with_byte-slice_split, length-slice_split}
use Rattle.plan_types.specs.Bytes.{begins_with}
use Rattle.plan_types.specs.Name.{is_letter_or_digit}
use Rattle.common_laws.specs.Small.{letter-small}
use Rattle.condition_text.specs.declared.name.NameForm.TheVariants.{Compiler}
use Rattle.condition_text.specs.Grammar.{is_compiler_name}
use Rattle.version_range.specs.Number.{is_count}
use Rattle.version_range.specs.Version.{IsNumber, is_version, number_after, version_text}
use Rattle.version_range.proofs.VersionNumbers.{numeral_text}
use Rattle.condition_text.proofs.ConditionNames.{Run, name_ascii, run, run_reads}
use Rattle.command_line.specs.Form.{is_compiler, is_number, is_part, is_version_text, number_in, parts_of}
use Rattle.command_line.specs.Reading.{compiler_or}

few_digits : (text : List ℕ) → is_count text ≡ true → (all_ascii_digits text ≡ true) × (length text ≤ 9)
few_digits text h =
    let p = and_parts (not (length text == 0) && nat_le (length text) 9) (all_ascii_digits text) h in
    let q = and_parts (not (length text == 0)) (nat_le (length text) 9) p.0 in
    (p.1, leb-true (length text) 9 q.1)

some_digits : (text : List ℕ) → is_count text ≡ true → 0 < length text
some_digits [] h = cc
some_digits (b ∷ bs) h = omega arith

-- a part with a leading zero is `0`
plain_digits : (text : List ℕ) → (not (begins_with 48 text) || length text == 1) ≡ true → get_or text 0 0 ≡ 48 → length text ≡ 1
plain_digits [] h e = absurd (omega arith)
plain_digits (b ∷ bs) h e =
    let zero_first : (b == 48) ≡ true = ap (λ x. x == 48) e in
    eqb-true (length (b ∷ bs)) 1 (ap (λ t. not t || length (b ∷ bs) == 1) (sym zero_first) ∙ h)

part_text : (text : List ℕ) → is_part text ≡ true → IsNumber (number_after 0 text) × (text ≡ decimal (number_after 0 text))
part_text text h =
    let p = and_parts (is_count text) (not (begins_with 48 text) || length text == 1) h in
    let few = few_digits text p.0 in
    numeral_text text few.0 (some_digits text p.0) few.1 (plain_digits text p.1)

-- parts of a version make a version
parts_joined : (x : List ℕ) (xs : List (List ℕ)) → list_all is_part (x ∷ xs) ≡ true
    → (is_version (map (number_after 0) (x ∷ xs)) ≡ true) × (join_with_byte 46 (x ∷ xs) ≡ version_text (map (number_after 0) (x ∷ xs)))
parts_joined x [] h =
    let here = part_text x (and_parts (is_part x) true h).0 in
    (lt-ltb (number_after 0 x) (10 ^ 9) here.0, here.1)
parts_joined x (y ∷ ys) h =
    let p = and_parts (is_part x) (list_all is_part (y ∷ ys)) h in
    let here = part_text x p.0 in
    let more = parts_joined y ys p.1 in
    (ap₂ (λ a b. a && b) (lt-ltb (number_after 0 x) (10 ^ 9) here.0) more.0, ap₂ (λ t u. t ++ 46 ∷ u) here.1 more.1)

pub version_reads : (text : List ℕ) → is_version_text text ≡ true → (is_version (parts_of text) ≡ true) × (text ≡ version_text (parts_of text))
version_reads text h = go (slice_split (λ b. b == 46) text) h (length-slice_split (λ b. b == 46) text ∙ add-one _) (join_with_byte-slice_split 46 text)
  where
    go : (pieces : List (List ℕ)) {n : ℕ} → list_all is_part pieces ≡ true → length pieces ≡ suc n → join_with_byte 46 pieces ≡ text
        → (is_version (map (number_after 0) pieces) ≡ true) × (text ≡ version_text (map (number_after 0) pieces))
    go [] all some joined = absurd (omega arith)
    go (x ∷ xs) all some joined = let r = parts_joined x xs all in (r.0, sym joined ∙ r.1)

-- a compiler's name has the form of one in a condition, so it is ASCII
pub compiler_ascii : (name : List ℕ) → is_compiler_name name ≡ true → IsAscii name
compiler_ascii [] h = cc
compiler_ascii (b ∷ bs) h =
    let p = and_parts (is_letter_or_digit b) (list_all is_letter_or_digit bs) h in
    let is_run : Run is_letter_or_digit is_letter_or_digit (b ∷ bs) (b ∷ bs) = run b bs (and_from (is_letter_or_digit b) (is_letter_or_digit b) p.0 p.0) p.1 in
    name_ascii Compiler ((b ∷ bs) ++ []) (b ∷ bs) [] (run_reads is_letter_or_digit is_letter_or_digit (b ∷ bs) (b ∷ bs) [] is_run refl)

-- the default compiler is well-formed too
pub compiler_formed : (given : Option (List ℕ)) → option_map_or is_compiler given true ≡ true → is_compiler (compiler_or given) ≡ true
compiler_formed None h = refl
compiler_formed (Some text) h = h

-- a number of packages is within its bounds
pub number_bounds : (text : List ℕ) → is_number text ≡ true → (1 ≤ number_in text) × (number_in text ≤ 2000)
number_bounds text h =
    let least : Bool = nat_le 1 (number_in text) in
    let most : Bool = nat_le (number_in text) 2000 in
    let p = and_parts (nat_le (length text) 4) (is_count text && (least && most)) h in
    let q = and_parts (is_count text) (least && most) p.1 in
    let r = and_parts least most q.1 in
    (leb-true 1 (number_in text) r.0, leb-true (number_in text) 2000 r.1)
