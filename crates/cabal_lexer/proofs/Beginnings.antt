-- The openings of canonical lines, and the parts of an opening.
use Rattle.std.proofs.Common.{◌≡◌, ℕ, zero, suc, Bool, true, false, List, [], ◌∷◌, ◌++◌, take, drop, refl, sym, ◌∙◌, ap, subst, arith, append-nil}
use Rattle.std.specs.Prelude.{map, ◌&&◌, ◌||◌, ◌==◌, nat_le, if◌then◌else◌}
use Rattle.std.specs.declared.result.Result.{Result}
use Rattle.std.specs.declared.result.Result.TheVariants.{Ok, Err}
use Rattle.std.specs.List.{prefix_len, list_all, list_any}
use Rattle.std.specs.Char.{to_ascii_lowercase}
use Rattle.std.proofs.Math.Seq.{take-append_seam, drop-append_seam}
use Rattle.std.proofs.lemmas.Bool.Decides.{nat_tests}
use Rattle.plan_types.specs.declared.refusal.Cause.{Cause}
use Rattle.plan_types.specs.declared.refusal.Cause.TheVariants.{StrayBrace, BadName, TooDeep}
use Rattle.plan_types.specs.Name.{is_letter}
use Rattle.cabal_lexer.specs.Lines.{indent, trim_start, trim_end, trim, is_comment}
use Rattle.cabal_lexer.specs.Opening.{Opening, field, braced_field, section, braced_section, is_name_byte, name_len, lower_case, is_lone, ends_with_brace, field_opening, before_brace, section_opening, named_opening, opening, within}
use Rattle.plan_types.specs.Bytes.{begins_with}
use Rattle.cabal_lexer.proofs.Runs.{front_passes}
use Rattle.cabal_lexer.specs.Printable.{Piece, IsName}
use Rattle.cabal_lexer.proofs.TextPieces.{prefix-past, trim-behind, trim_start-behind, trim-same}
use Rattle.std.proofs.lemmas.Bool.{and_from, and_parts}
use Rattle.std.proofs.Math.Bool.{and-false}
use Rattle.std.proofs.lemmas.Str.Ascii.{lowercase-lowercase}

-- ---- lower case

lower-byte : (b : ℕ) → is_name_byte b ≡ true → is_name_byte (to_ascii_lowercase b) ≡ true
lower-byte b h = grind (arith, nat_tests)

lower-letter : (b : ℕ) → is_letter b ≡ is_letter (to_ascii_lowercase b)
lower-letter b = grind (arith, nat_tests)

lower-hyphen : (b : ℕ) → (to_ascii_lowercase b == 45) ≡ (b == 45)
lower-hyphen b = grind (arith, nat_tests)

lower-bytes : (x : List ℕ) → list_all is_name_byte x ≡ true → list_all is_name_byte (lower_case x) ≡ true
unfolding lower_case
lower-bytes [] h = refl
lower-bytes (b ∷ x) h =
    and_from _ _ (lower-byte b ((and_parts (is_name_byte b) (list_all is_name_byte x) h).0)) (lower-bytes x ((and_parts (is_name_byte b) (list_all is_name_byte x) h).1))

lower-letters : (x : List ℕ) → list_any is_letter (lower_case x) ≡ list_any is_letter x
unfolding lower_case
lower-letters [] = refl
lower-letters (b ∷ x) = ap (λ v. v || list_any is_letter (map to_ascii_lowercase x)) (sym (lower-letter b)) ∙ ap (λ v. is_letter b || v) (lower-letters x)

lower-same : (x : List ℕ) → lower_case (lower_case x) ≡ lower_case x
unfolding lower_case
lower-same [] = refl
lower-same (b ∷ x) = ap (λ v. v ∷ map to_ascii_lowercase (map to_ascii_lowercase x)) (lowercase-lowercase b) ∙ ap (λ v. to_ascii_lowercase b ∷ v) (lower-same x)

lower-code : (n : ℕ) (x : List ℕ) → is_comment x ≡ false → is_comment (lower_case (take n x)) ≡ false
unfolding lower_case is_comment
lower-code zero [] h = refl
lower-code zero (a ∷ x) h = refl
lower-code (suc n) [] h = refl
lower-code (suc zero) (a ∷ []) h = and-false (to_ascii_lowercase a == 45)
lower-code (suc (suc n)) (a ∷ []) h = and-false (to_ascii_lowercase a == 45)
lower-code (suc zero) (a ∷ b ∷ x) h = and-false (to_ascii_lowercase a == 45)
lower-code (suc (suc n)) (a ∷ b ∷ x) h = ap (λ v. v && (to_ascii_lowercase b == 45)) (lower-hyphen a) ∙ ap (λ v. (a == 45) && v) (lower-hyphen b) ∙ h

pub IsName-lower : (text : List ℕ) → is_comment text ≡ false → list_any is_letter (take (name_len text) text) ≡ true → IsName (lower_case (take (name_len text) text))
unfolding name_len
IsName-lower text h k = record {
  bytes = lower-bytes (take (prefix_len is_name_byte text) text) (front_passes is_name_byte text);
  letter = lower-letters (take (prefix_len is_name_byte text) text) ∙ k;
  lower = lower-same (take (prefix_len is_name_byte text) text);
  code = lower-code (prefix_len is_name_byte text) text h;
}

-- ---- the parts of an opening

abbrev pub Named : List ℕ → List ℕ → Opening → Type 0
Named name rest (field n first) = (n ≡ name) × (first ≡ trim (drop 1 rest)) × (is_lone 123 first ≡ false) × (begins_with 58 rest ≡ true)
Named name rest (braced_field n) = n ≡ name
Named name rest (section n args) = (n ≡ name) × (args ≡ trim rest) × (begins_with 58 rest ≡ false) × (ends_with_brace args ≡ false)
Named name rest (braced_section n args) = (n ≡ name) × (args ≡ before_brace (trim rest)) × (begins_with 58 rest ≡ false) × (ends_with_brace args ≡ false) × (ends_with_brace (trim rest) ≡ true)

field-at : (name rest : List ℕ) (o : Opening) (c : Bool) → begins_with 58 rest ≡ true → is_lone 123 (trim (drop 1 rest)) ≡ c →
    (if c then braced_field name else field name (trim (drop 1 rest))) ≡ o → Named name rest o
field-at name rest o true b e h = subst (λ v. Named name rest v) h refl
field-at name rest o false b e h = subst (λ v. Named name rest v) h (refl, refl, e, b)

section-at : (name rest : List ℕ) (o : Opening) (c d : Bool) → begins_with 58 rest ≡ false → ends_with_brace (trim rest) ≡ c → ends_with_brace (before_brace (trim rest)) ≡ d →
    ◌≡◌ {A = Result Opening Cause} (if c then (if d then Err StrayBrace else Ok (braced_section name (before_brace (trim rest)))) else Ok (section name (trim rest))) (Ok o) → Named name rest o
section-at name rest o true true b e f h = absurd cc
section-at name rest o true false b e f h = let same : braced_section name (before_brace (trim rest)) ≡ o = cc in subst (λ v. Named name rest v) same (refl, refl, b, f, e)
section-at name rest o false d b e f h = let same : section name (trim rest) ≡ o = cc in subst (λ v. Named name rest v) same (refl, refl, b, e)

named-at : (name rest : List ℕ) (o : Opening) (b : Bool) → begins_with 58 rest ≡ b →
    (if b then Ok (field_opening name (trim (drop 1 rest))) else section_opening name (trim rest)) ≡ Ok o → Named name rest o
unfolding field_opening section_opening
named-at name rest o true e h =
    let same : (if is_lone 123 (trim (drop 1 rest)) then braced_field name else field name (trim (drop 1 rest))) ≡ o = cc in
    field-at name rest o (is_lone 123 (trim (drop 1 rest))) e refl same
named-at name rest o false e h = section-at name rest o _ _ e refl refl h

pub named : (name rest : List ℕ) (o : Opening) → named_opening name rest ≡ Ok o → Named name rest o
unfolding named_opening
named name rest o h = named-at name rest o (begins_with 58 rest) refl h

abbrev opened : Bool → List ℕ → List ℕ → Result Opening Cause
opened b name rest = if b then Err StrayBrace else (if list_any is_letter name then named_opening (lower_case name) (trim_start rest) else Err BadName)

invert : (b c : Bool) (r : Result Opening Cause) (o : Opening) → (if b then Err StrayBrace else (if c then r else Err BadName)) ≡ Ok o → (c ≡ true) × (r ≡ Ok o)
invert true c r o h = absurd cc
invert false true r o h = (refl, h)
invert false false r o h = absurd cc

-- the name and the rest of a line that begins an element
pub opening-parts : (text : List ℕ) (o : Opening) → opening text ≡ Ok o →
    (list_any is_letter (take (name_len text) text) ≡ true) × Named (lower_case (take (name_len text) text)) (trim_start (drop (name_len text) text)) o
unfolding opening
opening-parts text o h =
    let parts = invert (begins_with 125 text) (list_any is_letter (take (name_len text) text))
    (named_opening (lower_case (take (name_len text) text)) (trim_start (drop (name_len text) text))) o h in
    (parts.0, named _ _ o parts.1)

within-at : (o p : Opening) (b : Bool) → ◌≡◌ {A = Result Opening Cause} (if b then Ok o else Err TooDeep) (Ok p) → (◌≡◌ {A = Result Opening Cause} (Ok o) (Ok p)) × (b ≡ true)
within-at o p true h = (h, refl)
within-at o p false h = absurd cc

pub within-ok : (depth : ℕ) (r : Result Opening Cause) (o : Opening) → within depth r ≡ Ok o → (r ≡ Ok o) × (nat_le depth 64 ≡ true)
within-ok depth (Err cause) o h = absurd cc
within-ok depth (Ok p) o h = within-at p o (nat_le depth 64) h

pub within-from : (depth : ℕ) (r : Result Opening Cause) (o : Opening) → r ≡ Ok o → nat_le depth 64 ≡ true → within depth r ≡ Ok o
within-from depth r o e h = ap (within depth) e ∙ ap (λ b. if b then Ok o else Err TooDeep) h

-- ---- openings of printed lines

no-brace : (name rest : List ℕ) → list_all is_name_byte name ≡ true → list_any is_letter name ≡ true → begins_with 125 (name ++ rest) ≡ false
no-brace [] rest h k = cc
no-brace (b ∷ name) rest h k = let byte = (and_parts (is_name_byte b) (list_all is_name_byte name) h).0 in grind (arith, nat_tests)

opening-printed : (name rest : List ℕ) → IsName name → prefix_len is_name_byte rest ≡ 0 → opening (name ++ rest) ≡ named_opening name (trim_start rest)
unfolding opening name_len
opening-printed name rest n e =
    let len = prefix-past is_name_byte name rest n.bytes e in
    let front : take (prefix_len is_name_byte (name ++ rest)) (name ++ rest) ≡ name = ap (λ k. take k (name ++ rest)) len ∙ take-append_seam name rest in
    let back : drop (prefix_len is_name_byte (name ++ rest)) (name ++ rest) ≡ rest = ap (λ k. drop k (name ++ rest)) len ∙ drop-append_seam name rest in
    ap (λ b. opened b (take (prefix_len is_name_byte (name ++ rest)) (name ++ rest)) (drop (prefix_len is_name_byte (name ++ rest)) (name ++ rest))) (no-brace name rest n.bytes n.letter)
    ∙ ap (λ v. opened false v (drop (prefix_len is_name_byte (name ++ rest)) (name ++ rest))) front
    ∙ ap (λ v. opened false name v) back
    ∙ ap (λ b. if b then named_opening (lower_case name) (trim_start rest) else Err BadName) n.letter
    ∙ ap (λ v. named_opening v (trim_start rest)) n.lower

pub opening-bare_field : (name : List ℕ) → IsName name → opening (name ++ 58 ∷ []) ≡ Ok (field name [])
unfolding named_opening field_opening is_lone trim trim_start trim_end indent
opening-bare_field name n = opening-printed name (58 ∷ []) n refl

pub opening-field : (name first : List ℕ) → IsName name → Piece first → is_lone 123 first ≡ false → opening (name ++ 58 ∷ 32 ∷ first) ≡ Ok (field name first)
unfolding named_opening field_opening trim_start indent
opening-field name first n p h =
    opening-printed name (58 ∷ 32 ∷ first) n refl
    ∙ ap (λ v. Ok (if is_lone 123 v then braced_field name else field name v)) (trim-behind (32 ∷ []) first refl p)
    ∙ ap (λ b. Ok (if b then braced_field name else field name first)) h

pub opening-bare_section : (name : List ℕ) → IsName name → opening name ≡ Ok (section name [])
unfolding named_opening section_opening ends_with_brace trim trim_start trim_end indent
opening-bare_section name n = ap opening (sym (append-nil name)) ∙ opening-printed name [] n refl

pub opening-section : (name args : List ℕ) → IsName name → Piece args → begins_with 58 args ≡ false → ends_with_brace args ≡ false →
    opening (name ++ 32 ∷ args) ≡ Ok (section name args)
unfolding named_opening section_opening
opening-section name args n p c e =
    opening-printed name (32 ∷ args) n refl
    ∙ ap (named_opening name) (trim_start-behind (32 ∷ []) args refl p)
    ∙ ap (λ b. if b then Ok (field_opening name (trim (drop 1 args))) else section_opening name (trim args)) c
    ∙ ap (section_opening name) (trim-same args p)
    ∙ ap (λ b. if b then (if ends_with_brace (before_brace args) then Err StrayBrace else Ok (braced_section name (before_brace args))) else Ok (section name args)) e
