-- The values of a field as one text, cut at its commas.
use Rattle.std.proofs.Common.{◌≡◌, ℕ, ◌+◌, ◌-◌, Bool, true, false, not, ◌&&◌, List, [], ◌∷◌, ◌++◌, length, map, refl, sym, ap, ◌∙◌, subst, append_assoc, append-nil, arith}
use Rattle.std.specs.Prelude.{◌==◌, codes, if◌then◌else◌}
use Rattle.std.specs.List.{list_all, AllByRecursion}
use Rattle.std.proofs.lemmas.Bool.{and_parts, and_from, false≢true}
use Rattle.std.proofs.lemmas.Bool.Decides.{nat_tests}
use Rattle.std.proofs.lemmas.List.Folds.{list_all-append}
use Rattle.plan_types.specs.Bytes.{joined_text}
use Rattle.plan_types.specs.declared.constraint.Constraint.{Constraint}
use Rattle.entry_text.specs.Entries.{Each, Pieces, HasEntries, are_blanks, commas_inside, depth_behind, entries, joined, left_open, without_first, without_last, without_lone}
use Rattle.entry_text.specs.Entries as entry
use Rattle.constraint_text.specs.Constraints.{ConstraintEntry, Constraints}
use Rattle.freeze_text.specs.Reads.{IsPlainConstraint}
use Rattle.freeze_text.specs.Text.{constraint_text}
use Rattle.freeze_text.proofs.Plain.{constraint-plain, is_plain_byte, no-brace, no-close, no-comma}
use Rattle.freeze_text.proofs.Entry.{entry-read}
use Rattle.freeze_text.proofs.Solid.{constraint-solid}

-- a constraint as a line has it, with a comma unless it is the last
abbrev pub value_text : Constraint → Bool → List ℕ
value_text c is_last = constraint_text c ++ (if is_last then [] else codes ",")

abbrev pub values : List Constraint → List (List ℕ)
values [] = []
values (c ∷ constraints) = value_text c (length constraints == 0) ∷ values constraints

pub some-more : {A : Type 0} (x : A) (xs : List A) → (length (x ∷ xs) == 0) ≡ false
some-more x xs = grind (arith, nat_tests)

pub depth-stays : (text : List ℕ) → list_all is_plain_byte text ≡ true → (commas_inside 0 text ≡ true) × (left_open 0 text ≡ 0)
depth-stays [] h = (refl, refl)
depth-stays (b ∷ bs) h =
    let both = and_parts (is_plain_byte b) (list_all is_plain_byte bs) h in
    let rest = depth-stays bs both.1 in
    let same : depth_behind 0 b ≡ 0 = ap (λ t. if t then 0 + 1 else if b == 125 then 0 - 1 else 0) (no-brace b both.0) ∙ ap (λ t. if t then 0 - 1 else 0) (no-close b both.0) in
    (ap (λ t. not (t && true) && commas_inside (depth_behind 0 b) bs) (no-comma b both.0) ∙ ap (λ d. commas_inside d bs) same ∙ rest.0, ap (λ d. left_open d bs) same ∙ rest.1)

module _ (lead : List ℕ) (plain : list_all is_plain_byte lead ≡ true) where
  led-plain : (c : Constraint) → IsPlainConstraint c → list_all is_plain_byte (lead ++ constraint_text c) ≡ true
  led-plain c is = list_all-append is_plain_byte lead (constraint_text c) ∙ and_from (list_all is_plain_byte lead) (list_all is_plain_byte (constraint_text c)) plain (constraint-plain c is)

-- constraints, a space before each
abbrev pub spaced : List Constraint → List (List ℕ)
spaced constraints = map (λ c. 32 ∷ constraint_text c) constraints

cut-from : (lead : List ℕ) → list_all is_plain_byte lead ≡ true → (c : Constraint) (more : List Constraint) → AllByRecursion IsPlainConstraint (c ∷ more)
    → Pieces (lead ++ joined_text (values (c ∷ more))) ((lead ++ constraint_text c) ∷ spaced more)
cut-from lead plain c [] are =
    let whole : lead ++ constraint_text c ≡ lead ++ (constraint_text c ++ []) = ap (λ t. lead ++ t) (sym (append-nil (constraint_text c))) in
    subst (λ t. Pieces t ((lead ++ constraint_text c) ∷ [])) whole (entry.last (depth-stays (lead ++ constraint_text c) (led-plain lead plain c are.0)).0)
cut-from lead plain c (next ∷ more) are =
    let piece = lead ++ constraint_text c in
    let rest = 32 ∷ joined_text (values (next ∷ more)) in
    let inside = depth-stays piece (led-plain lead plain c are.0) in
    let whole : piece ++ 44 ∷ rest ≡ lead ++ ((constraint_text c ++ codes ",") ++ rest) = append_assoc lead (constraint_text c) (44 ∷ rest) ∙ ap (λ t. lead ++ t) (sym (append_assoc (constraint_text c) (codes ",") rest)) in
    let ended : lead ++ ((constraint_text c ++ codes ",") ++ rest) ≡ lead ++ joined_text (values (c ∷ next ∷ more)) =
    ap (λ t. lead ++ ((constraint_text c ++ (if t then [] else codes ",")) ++ rest)) (sym (some-more next more)) in
    subst (λ t. Pieces t (piece ∷ spaced (next ∷ more))) (whole ∙ ended) (joined inside.0 inside.1 (cut-from (32 ∷ []) refl next more are.1))

abbrev all_solid : List (List ℕ) → Bool
all_solid pieces = list_all (λ piece. not (are_blanks piece)) pieces

no-blanks : (piece : List ℕ) → not (are_blanks piece) ≡ true → are_blanks piece ≡ false
no-blanks piece h = elim (are_blanks piece) as (λ t. not t ≡ true → t ≡ false) [ true ↦ λ k. absurd (false≢true k) | false ↦ λ k. refl ] h

first-stays : (pieces : List (List ℕ)) → all_solid pieces ≡ true → without_first pieces ≡ pieces
first-stays [] h = refl
first-stays (piece ∷ []) h = refl
first-stays (piece ∷ next ∷ pieces) h =
    ap (λ t. if t then next ∷ pieces else piece ∷ next ∷ pieces) (no-blanks piece (and_parts (not (are_blanks piece)) (all_solid (next ∷ pieces)) h).0)

last-stays : (pieces : List (List ℕ)) → all_solid pieces ≡ true → without_last pieces ≡ pieces
last-stays [] h = refl
last-stays (piece ∷ []) h = refl
last-stays (piece ∷ next ∷ []) h =
    ap (λ t. if t then piece ∷ [] else piece ∷ next ∷ []) (no-blanks next (and_parts (not (are_blanks next)) true (and_parts (not (are_blanks piece)) (all_solid (next ∷ [])) h).1).0)
last-stays (piece ∷ next ∷ more ∷ pieces) h = ap (λ l. piece ∷ l) (last-stays (next ∷ more ∷ pieces) (and_parts (not (are_blanks piece)) (all_solid (next ∷ more ∷ pieces)) h).1)

lone-stays : (pieces : List (List ℕ)) → all_solid pieces ≡ true → without_lone pieces ≡ pieces
lone-stays [] h = refl
lone-stays (piece ∷ []) h = ap (λ t. if t then [] else piece ∷ []) (no-blanks piece (and_parts (not (are_blanks piece)) true h).0)
lone-stays (piece ∷ next ∷ pieces) h = refl

entries-stay : (pieces : List (List ℕ)) → all_solid pieces ≡ true → entries pieces ≡ pieces
entries-stay pieces h =
    ap (λ l. without_lone (without_last l)) (first-stays pieces h) ∙ ap without_lone (last-stays pieces h) ∙ lone-stays pieces h

spaced-solid : (constraints : List Constraint) → AllByRecursion IsPlainConstraint constraints → all_solid (spaced constraints) ≡ true
spaced-solid [] are = refl
spaced-solid (c ∷ constraints) are =
    and_from (not (are_blanks (32 ∷ constraint_text c))) (all_solid (spaced constraints)) (ap not (constraint-solid (32 ∷ []) c are.0)) (spaced-solid constraints are.1)

each-spaced : (constraints : List Constraint) → AllByRecursion IsPlainConstraint constraints → Each ConstraintEntry (spaced constraints) constraints
each-spaced [] are = entry.none
each-spaced (c ∷ constraints) are = entry.more (entry-read (32 ∷ []) refl c are.0) (each-spaced constraints are.1)

-- the values of a field, joined by spaces, stand for the constraints
pub values-read : (constraints : List Constraint) → AllByRecursion IsPlainConstraint constraints → Constraints (joined_text (values constraints)) constraints
values-read [] are = record { pieces = [] ∷ []; cut = entry.last refl; each = entry.none }
values-read (c ∷ more) are =
    let pieces = constraint_text c ∷ spaced more in
    let solid = and_from (not (are_blanks (constraint_text c))) (all_solid (spaced more)) (ap not (constraint-solid [] c are.0)) (spaced-solid more are.1) in
    record {
      pieces = pieces;
      cut = cut-from [] refl c more are;
      each = subst (λ l. Each ConstraintEntry l (c ∷ more)) (sym (entries-stay pieces solid)) (entry.more (entry-read [] refl c are.0) (each-spaced more are.1));
    }
