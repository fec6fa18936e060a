-- Matching by the pieces of a pattern between its stars.
use Rattle.std.specs.Prelude.{ℕ, Bool, false, ◌==◌, if◌then◌else◌, List, [], ◌∷◌, Option, Some, None}
use Rattle.std.specs.List.{list_any, slice_split}
use Rattle.plan_types.specs.Bytes.{same_text}
use Rattle.project_paths.specs.Wildcards.{tails}

-- the pieces of a pattern, cut at its stars
abbrev pub cut : List ℕ → List (List ℕ)
cut pattern = slice_split (λ b. b == 42) pattern

-- the rest of a text after a prefix
abbrev pub behind_front : List ℕ → List ℕ → Option (List ℕ)
behind_front [] text = Some text
behind_front (p ∷ ps) [] = None
behind_front (p ∷ ps) (b ∷ bs) = if p == b then behind_front ps bs else None

-- the first of two optional texts that is present
abbrev pub first_of : Option (List ℕ) → Option (List ℕ) → Option (List ℕ)
first_of None other = other
first_of (Some text) other = Some text

-- the rest of a text after the first occurrence of a piece
abbrev pub behind : List ℕ → List ℕ → Option (List ℕ)
behind piece [] = behind_front piece []
behind piece (b ∷ bs) = first_of (behind_front piece (b ∷ bs)) (behind piece bs)

-- whether a piece is a suffix of a text
abbrev pub ends_so : List ℕ → List ℕ → Bool
ends_so piece text = list_any (same_text piece) (tails text)

-- whether an optional text is present and passes a test
abbrev pub passes : (List ℕ → Bool) → Option (List ℕ) → Bool
passes test None = false
passes test (Some text) = test text

-- whether pieces, each behind a star, match a text, the last one at its end
abbrev pub match_behind : List (List ℕ) → List ℕ → Bool
match_behind [] text = false
match_behind (piece ∷ []) text = ends_so piece text
match_behind (piece ∷ next ∷ pieces) text = passes (match_behind (next ∷ pieces)) (behind piece text)

-- the same, but the first piece is a prefix
abbrev pub match_pieces : List (List ℕ) → List ℕ → Bool
match_pieces [] text = false
match_pieces (piece ∷ []) text = same_text piece text
match_pieces (piece ∷ next ∷ pieces) text = passes (match_behind (next ∷ pieces)) (behind_front piece text)
