-- Which names a pattern matches.
use Rattle.std.specs.Prelude.{ℕ, Bool, true, false, ◌&&◌, ◌==◌, not, if◌then◌else◌, List, [], ◌∷◌}
use Rattle.std.specs.List.{list_any}
use Rattle.plan_types.specs.Bytes.{begins_with}

-- all suffixes of a text, the longest first
abbrev pub tails : List ℕ → List (List ℕ)
tails [] = [] ∷ []
tails (b ∷ bs) = (b ∷ bs) ∷ tails bs

-- a byte matches itself, and the rest of the text passes
abbrev pub fits_byte : ℕ → (List ℕ → Bool) → List ℕ → Bool
fits_byte byte rest [] = false
fits_byte byte rest (b ∷ bs) = byte == b && rest bs

-- a star matches any bytes, and any other byte itself
abbrev pub fits : List ℕ → List ℕ → Bool
fits [] [] = true
fits [] (b ∷ bs) = false
fits (p ∷ ps) name = if p == 42 then list_any (fits ps) (tails name) else fits_byte p (fits ps) name

-- whether a pattern matches a name; a name that begins with `.` needs a pattern that does
abbrev pub matches : List ℕ → List ℕ → Bool
matches pattern name = if begins_with 46 name && not (begins_with 46 pattern) then false else fits pattern name
