-- The least of some lines.
use Rattle.std.specs.Prelude.{ℕ, nat_lt, if◌then◌else◌, List, [], ◌∷◌, Option, Some, None}

-- the lesser line, or the only one
abbrev pub lesser : Option ℕ → Option ℕ → Option ℕ
lesser None b = b
lesser (Some a) None = Some a
lesser (Some a) (Some b) = if nat_lt b a then Some b else Some a

-- the least line
abbrev pub first_line : List ℕ → Option ℕ
first_line [] = None
first_line (line ∷ lines) = lesser (Some line) (first_line lines)
