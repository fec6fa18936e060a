-- Pseudo-random draws, and the packages that they pick.
use Rattle.std.specs.Prelude.{ℕ, zero, suc, ◌+◌, ◌-◌, ◌*◌, ◌%◌, ◌^◌, nat_lt, ◌==◌, List, [], ◌∷◌, if◌then◌else◌}

-- the draw after another
abbrev pub drawn : ℕ → ℕ
drawn x = (1103515245 * x + 12345) % 2 ^ 31

-- the last of so many draws from a seed
abbrev pub after_draws : ℕ → ℕ → ℕ
after_draws seed zero = seed
after_draws seed (suc n) = drawn (after_draws seed n)

-- the earlier package that a draw picks
abbrev pub needed : ℕ → ℕ → ℕ
needed number draw = 1 + draw % (number - 1)

-- two numbers, or one if they are equal
abbrev pub each_once : ℕ → ℕ → List ℕ
each_once m n = if m == n then m ∷ [] else m ∷ n ∷ []

-- the number of draws for each version: none for the first package, since none is before it
abbrev pub draws_each : ℕ → ℕ
draws_each number = if nat_lt 1 number then 2 else 0

-- the number of draws before those of a version, taken by package and then by version
abbrev pub draws_before : ℕ → ℕ → ℕ
draws_before number version = 6 * (number - 2) + draws_each number * (version - 1)

-- the packages that the next draws pick for a package
abbrev pub needs_after : ℕ → ℕ → List ℕ
needs_after last number =
    if nat_lt 1 number then each_once (needed number (drawn last)) (needed number (drawn (drawn last))) else []

-- the packages on which a version depends
abbrev pub needs_of : ℕ → ℕ → ℕ → List ℕ
needs_of seed number version = needs_after (after_draws seed (draws_before number version)) number
