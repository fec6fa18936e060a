-- The order of lists of numbers.
use Rattle.std.proofs.Common.{◌≡◌, ℕ, ◌+◌, ◌<◌, ◌≤◌, false, List, [], ◌∷◌, length, get_or, refl, arith}
use Rattle.std.specs.Prelude.{nat_le}
use Rattle.std.specs.Ordering.{is_lt}
use Rattle.std.proofs.lemmas.Bool.Decides.{nat_tests}
use Rattle.plan_types.specs.Members.{order, major_end}

pub below_two : (n m : ℕ) (ns : List ℕ) (a b : ℕ) → a ≤ n → n ≡ a → nat_le m b ≡ is_lt (order (n ∷ m ∷ ns) (a ∷ (b + 1) ∷ []))
below_two n m [] a b le e = grind (arith, nat_tests)
below_two n m (k ∷ ns) a b le e = grind (arith, nat_tests)

pub below_two_at : (ns : List ℕ) (a b : ℕ) → 2 ≤ length ns → a ≤ get_or ns 0 0 → get_or ns 0 0 ≡ a → nat_le (get_or ns 1 0) b ≡ is_lt (order ns (a ∷ (b + 1) ∷ []))
below_two_at [] a b h le e = absurd (omega arith)
below_two_at (n ∷ []) a b h le e = absurd (omega arith)
below_two_at (n ∷ m ∷ ns) a b h le e = below_two n m ns a b le e

pub none_below_empty : (ns xs : List ℕ) → length xs < 1 → false ≡ is_lt (order ns (major_end xs))
none_below_empty [] [] h = refl
none_below_empty (n ∷ ns) [] h = refl
none_below_empty ns (x ∷ xs) h = absurd (omega arith)
