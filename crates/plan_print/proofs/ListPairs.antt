-- Shared: `zip` with an empty second list.
use Rattle.std.proofs.Common.{◌≡◌, ◌≤◌, ℕ, List, [], ◌∷◌, drop, length, zip, refl, ap, arith}
use Rattle.std.proofs.lemmas.List.{drop_all}

zip-none : {X Y : Type 0} (xs : List X) (ys : List Y) → length ys ≡ 0 → zip xs ys ≡ []
zip-none [] ys none = refl
zip-none (x ∷ xs) [] none = refl
zip-none (x ∷ xs) (y ∷ ys) none = absurd (omega (arith, none))

pub zip-done : {X Y : Type 0} (xs : List X) (ys : List Y) (n : ℕ) → length ys ≤ n → zip xs (drop n ys) ≡ []
zip-done xs ys n past = zip-none xs (drop n ys) (ap (λ rest. length rest) (drop_all n ys past))
