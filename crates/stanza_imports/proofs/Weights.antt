-- Weights of lists.
use Rattle.std.proofs.Common.{◌≡◌, ℕ, ◌+◌, List, [], ◌∷◌, ◌++◌, map, sym, ap, ◌∙◌, arith}
use Rattle.std.specs.Prelude.{sum, sum_by}
use Rattle.std.proofs.lemmas.Grind.{common_steps}
use Rattle.std.proofs.lemmas.List.Sums.{sum-map, sum_by_push}
use Rattle.common_laws.specs.Lists.{map-map}
use Rattle.common_laws.specs.Small.{capped}

capped-more : (a b : ℕ) → capped (capped a + b) ≡ capped (a + b)
capped-more a b = grind (arith, common_steps)

-- one more
pub weight-push : {A : Type 0} (of : A → ℕ) (xs : List A) (x : A) (before after : ℕ) → before ≡ capped (sum_by of xs) → after ≡ capped (before + of x) →
    after ≡ capped (sum_by of (xs ++ x ∷ []))
weight-push of xs x before after is more =
    more ∙ ap (λ n. capped (n + of x)) is ∙ capped-more (sum_by of xs) (of x) ∙ ap capped (sym (sum_by_push of xs x))

pub sum-shown : {A B : Type 0} (of : B → ℕ) (show : A → B) (xs : List A) → sum_by (λ x. of (show x)) xs ≡ sum_by of (map show xs)
sum-shown of show xs = sym (sum-map (λ x. of (show x)) xs) ∙ ap sum (sym (map-map show of xs)) ∙ sum-map of (map show xs)
