-- Shared: the last value after one more element.
use Rattle.std.proofs.Common.{◌≡◌, List, [], ◌∷◌, ◌++◌, Option, Some, None, refl, ap, ◌∙◌}
use Rattle.std.specs.Option.{option_or}
use Rattle.text_grammar.specs.Last.{last_given}

or_none : {A : Type 0} (a : Option A) → a ≡ option_or a None
or_none None = refl
or_none (Some a) = refl

or_assoc : {A : Type 0} (a b c : Option A) → option_or (option_or a b) c ≡ option_or a (option_or b c)
or_assoc None b c = refl
or_assoc (Some a) b c = refl

pub last_push : {A B : Type 0} (of : A → Option B) (xs : List A) (x : A) → last_given of (xs ++ x ∷ []) ≡ option_or (of x) (last_given of xs)
last_push of [] x = or_none (of x)
last_push of (y ∷ ys) x = ap (λ r. option_or r (of y)) (last_push of ys x) ∙ or_assoc (of x) (last_given of ys) (of y)
