-- A loop that appends the parts of each item.
use Rattle.std.proofs.Common.{◌≡◌, ℕ, ◌+◌, ◌<◌, length, List, ◌++◌, flat_map, get_or, take, sym, ap, ◌∙◌}
use Rattle.std.proofs.lemmas.List.{flat_map_more}
use Rattle.common_laws.specs.Lists.{take_at}

pub more_taken : {A B : Type 0} (f : A → List B) (bs : List B) (xs : List A) (i : ℕ) (x : A) → i < length xs → x ≡ get_or xs i x →
    (bs ++ flat_map f (take i xs)) ++ f x ≡ bs ++ flat_map f (take (i + 1) xs)
more_taken f bs xs i x h is = flat_map_more f bs (take i xs) x ∙ ap (λ v. bs ++ flat_map f v) (sym (take_at xs i x h is))
