-- The last value of a list, as a loop finds it that keeps the latest.
use Rattle.std.proofs.Common.{◌≡◌, ℕ, ◌+◌, ◌<◌, List, length, map, drop, get_or, refl, sym, ap, ◌∙◌}
use Rattle.std.specs.Prelude.{Option, None, Some, unwrap_or}
use Rattle.std.specs.Option.{option_or}
use Rattle.common_laws.specs.Lists.{drop_at}
use Rattle.text_grammar.specs.Last.{last_given}

-- the outer default counts if the first value is missing
in_front : {A : Type 0} (a b : Option A) (value : A) → unwrap_or (option_or a b) value ≡ unwrap_or a (unwrap_or b value)
in_front None b value = refl
in_front (Some x) b value = refl

-- a step of the loop
pub last_more : {A B : Type 0} (said : A → Option B) (value next : B) (items : List A) (i : ℕ) (item : A) → i < length items → item ≡ get_or items i item → next ≡ unwrap_or (said item) value
    → unwrap_or (last_given said (drop (i + 1) items)) next ≡ unwrap_or (last_given said (drop i items)) value
last_more said value next items i item low is kept =
    let rest = last_given said (drop (i + 1) items) in
    ap (unwrap_or rest) kept
    ∙ sym (in_front rest (said item) value)
    ∙ ap (λ l. unwrap_or (last_given said l) value) (sym (drop_at items i item low is))

-- a step of the loop over views of the items
pub last_shown : {A C B : Type 0} (show : A → C) (said : C → Option B) (items : List A) (i : ℕ) (item : A) (old : B) {new all : B}
    → i < length items → item ≡ get_or items i item → new ≡ unwrap_or (said (show item)) old → unwrap_or (last_given said (map show (drop i items))) old ≡ all
    → unwrap_or (last_given said (map show (drop (i + 1) items))) new ≡ all
last_shown show said items i item old low is new goes =
    let rest = last_given said (map show (drop (i + 1) items)) in
    ap (unwrap_or rest) new
    ∙ sym (in_front rest (said (show item)) old)
    ∙ ap (λ l. unwrap_or (last_given said (map show l)) old) (sym (drop_at items i item low is))
    ∙ goes
