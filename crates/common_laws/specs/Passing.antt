-- Lemmas on boolean tests of all elements of a list, and of some element.
use Rattle.std.proofs.Common.{◌≡◌, Bool, true, false, ◌&&◌, inl, inr, List, [], ◌∷◌, ◌++◌, map, flat_map, filter, cond, refl}
use Rattle.std.specs.List.{list_all, list_any, AllByRecursion}
use Rattle.std.proofs.lemmas.Bool.{false≢true, and_parts, and_from, or_left, or_right, or_cases}

pub all-append : {A : Type 0} (p : A → Bool) (xs ys : List A) → list_all p xs ≡ true → list_all p ys ≡ true → list_all p (xs ++ ys) ≡ true
all-append p [] ys h k = k
all-append p (x ∷ xs) ys h k =
    let parts = and_parts (p x) (list_all p xs) h in
    and_from (p x) (list_all p (xs ++ ys)) parts.0 (all-append p xs ys parts.1 k)

pub all-front : {A : Type 0} (p : A → Bool) (xs ys : List A) → list_all p (xs ++ ys) ≡ true → list_all p xs ≡ true
all-front p [] ys h = refl
all-front p (x ∷ xs) ys h =
    let parts = and_parts (p x) (list_all p (xs ++ ys)) h in
    and_from (p x) (list_all p xs) parts.0 (all-front p xs ys parts.1)

-- a weaker test
pub all-less : {A : Type 0} (p q : A → Bool) → ((x : A) → p x ≡ true → q x ≡ true) → (xs : List A) → list_all p xs ≡ true → list_all q xs ≡ true
all-less p q less [] h = refl
all-less p q less (x ∷ xs) h =
    let parts = and_parts (p x) (list_all p xs) h in
    and_from (q x) (list_all q xs) (less x parts.0) (all-less p q less xs parts.1)

pub all-both : {A : Type 0} (p q : A → Bool) (xs : List A) → list_all p xs ≡ true → list_all q xs ≡ true → list_all (λ x. p x && q x) xs ≡ true
all-both p q [] h k = refl
all-both p q (x ∷ xs) h k =
    let ps = and_parts (p x) (list_all p xs) h in
    let qs = and_parts (q x) (list_all q xs) k in
    and_from (p x && q x) (list_all (λ y. p y && q y) xs) (and_from (p x) (q x) ps.0 qs.0) (all-both p q xs ps.1 qs.1)

pub all-any : {A : Type 0} (p : A → Bool) → ((x : A) → p x ≡ true) → (xs : List A) → list_all p xs ≡ true
all-any p each [] = refl
all-any p each (x ∷ xs) = and_from (p x) (list_all p xs) (each x) (all-any p each xs)

pub all-map : {A B : Type 0} (p : A → Bool) (q : B → Bool) (f : A → B) → ((x : A) → p x ≡ true → q (f x) ≡ true) → (xs : List A) → list_all p xs ≡ true → list_all q (map f xs) ≡ true
all-map p q f each [] h = refl
all-map p q f each (x ∷ xs) h =
    let parts = and_parts (p x) (list_all p xs) h in
    and_from (q (f x)) (list_all q (map f xs)) (each x parts.0) (all-map p q f each xs parts.1)

pub all-flat : {A B : Type 0} (p : A → Bool) (q : B → Bool) (f : A → List B) → ((x : A) → p x ≡ true → list_all q (f x) ≡ true) → (xs : List A) → list_all p xs ≡ true → list_all q (flat_map f xs) ≡ true
all-flat p q f each [] h = refl
all-flat p q f each (x ∷ xs) h =
    let parts = and_parts (p x) (list_all p xs) h in
    all-append q (f x) (flat_map f xs) (each x parts.0) (all-flat p q f each xs parts.1)

pub all-filter : {A : Type 0} (p keep : A → Bool) (xs : List A) → list_all p xs ≡ true → list_all p (filter keep xs) ≡ true
all-filter p keep [] h = refl
all-filter p keep (x ∷ xs) h =
    let parts = and_parts (p x) (list_all p xs) h in
    let rest = all-filter p keep xs parts.1 in
    elim (keep x) as (λ b. list_all p (cond b (x ∷ filter keep xs) (filter keep xs)) ≡ true) [
      | true ↦ and_from (p x) (list_all p (filter keep xs)) parts.0 rest
      | false ↦ rest
    ]

-- ---- some element

pub any-front : {A : Type 0} (p : A → Bool) (xs ys : List A) → list_any p xs ≡ true → list_any p (xs ++ ys) ≡ true
any-front p [] ys h = absurd (false≢true h)
any-front p (x ∷ xs) ys h = elim (or_cases (p x) (list_any p xs) h) [
  | inl e ↦ or_left (p x) (list_any p (xs ++ ys)) e
  | inr e ↦ or_right (p x) (list_any p (xs ++ ys)) (any-front p xs ys e)
]

pub any-back : {A : Type 0} (p : A → Bool) (xs ys : List A) → list_any p ys ≡ true → list_any p (xs ++ ys) ≡ true
any-back p [] ys h = h
any-back p (x ∷ xs) ys h = or_right (p x) (list_any p (xs ++ ys)) (any-back p xs ys h)

-- ---- empty lists

pub none-front : {A : Type 0} (xs ys : List A) → xs ++ ys ≡ [] → xs ≡ []
none-front [] ys e = refl
none-front (x ∷ xs) ys e = absurd (cc e)

pub none-back : {A : Type 0} (xs ys : List A) → xs ++ ys ≡ [] → ys ≡ []
none-back [] ys e = e
none-back (x ∷ xs) ys e = absurd (cc e)

pub each-none : {A B : Type 0} (f : A → List B) (xs : List A) → flat_map f xs ≡ [] → AllByRecursion (λ x. f x ≡ []) xs
each-none f [] e = tt
each-none f (x ∷ xs) e = (none-front (f x) (flat_map f xs) e, each-none f xs (none-back (f x) (flat_map f xs) e))

pub each-less : {A : Type 0} (P Q : A → Type 0) → ((x : A) → P x → Q x) → (xs : List A) → AllByRecursion P xs → AllByRecursion Q xs
each-less P Q less [] h = tt
each-less P Q less (x ∷ xs) h = (less x h.0, each-less P Q less xs h.1)
