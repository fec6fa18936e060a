-- Lemmas on properties of all members of a list, and of some member.
use Rattle.std.proofs.Common.{◌≡◌, ℕ, zero, suc, Bool, true, false, ◌&&◌, ◌||◌, cond, inl, inr, List, [], ◌∷◌, ◌++◌, map, flat_map, filter, Some, refl, ap, ◌∙◌, subst}
use Rattle.std.specs.List.{AllByRecursion, list_all, list_any, slice_get}
use Rattle.std.proofs.lemmas.Bool.{false≢true, and_from, and_parts, or_cases, or_left, or_right}
use Rattle.std.proofs.lemmas.Option.{none-some, same_Some}

-- ---- each member

pub each-append : {A : Type 0} (P : A → Type 0) (xs ys : List A) → AllByRecursion P xs → AllByRecursion P ys → AllByRecursion P (xs ++ ys)
each-append P [] ys h k = k
each-append P (x ∷ xs) ys h k = (h.0, each-append P xs ys h.1 k)

pub each-front : {A : Type 0} (P : A → Type 0) (xs ys : List A) → AllByRecursion P (xs ++ ys) → AllByRecursion P xs
each-front P [] ys h = tt
each-front P (x ∷ xs) ys h = (h.0, each-front P xs ys h.1)

pub each-back : {A : Type 0} (P : A → Type 0) (xs ys : List A) → AllByRecursion P (xs ++ ys) → AllByRecursion P ys
each-back P [] ys h = h
each-back P (x ∷ xs) ys h = each-back P xs ys h.1

pub each-flat : {A B : Type 0} (P : B → Type 0) (f : A → List B) (xs : List A) → AllByRecursion (λ x. AllByRecursion P (f x)) xs → AllByRecursion P (flat_map f xs)
each-flat P f [] h = tt
each-flat P f (x ∷ xs) h = each-append P (f x) (flat_map f xs) h.0 (each-flat P f xs h.1)

pub each-of-flat : {A B : Type 0} (P : B → Type 0) (f : A → List B) (xs : List A) → AllByRecursion P (flat_map f xs) → AllByRecursion (λ x. AllByRecursion P (f x)) xs
each-of-flat P f [] h = tt
each-of-flat P f (x ∷ xs) h = (each-front P (f x) (flat_map f xs) h, each-of-flat P f xs (each-back P (f x) (flat_map f xs) h))

-- a property of everything
pub each-any : {A : Type 0} (P : A → Type 0) (xs : List A) → ((x : A) → P x) → AllByRecursion P xs
each-any P [] f = tt
each-any P (x ∷ xs) f = (f x, each-any P xs f)

pub each-map : {A B : Type 0} (P : B → Type 0) (f : A → B) (xs : List A) → AllByRecursion (λ x. P (f x)) xs → AllByRecursion P (map f xs)
each-map P f [] h = tt
each-map P f (x ∷ xs) h = (h.0, each-map P f xs h.1)

pub each-of-map : {A B : Type 0} (P : B → Type 0) (f : A → B) (xs : List A) → AllByRecursion P (map f xs) → AllByRecursion (λ x. P (f x)) xs
each-of-map P f [] h = tt
each-of-map P f (x ∷ xs) h = (h.0, each-of-map P f xs h.1)

-- a consequence of one property of all members, or of two
pub each-then : {A : Type 0} (P Q : A → Type 0) (xs : List A) → ((x : A) → P x → Q x) → AllByRecursion P xs → AllByRecursion Q xs
each-then P Q [] f h = tt
each-then P Q (x ∷ xs) f h = (f x h.0, each-then P Q xs f h.1)

pub each-both : {A : Type 0} (P Q R : A → Type 0) (xs : List A) → ((x : A) → P x → Q x → R x) → AllByRecursion P xs → AllByRecursion Q xs → AllByRecursion R xs
each-both P Q R [] f h k = tt
each-both P Q R (x ∷ xs) f h k = (f x h.0 k.0, each-both P Q R xs f h.1 k.1)

-- a property of all members that pass a test
pub each-passed : {A : Type 0} (p : A → Bool) (P : A → Type 0) (xs : List A) → AllByRecursion (λ x. p x ≡ true → P x) xs → AllByRecursion P (filter p xs)
each-passed p P [] h = tt
each-passed p P (x ∷ xs) h =
    let rest = each-passed p P xs h.1 in
    elim (p x) as (λ b. p x ≡ b → AllByRecursion P (cond b (x ∷ filter p xs) (filter p xs))) [
      | true ↦ λ e. (h.0 e, rest)
      | false ↦ λ e. rest
    ] refl

pub each-listed : {A : Type 0} (p : A → Bool) (xs : List A) → list_all p xs ≡ true → AllByRecursion (λ x. p x ≡ true) xs
each-listed p [] h = tt
each-listed p (x ∷ xs) h =
    let parts = and_parts (p x) (list_all p xs) h in
    (parts.0, each-listed p xs parts.1)

pub all-listed : {A : Type 0} (p : A → Bool) (xs : List A) → AllByRecursion (λ x. p x ≡ true) xs → list_all p xs ≡ true
all-listed p [] h = refl
all-listed p (x ∷ xs) h = and_from (p x) (list_all p xs) h.0 (all-listed p xs h.1)

pub each-at : {A : Type 0} (P : A → Type 0) (xs : List A) (i : ℕ) (x : A) → AllByRecursion P xs → slice_get xs i ≡ Some x → P x
each-at P [] i x h at = absurd (none-some x at)
each-at P (y ∷ xs) zero x h at = subst P (same_Some y x at) h.0
each-at P (y ∷ xs) (suc i) x h at = each-at P xs i x h.1 at

-- ---- tests

pub filter-kept : {A : Type 0} (p : A → Bool) (xs : List A) → AllByRecursion (λ x. p x ≡ true) xs → filter p xs ≡ xs
filter-kept p [] h = refl
filter-kept p (x ∷ xs) h = ap (λ b. cond b (x ∷ filter p xs) (filter p xs)) h.0 ∙ ap (λ ys. x ∷ ys) (filter-kept p xs h.1)

pub filter-none : {A : Type 0} (p : A → Bool) (xs : List A) → AllByRecursion (λ x. p x ≡ false) xs → filter p xs ≡ []
filter-none p [] h = refl
filter-none p (x ∷ xs) h = ap (λ b. cond b (x ∷ filter p xs) (filter p xs)) h.0 ∙ filter-none p xs h.1

-- ---- some member

-- elimination: some member passes, and each that passes implies G
pub from-some : {A : Type 0} (p : A → Bool) (G : Type 0) (xs : List A) → AllByRecursion (λ x. p x ≡ true → G) xs → list_any p xs ≡ true → G
from-some p G [] h some = absurd (false≢true some)
from-some p G (x ∷ xs) h some = elim (or_cases (p x) (list_any p xs) some) [
  | inl e ↦ h.0 e
  | inr e ↦ from-some p G xs h.1 e
]

pub some-then : {A : Type 0} (p q : A → Bool) (xs : List A) → ((x : A) → p x ≡ true → q x ≡ true) → list_any p xs ≡ true → list_any q xs ≡ true
some-then p q [] f some = absurd (false≢true some)
some-then p q (x ∷ xs) f some = elim (or_cases (p x) (list_any p xs) some) [
  | inl e ↦ or_left (q x) (list_any q xs) (f x e)
  | inr e ↦ or_right (q x) (list_any q xs) (some-then p q xs f e)
]

pub some-map : {A B : Type 0} (p : B → Bool) (f : A → B) (xs : List A) → list_any p (map f xs) ≡ list_any (λ x. p (f x)) xs
some-map p f [] = refl
some-map p f (x ∷ xs) = ap (λ b. p (f x) || b) (some-map p f xs)

-- a member that passes both tests is in the list that one test filters
pub some-kept : {A : Type 0} (keep p : A → Bool) (xs : List A) → list_any (λ x. keep x && p x) xs ≡ true → list_any p (filter keep xs) ≡ true
some-kept keep p [] some = absurd (false≢true some)
some-kept keep p (x ∷ xs) some =
    let rest = some-kept keep p xs in
    elim (keep x) as (λ b. ((b && p x) || list_any (λ y. keep y && p y) xs) ≡ true → list_any p (cond b (x ∷ filter keep xs) (filter keep xs)) ≡ true) [
      | true ↦ λ h. elim (or_cases (p x) (list_any (λ y. keep y && p y) xs) h) [
        | inl e ↦ or_left (p x) (list_any p (filter keep xs)) e
        | inr e ↦ or_right (p x) (list_any p (filter keep xs)) (rest e)
      ]
      | false ↦ λ h. rest h
    ] some
