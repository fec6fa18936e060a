-- Shared: lists by their last items.
use Rattle.std.proofs.Common.{◌≡◌, ℕ, zero, suc, ◌+◌, ◌<◌, take, drop, List, [], ◌∷◌, ◌++◌, length, Option, Some, None, MatchOption, refl, sym, ap, ◌∙◌, subst, inl, inr, ◌⊎◌, arith, append_assoc}

-- a list with one more item, split
pub snoc-split : {A : Type 0} (xs : List A) (x : A) (front : List A) (l : A) (rest : List A) → xs ++ x ∷ [] ≡ front ++ l ∷ rest
    → ((rest ≡ []) × (front ≡ xs) × (l ≡ x)) ⊎ ((less : List A) × (xs ≡ front ++ l ∷ less))
snoc-split [] x [] l rest h = inl (cc, refl, cc)
snoc-split [] x (f ∷ front) l rest h = let none : [] ≡ front ++ l ∷ rest = cc in absurd (elim front as (λ f. [] ≡ f ++ l ∷ rest → ⊥) [ [] ↦ λ k. cc k | g ∷ gs ↦ λ k. cc k ] none)
snoc-split (y ∷ ys) x [] l rest h = inr (ys, let e : y ≡ l = cc in ap (λ z. z ∷ ys) e)
snoc-split (y ∷ ys) x (f ∷ front) l rest h =
    let e : y ≡ f = cc in
    let tail : ys ++ x ∷ [] ≡ front ++ l ∷ rest = cc in
    elim (snoc-split ys x front l rest tail) [
      | inl k ↦ inl (k.0, ap (λ z. z ∷ front) (sym e) ∙ ap (λ t. y ∷ t) k.1, k.2)
      | inr k ↦ inr (k.0, ap (λ z. z ∷ ys) e ∙ ap (λ t. f ∷ t) k.1)
    ]

pub last-split : {A : Type 0} (xs : List A) → 0 < length xs → (front : List A) × (x : A) × (xs ≡ front ++ x ∷ [])
last-split [] h = absurd (omega (arith, h))
last-split (x ∷ []) h = ([], x, refl)
last-split (x ∷ y ∷ xs) h = let more = last-split (y ∷ xs) (omega arith) in (x ∷ more.0, more.1, ap (λ l. x ∷ l) more.2)

pub pop-is : {A : Type 0} (xs ys : List A) (o : Option A) (x : A) → MatchOption o ((xs ≡ []) × (ys ≡ [])) (λ last. xs ≡ ys ++ last ∷ []) → o ≡ Some x → xs ≡ ys ++ x ∷ []
pop-is {A = A} xs ys o x h e = subst (λ (p : Option A). MatchOption p ((xs ≡ []) × (ys ≡ [])) (λ last. xs ≡ ys ++ last ∷ [])) e h

pub pop-some : {A : Type 0} (xs ys : List A) (o : Option A) → MatchOption o ((xs ≡ []) × (ys ≡ [])) (λ last. xs ≡ ys ++ last ∷ []) → (xs ≡ [] → ⊥) → (x : A) × (xs ≡ ys ++ x ∷ [])
pop-some xs ys None h some = absurd (some h.0)
pop-some xs ys (Some x) h some = (x, h)

-- one more item of a list's rest
pub take-next : {A : Type 0} (k : ℕ) (xs : List A) → take (k + 1) xs ≡ take k xs ++ take 1 (drop k xs)
take-next k xs = let on : k + 1 ≡ suc k = omega arith in ap (λ n. take n xs) on ∙ next k xs
  where
    next : {A : Type 0} (k : ℕ) (xs : List A) → take (suc k) xs ≡ take k xs ++ take 1 (drop k xs)
    next zero [] = refl
    next zero (x ∷ xs) = refl
    next (suc k) [] = refl
    next (suc k) (x ∷ xs) = ap (λ l. x ∷ l) (next k xs)

pub drop-next : {A : Type 0} (k : ℕ) (xs : List A) → drop (k + 1) xs ≡ drop 1 (drop k xs)
drop-next k xs = let on : k + 1 ≡ suc k = omega arith in ap (λ n. drop n xs) on ∙ next k xs
  where
    next : {A : Type 0} (k : ℕ) (xs : List A) → drop (suc k) xs ≡ drop 1 (drop k xs)
    next zero xs = refl
    next (suc k) [] = refl
    next (suc k) (x ∷ xs) = next k xs

-- the next item of a list, behind those taken up before
pub taken-next : {A : Type 0} (said spare : List A) (k : ℕ) (was now rest : List A) → now ≡ was ++ take 1 rest → was ≡ said ++ take k spare → rest ≡ drop k spare
    → now ≡ said ++ take (k + 1) spare
taken-next said spare k was now rest one before behind =
    one ∙ ap (λ l. l ++ take 1 rest) before ∙ ap (λ l. (said ++ take k spare) ++ take 1 l) behind
    ∙ append_assoc said (take k spare) (take 1 (drop k spare)) ∙ ap (λ l. said ++ l) (sym (take-next k spare))
